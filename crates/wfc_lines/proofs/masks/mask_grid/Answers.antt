use Rattle.wfc_lines.proofs.masks.mask_grid.Goals as goal

pub returns-in-Ragged : goal.returns-in-Ragged
returns-in-Ragged g c = record { told = rw c.in-Ragged.is c.put_numbered.ensures.told }

pub returns-in-BadByte : goal.returns-in-BadByte
returns-in-BadByte g c = record { told = rw c.in-BadByte.is c.twice_numbered.ensures.told }

pub returns-in-TooLarge : goal.returns-in-TooLarge
returns-in-TooLarge g c = record { told = rw c.in-TooLarge.is c.put_named-in-TooLarge.ensures.told }

use Rattle.wfc_lines.proofs.grids.grid.Goals as goal

pub returns-in-BadByte : goal.returns-in-BadByte
returns-in-BadByte g c = record { told = rw c.in-BadByte.is c.twice_numbered.ensures.told }

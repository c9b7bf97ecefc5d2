use Rattle.wfc_lines.proofs.palettes.palette.Goals as goal

pub returns-in-TooManyColours : goal.returns-in-TooManyColours
returns-in-TooManyColours g c = record { told = rw c.in-TooManyColours.is c.put_numbered.ensures.told }

use Rattle.wfc_lines.proofs.layouts.render.Goals as goal

pub returns-in-TooLarge : goal.returns-in-TooLarge
returns-in-TooLarge g c = record { told = rw c.in-TooLarge.is c.count.ensures.told }

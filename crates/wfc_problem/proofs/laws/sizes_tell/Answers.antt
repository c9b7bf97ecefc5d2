use Rattle.wfc_problem.proofs.Sizes.{values_at_are, values_at_rise, dead_iff}
use Rattle.wfc_problem.proofs.laws.sizes_tell.Goals as goal

pub returns : goal.returns
returns c = record { values = values_at_are; rising = values_at_rise; dead = dead_iff }

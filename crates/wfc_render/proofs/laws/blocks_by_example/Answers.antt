use Rattle.std.proofs.Common.{refl}
use Rattle.std.specs.Fmt.{digits}
use Rattle.wfc_render.proofs.laws.blocks_by_example.Goals as goal

pub returns-clause-shown : goal.returns-clause-shown
unfolding digits
returns-clause-shown c = refl

pub returns-clause-empty : goal.returns-clause-empty
unfolding digits
returns-clause-empty c = refl

pub returns-clause-dead : goal.returns-clause-dead
unfolding digits
returns-clause-dead c = refl

pub returns-clause-steps : goal.returns-clause-steps
unfolding digits
returns-clause-steps c = refl

use Rattle.std.proofs.Common.{arith, refl}
use Rattle.wfc_task.proofs.laws.sides_of_masks.Goals as goal

pub returns-clause-sides : goal.returns-clause-sides
returns-clause-sides c = record { same_width = refl; same_height = refl }

pub returns-clause-exchanged : goal.returns-clause-exchanged
returns-clause-exchanged c has = omega (arith, has.same_width)

pub returns-clause-higher : goal.returns-clause-higher
returns-clause-higher c has = omega (arith, has.same_height)

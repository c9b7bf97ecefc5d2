-- Cell 0 has no neighbour to the left.
use Rattle.std.proofs.Common.{◌≡◌, ℕ, Some, None, refl, arith}
use Rattle.wfc_problem.specs.Corner.{crossroads_sides}
use Rattle.wfc_problem.proofs.examples.sides_are_told.Goals as goal

-- none is no cell
nowhere : (n : ℕ) → None ≡ Some n → ⊥
nowhere n e = cc

pub returns-clause-not_its_own : goal.returns-clause-not_its_own
returns-clause-not_its_own c = λ kept. nowhere 4294967294 ((kept 0 crossroads_sides (omega arith) refl).each 0 (omega arith)).beside

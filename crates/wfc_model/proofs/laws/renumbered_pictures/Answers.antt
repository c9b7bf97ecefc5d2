use Rattle.std.proofs.Common.{◌≡◌, ℕ, zero, suc, [], ◌∷◌, lit<, arith, refl}
use Rattle.std.specs.List.{Contains}
use Rattle.std.proofs.lemmas.List.Elements.{All-from_recursion}
use Rattle.wfc_model.specs.Legal.{kept_pin}
use Rattle.wfc_model.proofs.RenumberedLemmas.{renumbered_picture-raster_of}
use Rattle.wfc_model.proofs.laws.renumbered_pictures.Goals as goal

pub returns-clause-two_to_one : goal.returns-clause-two_to_one
returns-clause-two_to_one c renumbering =
    let same : 1 ≡ 2 = renumbering.one_to_one 1 2 (0, lit< tt, refl) (1, lit< tt, refl) refl in omega (arith, same)

-- 7 is none of the six numbers
not_there : Contains {X = ℕ} (1 ∷ 2 ∷ 3 ∷ 4 ∷ 5 ∷ 6 ∷ []) 7 → ⊥
not_there (zero, inside, same) = omega (arith, same)
not_there (suc zero, inside, same) = omega (arith, same)
not_there (suc (suc zero), inside, same) = omega (arith, same)
not_there (suc (suc (suc zero)), inside, same) = omega (arith, same)
not_there (suc (suc (suc (suc zero))), inside, same) = omega (arith, same)
not_there (suc (suc (suc (suc (suc zero)))), inside, same) = omega (arith, same)
not_there (suc (suc (suc (suc (suc (suc k))))), inside, same) = omega (arith, inside)

pub returns-clause-unknown : goal.returns-clause-unknown
returns-clause-unknown c renumbering = not_there (renumbering.known 0 (kept_pin 1 0 7) (lit< tt))

pub returns-clause-numbers : goal.returns-clause-numbers
returns-clause-numbers c f w h numbers filled = renumbered_picture-raster_of f w h numbers filled

pub returns-clause-known : goal.returns-clause-known
returns-clause-known c = All-from_recursion (Contains {X = ℕ} (1 ∷ 2 ∷ 3 ∷ 4 ∷ 5 ∷ 6 ∷ [])) (2 ∷ 5 ∷ []) ((1, lit< tt, refl), ((4, lit< tt, refl), tt))

pub returns-clause-not_known : goal.returns-clause-not_known
returns-clause-not_known c known = not_there (known 0 0 (lit< tt))

use Rattle.std.proofs.Common.{◌≡◌, ℕ, zero, suc, ◌+◌, ◌*◌, ◌<◌, ◌≤◌, ◌⊎◌, inl, inr, true, false, [], ◌∷◌, refl, arith}
use Rattle.std.specs.Prelude.{◌&&◌, slice_index_or}
use Rattle.wfc_model.specs.Legal.{banned_pin}
use Rattle.wfc_places.specs.Flags.{flag}
use Rattle.wfc_places.specs.Marks.{suits}
use Rattle.wfc_places.proofs.laws.cut_rows_by_example.Goals as goal

pub returns-clause-kept : goal.returns-clause-kept
returns-clause-kept c cut = let first = cut.here 0 (omega arith) in cc

pub returns-clause-other : goal.returns-clause-other
returns-clause-other c cut = let third = cut.others 2 (inl (omega arith)) in cc

pub returns-clause-longer : goal.returns-clause-longer
returns-clause-longer c cut = omega (arith, cut.as_long)

pub returns-clause-cut : goal.returns-clause-cut
returns-clause-cut c = record { as_long = refl; here = here; others = others }
  where
    here : (v : ℕ) → v < 3 → flag 3 (true ∷ false ∷ true ∷ false ∷ true ∷ false ∷ []) 1 v ≡ (flag 3 (true ∷ false ∷ true ∷ true ∷ true ∷ false ∷ []) 1 v && suits (banned_pin 0 0 0) v)
    here zero below = refl
    here (suc zero) below = refl
    here (suc (suc zero)) below = refl
    here (suc (suc (suc v))) below = absurd (omega arith)

    others : (k : ℕ) → (k < 1 * 3) ⊎ (1 * 3 + 3 ≤ k) → slice_index_or (true ∷ false ∷ true ∷ false ∷ true ∷ false ∷ []) k false ≡ slice_index_or (true ∷ false ∷ true ∷ true ∷ true ∷ false ∷ []) k false
    others zero apart = refl
    others (suc zero) apart = refl
    others (suc (suc zero)) apart = refl
    others (suc (suc (suc zero))) (inl less) = absurd (omega arith)
    others (suc (suc (suc zero))) (inr more) = absurd (omega arith)
    others (suc (suc (suc (suc k)))) apart = refl

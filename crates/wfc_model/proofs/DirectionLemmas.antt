-- The opposite of a direction.
use Rattle.std.proofs.Common.{◌≡◌, ℕ, ◌+◌, ◌-◌, ◌%◌, ◌<◌, ◌≤◌, ap, ◌∙◌, arith, inl, inr, ◌⊎◌}
use Rattle.std.proofs.lemmas.Bool.{cases_lt, cond-true, cond-false, lt-ltb, le-ltb}
use Rattle.wfc_model.specs.Direction.{opposite}

-- of one of the first four
pub opposite_low : (d : ℕ) → d < 4 → opposite d ≡ (d + 2) % 4
opposite_low d h = cond-true _ _ _ (lt-ltb d 4 h)

-- of one of the two others
pub opposite_high : (d : ℕ) → 4 ≤ d → opposite d ≡ 9 - d
opposite_high d h = cond-false _ _ _ (le-ltb d 4 h)

-- turning round twice
pub opposite-opposite : (d : ℕ) → d < 6 → opposite (opposite d) ≡ d
opposite-opposite d h = elim (cases_lt d 4) [
  | inl l ↦ ap opposite (opposite_low d l) ∙ opposite_low ((d + 2) % 4) (omega arith) ∙ omega arith
  | inr l ↦ ap opposite (opposite_high d l) ∙ opposite_high (9 - d) (omega arith) ∙ omega arith
]

-- the opposite of a direction that there is, is one
pub opposite_below : (dirs d : ℕ) → (dirs ≡ 4) ⊎ (dirs ≡ 6) → d < dirs → opposite d < dirs
opposite_below dirs d many h = elim (cases_lt d 4) [
  | inl l ↦ let e = opposite_low d l in elim many [ inl f ↦ omega arith | inr f ↦ omega arith ]
  | inr l ↦ let e = opposite_high d l in elim many [ inl f ↦ omega arith | inr f ↦ omega arith ]
]

-- Rows of numbers below one another: that two of them lie apart, and rows that are the same.
use Rattle.std.proofs.Common.{◌≡◌, ◌≢◌, ℕ, zero, suc, ◌+◌, ◌*◌, ◌<◌, ◌≤◌, ◌⊎◌, inl, inr, List, ◌++◌, refl, ap, ◌∙◌, arith}
use Rattle.std.specs.List.{flat_map, range_with_len}
use Rattle.std.proofs.lemmas.Bool.{cases_lt}
use Rattle.std.proofs.Math.Nat.{mul-le-mul_right}

-- rows of n lie apart
before_or_behind : (n c e v : ℕ) → v < n → (c < e) ⊎ (e < c) → (c * n + v < e * n) ⊎ (e * n + n ≤ c * n + v)
before_or_behind n c e v inside (inl l) = let more : (c + 1) * n ≤ e * n = mul-le-mul_right n (omega arith) in let next : (c + 1) * n ≡ c * n + n = omega arith in inl (omega arith)
before_or_behind n c e v inside (inr l) = let more : (e + 1) * n ≤ c * n = mul-le-mul_right n (omega arith) in let next : (e + 1) * n ≡ e * n + n = omega arith in inr (omega arith)

-- what stands in a row of n stands before or behind any other row
pub apart_rows : (n c e v : ℕ) → v < n → c ≢ e → (c * n + v < e * n) ⊎ (e * n + n ≤ c * n + v)
apart_rows n c e v inside ne =
    before_or_behind n c e v inside
    (elim (cases_lt c e) [ inl l ↦ inl l | inr ge ↦ elim (cases_lt e c) [ inl l ↦ inr l | inr le ↦ absurd (ne (omega arith)) ] ])

-- rows that are the same, joined
pub rows_same : {X : Type 0} (f g : ℕ → List X) (a n : ℕ) → ((k : ℕ) → a ≤ k → k < a + n → f k ≡ g k) → flat_map f (range_with_len a n) ≡ flat_map g (range_with_len a n)
rows_same f g a zero same = refl
rows_same f g a (suc n) same =
    ap (λ t. t ++ flat_map f (range_with_len (a + 1) n)) (same a (omega arith) (omega arith))
    ∙ ap (λ t. g a ++ t) (rows_same f g (a + 1) n (λ k low high. same k (omega arith) (omega arith)))

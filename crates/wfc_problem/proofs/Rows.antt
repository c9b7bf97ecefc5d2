-- One flag of a table is written.
use Rattle.std.proofs.Common.{◌≡◌, ◌≢◌, ℕ, zero, suc, ◌+◌, ◌-◌, ◌*◌, ◌<◌, ◌≤◌, Bool, false, cond, List, [], ◌∷◌, length, get_or, take, drop, set, sym, ◌∙◌, ap, refl, arith, inl, inr}
use Rattle.std.specs.Prelude.{◌&&◌, ◌==◌}
use Rattle.std.proofs.lemmas.List.{length-take, length-drop, get_or-set_same, get_or-set_other, drop-set-add, drop-set-lt, take-set-le}
use Rattle.std.proofs.Math.Nat.{mul-le-mul_right}
use Rattle.std.proofs.lemmas.Bool.{cases_eq, cases_lt, eq-eqb, ne_eqb, cond-true, cond-false}
use Rattle.wfc_problem.specs.Network.{row_of, has_flag}

-- the front of a list that is written
take-set-lt : (n : ℕ) (l : List Bool) (i : ℕ) (b : Bool) → take n (set l i b) ≡ set (take n l) i b
take-set-lt zero l i b = refl
take-set-lt (suc n) [] i b = refl
take-set-lt (suc n) (x ∷ l) zero b = refl
take-set-lt (suc n) (x ∷ l) (suc i) b = ap (λ r. x ∷ r) (take-set-lt n l i b)

-- the row that is written
pub row_of-set_same : (n : ℕ) (flags : List Bool) (c v : ℕ) (b : Bool) → row_of n (set flags (c * n + v) b) c ≡ set (row_of n flags c) v b
row_of-set_same n flags c v b = ap (take n) (drop-set-add (c * n) flags v b) ∙ take-set-lt n (drop (c * n) flags) v b

-- every other
pub row_of-set_other : (n : ℕ) (flags : List Bool) (c v c' : ℕ) (b : Bool) → v < n → c' ≢ c → row_of n (set flags (c * n + v) b) c' ≡ row_of n flags c'
row_of-set_other n flags c v c' b hv ne = elim (cases_lt c c') [
  | inl l ↦
      let le : suc c * n ≤ c' * n = mul-le-mul_right n l in
      ap (take n) (drop-set-lt (c' * n) flags (c * n + v) b (omega arith))
  | inr l ↦
      let le : suc c' * n ≤ c * n = mul-le-mul_right n (let z : c' < c = omega arith in z) in
      let e : c * n + v ≡ c' * n + (c * n + v - c' * n) = omega arith in
      ap (λ i. take n (drop (c' * n) (set flags i b))) e
      ∙ ap (take n) (drop-set-add (c' * n) flags (c * n + v - c' * n) b)
      ∙ take-set-le n (drop (c' * n) flags) (c * n + v - c' * n) b (omega arith)
]

-- a row of a whole table
pub length-row_of : (n : ℕ) (flags : List Bool) (c rows : ℕ) → length flags ≡ rows * n → c < rows → length (row_of n flags c) ≡ n
length-row_of n flags c rows e h =
    let le : suc c * n ≤ rows * n = mul-le-mul_right n h in
    omega (arith, length-take n (drop (c * n) flags), length-drop (c * n) flags)

-- the flag in a row after a write
pub flag-set : (n : ℕ) (flags : List Bool) (c v : ℕ) (b : Bool) (c' v' : ℕ) → v < n → v < length (row_of n flags c) → has_flag n (set flags (c * n + v) b) c' v' ≡ cond ((c' == c) && (v' == v)) b (has_flag n flags c' v')
flag-set n flags c v b c' v' hv hr = elim (cases_eq c' c) [
  | inl e ↦
      let row = row_of n flags c in
      let here : has_flag n (set flags (c * n + v) b) c' v' ≡ get_or (set row v b) v' false = ap (λ x. has_flag n (set flags (c * n + v) b) x v') e ∙ ap (λ r. get_or r v' false) (row_of-set_same n flags c v b) in
      let there : has_flag n flags c' v' ≡ get_or row v' false = ap (λ x. has_flag n flags x v') e in
      let tc = eq-eqb c' c e in
      elim (cases_eq v' v) [
        | inl f ↦
            here ∙ ap (λ x. get_or (set row v b) x false) f ∙ get_or-set_same row v b false hr
            ∙ sym (cond-true _ _ _ (ap (λ t. t && (v' == v)) tc ∙ eq-eqb v' v f))
        | inr ne ↦
            here ∙ get_or-set_other row v v' b false ne ∙ sym there
            ∙ sym (cond-false _ _ _ (ap (λ t. t && (v' == v)) tc ∙ ne_eqb v' v ne))
      ]
  | inr ne ↦
      ap (λ r. get_or r v' false) (row_of-set_other n flags c v c' b hv ne)
      ∙ sym (cond-false _ _ _ (ap (λ t. t && (v' == v)) (ne_eqb c' c ne)))
]

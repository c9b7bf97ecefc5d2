-- Which value a number draws: the one in whose share it is.
use Rattle.std.proofs.Common.{◌≡◌, ℕ, suc, ◌+◌, ◌%◌, ◌<◌, ◌≤◌, List, [], ◌∷◌, ◌++◌, length, get_or, refl, sym, ◌∙◌, ap, subst, arith, inl, inr}
use Rattle.std.specs.Prelude.{Contains, ◌↔◌}
use Rattle.std.specs.List.{sum_by}
use Rattle.std.specs.List.Sorted.{IsStrictlyIncreasing}
use Rattle.std.proofs.lemmas.Bool.{cases_lt, lt-ltb, le-ltb, cond-true, cond-false}
use Rattle.std.proofs.lemmas.List.{get_or_default}
use Rattle.std.proofs.lemmas.List.Kept.{AllPairs-from_increasing}
use Rattle.std.proofs.lemmas.List.Sums.{sum_by-cons}
use Rattle.wfc_lists.proofs.Rising.{tail_rises}
use Rattle.wfc_problem.specs.Domains.{Test}
use Rattle.wfc_problem.specs.Network.{Network, IsProblem, value_weight}
use Rattle.wfc_problem.specs.Sizes.{values_at}
use Rattle.wfc_problem.proofs.CallerLemmas.{values_at_rise}
use Rattle.wfc_choose.specs.Draw.{drawn_value, first_above, IsInShare}
use Rattle.wfc_choose.proofs.DrawLemmas.{first_Contains, sum_some}

-- the number is in the share of v, once the weights so far are counted on from `running`
abbrev pub IsInShareFrom : Network → ℕ → List ℕ → ℕ → ℕ → Type 0
IsInShareFrom P running front v number =
    (running + sum_by (value_weight P) front ≤ number) × (number < running + sum_by (value_weight P) front + value_weight P v)

-- the value in whose share the number is, is the first whose running sum exceeds it
shared_first : (P : Network) (number running : ℕ) (front : List ℕ) (v : ℕ) (behind : List ℕ) → IsInShareFrom P running front v number
    → first_above P number running (front ++ v ∷ behind) ≡ v
shared_first P number running [] v behind s = cond-true _ v _ (lt-ltb number (running + value_weight P v) (omega (arith, s.1)))
shared_first P number running (x ∷ front) v behind s =
    let both = sum_by-cons (value_weight P) x front in
    cond-false _ x _ (le-ltb number (running + value_weight P x) (omega (arith, s.0)))
    ∙ shared_first P number (running + value_weight P x) front v behind (omega (arith, s.0), omega (arith, s.1))

-- ---- in a rising list

-- the value stands behind the front
middle : (front : List ℕ) (v : ℕ) (behind : List ℕ) → get_or (front ++ v ∷ behind) (length front) 0 ≡ v
middle [] v behind = refl
middle (x ∷ front) v behind = middle front v behind

long : (front : List ℕ) (v : ℕ) (behind : List ℕ) → length front < length (front ++ v ∷ behind)
long [] v behind = omega arith
long (x ∷ front) v behind = let l = long front v behind in omega arith

-- the first isn't the value
first_below : (x : ℕ) (front : List ℕ) (v : ℕ) (behind : List ℕ) → IsStrictlyIncreasing (x ∷ (front ++ v ∷ behind)) → x < v
first_below x front v behind up =
    let l = long front v behind in
    let lt = AllPairs-from_increasing (x ∷ (front ++ v ∷ behind)) up 0 (suc (length front)) 0 (omega arith) (omega arith) in
    omega (arith, lt, middle front v behind)

-- it doesn't stand behind itself
not_behind : (v : ℕ) (behind : List ℕ) → IsStrictlyIncreasing (v ∷ behind) → Contains behind v → ⊥
not_behind v behind up has =
    let lt = AllPairs-from_increasing (v ∷ behind) up 0 (suc has.0) 0 (omega arith) (omega (arith, has.1)) in
    omega (arith, lt, get_or_default behind has.0 0 v has.1, has.2)

-- the first whose running sum exceeds the number has the number in its share
first_shared : (P : Network) (number running : ℕ) (front : List ℕ) (v : ℕ) (behind : List ℕ) → IsStrictlyIncreasing (front ++ v ∷ behind)
    → running ≤ number → number < running + sum_by (value_weight P) (front ++ v ∷ behind) → first_above P number running (front ++ v ∷ behind) ≡ v
    → IsInShareFrom P running front v number
first_shared P number running [] v behind up low high is = elim (cases_lt number (running + value_weight P v)) [
  | inl l ↦ (omega arith, omega arith)
  | inr le ↦
      let whole = sum_by-cons (value_weight P) v behind in
      let past = sym (cond-false _ v _ (le-ltb number (running + value_weight P v) le)) ∙ is in
      absurd (not_behind v behind up (subst (Contains behind) past (first_Contains P number (running + value_weight P v) behind le (omega arith))))
]
first_shared P number running (x ∷ front) v behind up low high is = elim (cases_lt number (running + value_weight P x)) [
  | inl l ↦
      let here = sym (cond-true _ x _ (lt-ltb number (running + value_weight P x) l)) ∙ is in
      let below = first_below x front v behind up in
      absurd (omega arith)
  | inr le ↦
      let whole = sum_by-cons (value_weight P) x (front ++ v ∷ behind) in
      let both = sum_by-cons (value_weight P) x front in
      let past = sym (cond-false _ x _ (le-ltb number (running + value_weight P x) le)) ∙ is in
      let rest = first_shared P number (running + value_weight P x) front v behind (tail_rises x (front ++ v ∷ behind) up) le (omega arith) past in
      (omega (arith, rest.0), omega (arith, rest.1))
]

-- ---- what is drawn

pub drawn_share : (P : Network) → IsProblem P → (D : Test) (c word v : ℕ) (front behind : List ℕ) → values_at P D c ≡ front ++ v ∷ behind
    → (drawn_value P (values_at P D c) word ≡ v) ↔ IsInShare P front v (word % sum_by (value_weight P) (values_at P D c))
unfolding drawn_value
drawn_share P p D c word v front behind e =
    let total : ℕ = sum_by (value_weight P) (values_at P D c) in
    let same : total ≡ sum_by (value_weight P) (front ++ v ∷ behind) = ap (sum_by (value_weight P)) e in
    let all = ap (first_above P (word % total) 0) e in
    let some : 0 < total = sum_some P p D c (omega (arith, ap length e, long front v behind)) in
    let up : IsStrictlyIncreasing (front ++ v ∷ behind) = subst IsStrictlyIncreasing e (values_at_rise P D c) in (
      λ is. let s = first_shared P (word % total) 0 front v behind up (omega arith) (omega arith) (sym all ∙ is) in (omega (arith, s.0), omega (arith, s.1)),
      λ s. all ∙ shared_first P (word % total) 0 front v behind (omega (arith, s.0), omega (arith, s.1)),
    )

-- The lists of supports: how long they are, and what stands in them.
use Rattle.std.proofs.Common.{◌≡◌, ℕ, zero, suc, ◌+◌, ◌-◌, ◌<◌, ◌≤◌, List, length, get_or, refl, ap, subst, arith, inl, inr}
use Rattle.std.specs.Prelude.{Contains}
use Rattle.std.specs.List.Sorted.{IsStrictlyIncreasing}
use Rattle.std.specs.Cmp.{both_ways}
use Rattle.std.proofs.lemmas.Bool.{cases_lt}
use Rattle.std.proofs.lemmas.List.{get_or_default}
use Rattle.wfc_lists.proofs.Lists.{has_Contains, Contains_has}
use Rattle.wfc_model.specs.Direction.{opposite}
use Rattle.wfc_model.proofs.DirectionLemmas.{opposite-opposite}
use Rattle.wfc_problem.specs.declared.TheConstants.{MAX_VALUES}
use Rattle.wfc_problem.specs.Network.{Network, values, supports_of, ok, HasTables, IsIndexed, IsProblem}

-- number k of a rising list is at least k
rising_ge : (xs : List ℕ) → IsStrictlyIncreasing xs → (k : ℕ) → k < length xs → k ≤ get_or xs k 0
rising_ge xs up zero l = omega arith
rising_ge xs up (suc k) l =
    let rest = rising_ge xs up k (omega arith) in
    let lt = up k (omega arith) in
    let e : k + 1 ≡ suc k = omega arith in
    let same = ap (λ i. get_or xs i 0) e in
    omega arith

-- a support is a value
pub support_in : (P : Network) → IsIndexed P → (v d : ℕ) (xs : List ℕ) → xs ≡ supports_of P v d → (k e : ℕ) → k < length xs → get_or xs k e < values P
support_in P i v d xs is k e l =
    let l' : k < length (supports_of P v d) = omega (arith, ap length is) in
    let same : get_or xs k e ≡ get_or (supports_of P v d) k e = ap (λ ys. get_or ys k e) is in
    let w = i.in_values v (get_or (supports_of P v d) k e) d (k, l', get_or_default (supports_of P v d) k (get_or (supports_of P v d) k e) e l') in
    omega arith

-- a value supports no more than there are values
pub supports_le : (P : Network) → IsIndexed P → (v d : ℕ) → length (supports_of P v d) ≤ values P
supports_le P i v d = elim (cases_lt 0 (length xs)) [
  | inl l ↦ omega (arith, rising_ge xs (i.rising v d) k (omega arith), support_in P i v d xs refl k 0 (omega arith))
  | inr l ↦ omega arith
]
  where
    xs : List ℕ
    xs = supports_of P v d

    k : ℕ
    k = length xs - 1

-- so there are at most 4,096
pub supports_few : (P : Network) → HasTables P → IsIndexed P → (v d : ℕ) → length (supports_of P v d) ≤ MAX_VALUES
supports_few P s i v d = omega (arith, supports_le P i v d, s.few_values)

-- what may stand beside a value has the value beside it the other way
pub ok_both : (P : Network) → IsProblem P → (d v w : ℕ) → d < P.dirs → ok P d v w ≡ ok P (opposite d) w v
ok_both P p d v w l =
    both_ways (ok P d v w) (ok P (opposite d) w v)
    (λ t. Contains_has (supports_of P w (opposite d)) v (p.symmetric v w d (has_Contains (supports_of P v d) w t)))
    (λ t. let back = p.symmetric w v (opposite d) (has_Contains (supports_of P w (opposite d)) v t) in
    let six : d < 6 = elim p.sized.four_or_six [ inl e ↦ omega arith | inr e ↦ omega arith ] in
    Contains_has (supports_of P v d) w (subst (λ (e : ℕ). Contains (supports_of P v e) w) (opposite-opposite d six) back))

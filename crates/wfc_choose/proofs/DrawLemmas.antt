-- Draws: what is left of the values of a cell behind those that were looked at.
use Rattle.std.proofs.Common.{◌≡◌, ℕ, zero, suc, ◌+◌, ◌-◌, ◌%◌, ◌<◌, ◌≤◌, Bool, true, false, cond, List, [], ◌∷◌, filter, length, get_or, refl, sym, ◌∙◌, ap, arith}
use Rattle.std.specs.Prelude.{Contains, nat_lt}
use Rattle.std.specs.List.{range_with_len, sum_by}
use Rattle.std.proofs.lemmas.Bool.{ltb-false, lt-ltb, le-ltb, cond-true, cond-false}
use Rattle.std.proofs.lemmas.List.Sums.{get_or-le-sum_by, sum_by-cons}
use Rattle.std.proofs.lemmas.List.{get_or_default}
use Rattle.wfc_lists.proofs.Lists.{Contains_first, Contains_later}
use Rattle.wfc_problem.specs.Domains.{Test}
use Rattle.wfc_problem.specs.Network.{Network, IsProblem, value_weight}
use Rattle.wfc_problem.specs.Sizes.{values_at}
use Rattle.wfc_problem.proofs.CallerLemmas.{some_weight, values_at_stand}
use Rattle.wfc_choose.specs.Draw.{drawn_value, first_above}

-- the numbers from v up to n that pass
abbrev pub rest_from : (ℕ → Bool) → ℕ → ℕ → List ℕ
rest_from p v n = filter p (range_with_len v (n - v))

-- behind the last there is none
pub rest_end : (p : ℕ → Bool) (v n : ℕ) → n ≤ v → rest_from p v n ≡ []
rest_end p v n l = let z : n - v ≡ 0 = omega arith in ap (λ (m : ℕ). filter p (range_with_len v m)) z

-- one that passes is the first
pub rest_taken : (p : ℕ → Bool) (v n : ℕ) → v < n → p v ≡ true → rest_from p v n ≡ v ∷ rest_from p (v + 1) n
rest_taken p v n l is =
    let s : n - v ≡ suc (n - (v + 1)) = omega arith in
    ap (λ (m : ℕ). filter p (range_with_len v m)) s ∙ cond-true (p v) (v ∷ rest_from p (v + 1) n) (rest_from p (v + 1) n) is

-- one that doesn't is none of them
pub rest_passed : (p : ℕ → Bool) (v n : ℕ) → v < n → p v ≡ false → rest_from p v n ≡ rest_from p (v + 1) n
rest_passed p v n l is =
    let s : n - v ≡ suc (n - (v + 1)) = omega arith in
    ap (λ (m : ℕ). filter p (range_with_len v m)) s ∙ cond-false (p v) (v ∷ rest_from p (v + 1) n) (rest_from p (v + 1) n) is

-- so where none of several passes, all are left out
rest_skipped : (p : ℕ → Bool) (v k n : ℕ) → v + k ≤ n → ((u : ℕ) → v ≤ u → u < v + k → p u ≡ false) → rest_from p v n ≡ rest_from p (v + k) n
rest_skipped p v zero n l none = let e : v ≡ v + 0 = omega arith in ap (λ m. rest_from p m n) e
rest_skipped p v (suc k) n l none =
    let e : (v + 1) + k ≡ v + suc k = omega arith in
    rest_passed p v n (omega (arith, l)) (none v (omega arith) (omega arith))
    ∙ rest_skipped p (v + 1) k n (omega (arith, l)) (λ u after before. none u (omega (arith, after)) (omega (arith, before)))
    ∙ ap (λ m. rest_from p m n) e

-- up to the next that passes
pub rest_next : (p : ℕ → Bool) (v w n : ℕ) → v ≤ w → w ≤ n → ((u : ℕ) → v ≤ u → u < w → p u ≡ false) → rest_from p v n ≡ rest_from p w n
rest_next p v w n after within none =
    let e : v + (w - v) ≡ w = omega (arith, after) in
    rest_skipped p v (w - v) n (omega (arith, after, within)) (λ u a b. none u a (omega (arith, b, after))) ∙ ap (λ m. rest_from p m n) e

-- from the first that passes on all are left
pub rest_begins : (p : ℕ → Bool) (w n : ℕ) → w ≤ n → ((u : ℕ) → u < w → p u ≡ false) → rest_from p w n ≡ filter p (range_with_len 0 n)
rest_begins p w n within none =
    let z : n - 0 ≡ n = omega arith in
    sym (rest_next p 0 w n (omega arith) within (λ u after before. none u before)) ∙ ap (λ m. filter p (range_with_len 0 m)) z

-- ---- sums

-- the weight of one that passes moves from the rest to the sum
pub sum_taken : (P : Network) (p : ℕ → Bool) (v n sum total : ℕ) → v < n → p v ≡ true → sum + sum_by (value_weight P) (rest_from p v n) ≡ total
    → (sum + value_weight P v) + sum_by (value_weight P) (rest_from p (v + 1) n) ≡ total
sum_taken P p v n sum total l is whole =
    omega (arith, whole, ap (sum_by (value_weight P)) (rest_taken p v n l is), sum_by-cons (value_weight P) v (rest_from p (v + 1) n))

-- and one that doesn't pass changes neither
pub sum_passed : (P : Network) (p : ℕ → Bool) (v n sum total : ℕ) → v < n → p v ≡ false → sum + sum_by (value_weight P) (rest_from p v n) ≡ total
    → sum + sum_by (value_weight P) (rest_from p (v + 1) n) ≡ total
sum_passed P p v n sum total l is whole = omega (arith, whole, ap (sum_by (value_weight P)) (rest_passed p v n l is))

-- behind the last value the sum is whole
pub sum_end : (P : Network) (p : ℕ → Bool) (v n sum total : ℕ) → n ≤ v → sum + sum_by (value_weight P) (rest_from p v n) ≡ total → sum ≡ total
sum_end P p v n sum total l whole = let z : sum_by (value_weight P) (rest_from p v n) ≡ 0 = ap (sum_by (value_weight P)) (rest_end p v n l) in omega (arith, whole, z)

-- ---- the first above

-- where the running sum exceeds the number the value is the one
pub above_here : (P : Network) (p : ℕ → Bool) (v n number running : ℕ) → v < n → p v ≡ true → number < running + value_weight P v
    → first_above P number running (rest_from p v n) ≡ v
above_here P p v n number running l is less =
    ap (first_above P number running) (rest_taken p v n l is) ∙ cond-true _ v _ (lt-ltb number (running + value_weight P v) less)

-- where it doesn't, the one stands behind
pub above_taken : (P : Network) (p : ℕ → Bool) (v n number running : ℕ) → v < n → p v ≡ true → running + value_weight P v ≤ number
    → first_above P number (running + value_weight P v) (rest_from p (v + 1) n) ≡ first_above P number running (rest_from p v n)
above_taken P p v n number running l is le =
    sym (ap (first_above P number running) (rest_taken p v n l is) ∙ cond-false _ v _ (le-ltb number (running + value_weight P v) le))

-- and so it does where the value doesn't pass
pub above_passed : (P : Network) (p : ℕ → Bool) (v n number running : ℕ) → v < n → p v ≡ false
    → first_above P number running (rest_from p (v + 1) n) ≡ first_above P number running (rest_from p v n)
above_passed P p v n number running l is = sym (ap (first_above P number running) (rest_passed p v n l is))

-- ---- the values of a cell

-- each has a weight
pub weight_some : (P : Network) → IsProblem P → (D : Test) (c k : ℕ) → k < length (values_at P D c) → 0 < value_weight P (get_or (values_at P D c) k 0)
weight_some P p D c k l =
    let vs : List ℕ = values_at P D c in
    some_weight P p (get_or vs k 0) (values_at_stand P D c (get_or vs k 0) (k, l, get_or_default vs k (get_or vs k 0) 0 l)).1

-- so of a cell that isn't empty the sum is above 0
pub sum_some : (P : Network) → IsProblem P → (D : Test) (c : ℕ) → 0 < length (values_at P D c) → 0 < sum_by (value_weight P) (values_at P D c)
sum_some P p D c some =
    omega (arith, weight_some P p D c 0 some, get_or-le-sum_by (value_weight P) (values_at P D c) 0 0 some)

-- ---- what is drawn

-- the first value, or one behind it
first_if : (P : Network) (number running v : ℕ) (vs : List ℕ) (b : Bool) → nat_lt number (running + value_weight P v) ≡ b
    → (nat_lt number (running + value_weight P v) ≡ false → Contains vs (first_above P number (running + value_weight P v) vs))
    → Contains (v ∷ vs) (cond b v (first_above P number (running + value_weight P v) vs))
first_if P number running v vs true is rest = Contains_first v vs
first_if P number running v vs false is rest = Contains_later v vs _ (rest is)

-- where the whole sum exceeds the number, one of the values is found
pub first_Contains : (P : Network) (number running : ℕ) (vs : List ℕ) → running ≤ number → number < running + sum_by (value_weight P) vs
    → Contains vs (first_above P number running vs)
first_Contains P number running [] low high = absurd (omega arith)
first_Contains P number running (v ∷ vs) low high =
    first_if P number running v vs (nat_lt number (running + value_weight P v)) refl
    (λ above. first_Contains P number (running + value_weight P v) vs (ltb-false number (running + value_weight P v) above) (omega (arith, high, sum_by-cons (value_weight P) v vs)))

-- of a cell that isn't empty one of its values is drawn
pub drawn_one : (P : Network) → IsProblem P → (D : Test) (c word : ℕ) → 0 < length (values_at P D c) → Contains (values_at P D c) (drawn_value P (values_at P D c) word)
unfolding drawn_value
drawn_one P p D c word some =
    let vs : List ℕ = values_at P D c in
    let above : 0 < sum_by (value_weight P) vs = sum_some P p D c some in
    first_Contains P (word % sum_by (value_weight P) vs) 0 vs (omega arith) (omega arith)

-- What sizes say of the domains.
use Rattle.std.proofs.Common.{◌≡◌, ◌≢◌, ℕ, ◌+◌, ◌<◌, ◌≤◌, Bool, true, false, List, length, get_or, refl, sym, ◌∙◌, ap, arith, inl, inr}
use Rattle.std.specs.Prelude.{Contains, ◌==◌, not, count_by, slice_index, IsTrue, ◌↔◌}
use Rattle.std.specs.List.{range_with_len}
use Rattle.std.proofs.lemmas.Bool.{cases_Bool, cases_lt, false_from_ne_true, false≢true, eqb-true, eq-eqb, and_parts, and_from, ne_eqb}
use Rattle.std.proofs.lemmas.List.Sums.{length-filter}
use Rattle.std.proofs.lemmas.List.FromFn.{get_or-map-range_with_len, get_or-range_with_len, length-map-range_with_len, length-range_with_len}
use Rattle.std.proofs.lemmas.List.{get_or_default}
use Rattle.std.proofs.lemmas.List.Kept.{IsStrictlyIncreasing-filter}
use Rattle.std.specs.List.Sorted.{IsStrictlyIncreasing}
use Rattle.wfc_problem.specs.Domains.{Test, Within, IsDead, HasOnly}
use Rattle.wfc_problem.specs.Network.{Network, values, in_base, IsProblem}
use Rattle.wfc_problem.specs.Rounds.{pairs}
use Rattle.wfc_lists.specs.Counts.{but}
use Rattle.wfc_lists.proofs.Counts.{count_by-le, count_by_found, count_by_but, sum_by_less}
use Rattle.wfc_lists.proofs.Lists.{Contains-filter, filter-Contains, any_Contains, Contains_any}
use Rattle.wfc_lists.proofs.Ranges.{range_Contains, Contains_range}
use Rattle.wfc_problem.proofs.Tables.{base_inside}
use Rattle.wfc_problem.specs.Sizes.{values_at, size_at, sizes_of, is_dead, first_values}

-- each cell has a size
pub length-sizes_of : (P : Network) (D : Test) → length (sizes_of P D) ≡ P.cells
length-sizes_of P D = length-map-range_with_len (size_at P D) 0 P.cells

-- the size of a cell
pub sizes_of_at : (P : Network) (D : Test) (c e : ℕ) → c < P.cells → get_or (sizes_of P D) c e ≡ size_at P D c
sizes_of_at P D c e l = get_or-map-range_with_len (size_at P D) 0 P.cells c c e l (omega arith)

-- a value that stands is one of the cell's
pub values_at_have : (P : Network) → IsProblem P → (D : Test) → Within D (in_base P) → (c v : ℕ) → D c v ≡ true → Contains (values_at P D c) v
values_at_have P p D within c v t =
    Contains-filter (D c) (range_with_len 0 (values P)) v (range_Contains (values P) v (base_inside P p c v (within c v t)).1) t

-- one of the cell's values stands
pub values_at_stand : (P : Network) (D : Test) (c v : ℕ) → Contains (values_at P D c) v → (D c v ≡ true) × (v < values P)
values_at_stand P D c v has =
    let f = filter-Contains (D c) (range_with_len 0 (values P)) v has in
    (f.0, Contains_range (values P) v f.1)

-- the values are those that stand, in rising order
pub values_at_are : (P : Network) → IsProblem P → (D : Test) → Within D (in_base P) → (c v : ℕ) → Contains (values_at P D c) v ↔ IsTrue (D c v)
values_at_are P p D within c v = ((λ has. (values_at_stand P D c v has).0), values_at_have P p D within c v)

-- a cell with a value isn't empty
pub size_at_pos : (P : Network) → IsProblem P → (D : Test) → Within D (in_base P) → (c v : ℕ) → D c v ≡ true → 0 < size_at P D c
size_at_pos P p D within c v t = let has = values_at_have P p D within c v t in omega (arith, has.1)

-- less has smaller sizes
pub size_at_le : (P : Network) (E D : Test) → Within E D → (c : ℕ) → size_at P E c ≤ size_at P D c
size_at_le P E D within c =
    omega (arith, length-filter (E c) (range_with_len 0 (values P)), length-filter (D c) (range_with_len 0 (values P)), count_by-le (E c) (D c) (range_with_len 0 (values P)) (within c))

-- where the word holds some cell is empty
dead_is : (P : Network) → IsProblem P → (D : Test) → Within D (in_base P) → is_dead P D ≡ true → IsDead P D
dead_is P p D within t =
    let a = any_Contains (λ size. size == 0) (sizes_of P D) t in
    let l : a.1.0 < P.cells = omega (arith, a.1.1, length-sizes_of P D) in
    let none : size_at P D a.1.0 ≡ 0 = sym (sizes_of_at P D a.1.0 a.0 l) ∙ a.1.2 ∙ eqb-true a.0 0 a.2 in
    (a.1.0, l, λ v. false_from_ne_true (D a.1.0 v) (λ s. let pos = size_at_pos P p D within a.1.0 v s in omega arith))

-- where a size is 0 the domains are dead
zero_dead : (P : Network) (D : Test) (c : ℕ) → c < P.cells → size_at P D c ≡ 0 → is_dead P D ≡ true
zero_dead P D c l none =
    Contains_any (λ size. size == 0) (sizes_of P D) 0 (c, omega (arith, length-sizes_of P D), sizes_of_at P D c 0 l ∙ none) refl

-- where a cell is empty its size is 0
is_dead_from : (P : Network) (D : Test) → IsDead P D → is_dead P D ≡ true
is_dead_from P D (c, l, empty) = elim (cases_lt 0 (size_at P D c)) [
  | inl some ↦
      let f = count_by_found (D c) (range_with_len 0 (values P)) (omega (arith, length-filter (D c) (range_with_len 0 (values P)))) in
      absurd (false≢true (sym (empty f.0) ∙ f.2))
  | inr none ↦ zero_dead P D c l (omega arith)
]

-- the word says what the fact says
pub dead_iff : (P : Network) → IsProblem P → (D : Test) → Within D (in_base P) → IsTrue (is_dead P D) ↔ IsDead P D
dead_iff P p D within = (dead_is P p D within, is_dead_from P D)

-- where no cell is empty each has a value
pub alive_pos : (P : Network) (D : Test) → is_dead P D ≡ false → (c : ℕ) → c < P.cells → 0 < size_at P D c
alive_pos P D alive c l = elim (cases_lt 0 (size_at P D c)) [
  | inl some ↦ some
  | inr none ↦ absurd (false≢true (sym alive ∙ zero_dead P D c l (omega arith)))
]

-- ---- the two sides of a choice

-- where none passes the count is 0
count_by_none : (p : ℕ → Bool) (xs : List ℕ) → ((x : ℕ) → p x ≡ true → ⊥) → count_by p xs ≡ 0
count_by_none p xs none = elim (cases_lt 0 (count_by p xs)) [
  | inl some ↦ let f = count_by_found p xs some in absurd (none f.0 f.2)
  | inr h ↦ omega arith
]

-- a range rises
range_rises : (n : ℕ) → IsStrictlyIncreasing (range_with_len 0 n)
range_rises n k l =
    omega (arith, length-range_with_len 0 n, get_or-range_with_len 0 n k 0 (omega (arith, length-range_with_len 0 n)), get_or-range_with_len 0 n (k + 1) 0 (omega (arith, length-range_with_len 0 n)))

-- the values of a cell rise
pub values_at_rise : (P : Network) (D : Test) (c : ℕ) → IsStrictlyIncreasing (values_at P D c)
values_at_rise P D c = IsStrictlyIncreasing-filter (D c) (range_with_len 0 (values P)) (range_rises (values P))

-- without one of its values a cell has one less
pub size_at_without : (P : Network) → IsProblem P → (E D : Test) → Within D (in_base P) → (c v : ℕ) → D c v ≡ true
    → ((w : ℕ) → E c w ≡ true → (D c w ≡ true) × (w ≢ v)) → size_at P E c + 1 ≤ size_at P D c
size_at_without P p E D within c v t without =
    let vals : List ℕ = range_with_len 0 (values P) in
    let one = count_by_but (D c) v vals (range_rises (values P)) (range_Contains (values P) v (base_inside P p c v (within c v t)).1) t in
    let le = count_by-le (E c) (but (D c) v) vals (λ w s. let h = without w s in and_from _ _ h.0 (ap not (ne_eqb w v h.1))) in
    omega (arith, length-filter (E c) vals, length-filter (D c) vals)

-- with one value alone it has at most one
pub size_at_one : (P : Network) → IsProblem P → (E : Test) → Within E (in_base P) → (c v : ℕ) → ((w : ℕ) → E c w ≡ true → w ≡ v) → size_at P E c ≤ 1
size_at_one P p E within c v only = elim (cases_Bool (E c v)) [
  | inl t ↦
      (let vals : List ℕ = range_with_len 0 (values P) in
      let one = count_by_but (E c) v vals (range_rises (values P)) (range_Contains (values P) v (base_inside P p c v (within c v t)).1) t in
      let none = count_by_none (but (E c) v) vals (λ w s. let h = and_parts _ _ s in false≢true (sym (ap not (eq-eqb w v (only w h.0))) ∙ h.1)) in
      omega (arith, length-filter (E c) vals))
  | inr f ↦
      (let vals : List ℕ = range_with_len 0 (values P) in
      let none = count_by_none (E c) vals (λ w s. false≢true (sym f ∙ sym (ap (E c) (only w s)) ∙ s)) in
      omega (arith, length-filter (E c) vals))
]

-- one smaller cell makes fewer pairs
pub pairs_less : (P : Network) (E D : Test) (c : ℕ) → Within E D → c < P.cells → size_at P E c < size_at P D c → pairs P E < pairs P D
pairs_less P E D c within l less =
    let vals : List ℕ = range_with_len 0 (values P) in
    sum_by_less (λ x. count_by (E x) vals) (λ x. count_by (D x) vals) c (range_with_len 0 P.cells) (λ x. count_by-le (E x) (D x) vals (within x)) (range_Contains P.cells c l)
    (omega (arith, length-filter (E c) vals, length-filter (D c) vals))

-- ---- one value for each cell

-- the first value of a cell
pub first_values_at : (P : Network) (D : Test) (c : ℕ) → c < P.cells → slice_index (first_values P D) c ≡ slice_index (values_at P D c) 0
first_values_at P D c l = get_or-map-range_with_len (λ c. slice_index (values_at P D c) 0) 0 P.cells c c 0 l (omega arith)

-- where each cell has one value the first values are all
pub only_first : (P : Network) → IsProblem P → (D : Test) → Within D (in_base P) → is_dead P D ≡ false
    → ((c : ℕ) → c < P.cells → size_at P D c ≤ 1) → HasOnly P D (first_values P D)
only_first P p D within alive one = record {
  each_cell = length-map-range_with_len (λ c. slice_index (values_at P D c) 0) 0 P.cells;
  only = λ c v l. (
    (λ t. let has = values_at_have P p D within c v t in
        let small = one c l in
        let z : has.0 ≡ 0 = omega (arith, has.1) in
        let some : 0 < size_at P D c = alive_pos P D alive c l in
        sym has.2 ∙ ap (λ k. get_or (values_at P D c) k v) z ∙ get_or_default (values_at P D c) 0 v 0 some ∙ sym (first_values_at P D c l)),
    (λ e. let some : 0 < size_at P D c = alive_pos P D alive c l in
        let same : get_or (values_at P D c) 0 v ≡ v = get_or_default (values_at P D c) 0 v 0 some ∙ sym (first_values_at P D c l) ∙ sym e in
        (values_at_stand P D c v (0, some, same)).0),
  );
}

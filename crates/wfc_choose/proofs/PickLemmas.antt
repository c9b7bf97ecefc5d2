-- Picks: the picked cell is the first of the least open ones, and where none is picked none is open.
use Rattle.std.proofs.Common.{sym, ◌≡◌, ℕ, zero, suc, ◌<◌, ◌≤◌, true, false, List, length, refl, ◌∙◌, ap, arith, inl, inr, Option, Some, None}
use Rattle.std.specs.Prelude.{◌&&◌, ◌||◌, ◌↔◌, not, nat_le, slice_index}
use Rattle.std.specs.List.{range_with_len}
use Rattle.std.proofs.lemmas.Bool.{and_parts, and_cases, or_parts, leb-true, leb-false, not-false, both_ways, cases_lt, le-leb, or_cases, not-true, and_from}
use Rattle.wfc_choose.specs.Pick.{Rule, is_open, is_least, urge, picked_cell, IsBestBelow}
use Rattle.wfc_lists.proofs.Lists.{all_pass, pass_all, or_implies, one_fails}
use Rattle.wfc_lists.proofs.Positions.{find_before, find_passes, find_fails}
use Rattle.wfc_lists.proofs.Ranges.{range_Contains, Contains_range}
use Rattle.wfc_problem.specs.Domains.{Test}
use Rattle.wfc_problem.specs.Network.{Network}
use Rattle.wfc_problem.specs.Sizes.{is_dead, sizes_of, values_at}
use Rattle.wfc_problem.proofs.CallerLemmas.{alive_pos, length-sizes_of, sizes_of_at}

-- the picked cell is open
pub picked_open : (rule : Rule) (sizes : List ℕ) (c : ℕ) → picked_cell rule sizes ≡ Some c → (c < length sizes) × (2 ≤ slice_index sizes c)
unfolding picked_cell
picked_open rule sizes c is =
    let f = find_passes (λ c. is_open sizes c && is_least rule sizes c) (range_with_len 0 (length sizes)) c is in
    (Contains_range (length sizes) c f.1, leb-true 2 (slice_index sizes c) (and_parts _ _ f.0).0)

-- an open cell that isn't the least has one before it
before : (rule : Rule) (sizes : List ℕ) (c : ℕ) → picked_cell rule sizes ≡ None → c < length sizes → is_open sizes c ≡ true
    → (other : ℕ) × (other < length sizes) × (is_open sizes other ≡ true) × (urge rule sizes other < urge rule sizes c)
unfolding picked_cell
before rule sizes c is l opened =
    let fails = find_fails (λ c. is_open sizes c && is_least rule sizes c) (range_with_len 0 (length sizes)) c is (range_Contains (length sizes) c l) in
    elim (and_cases (is_open sizes c) (is_least rule sizes c) fails) [
      | inl f ↦ absurd (both_ways (is_open sizes c) f opened)
      | inr f ↦
          let o = one_fails (λ other. not (is_open sizes other) || nat_le (urge rule sizes c) (urge rule sizes other)) (range_with_len 0 (length sizes)) f in
          let parts = or_parts (not (is_open sizes o.0)) (nat_le (urge rule sizes c) (urge rule sizes o.0)) o.2 in
          (o.0, Contains_range (length sizes) o.0 o.1, not-false (is_open sizes o.0) parts.0, leb-false (urge rule sizes c) (urge rule sizes o.0) parts.1)
    ]

-- where none is picked no cell of such an urge is open
none_open : (rule : Rule) (sizes : List ℕ) → picked_cell rule sizes ≡ None → (n c : ℕ) → urge rule sizes c ≤ n → c < length sizes → is_open sizes c ≡ true → ⊥
none_open rule sizes is zero c few l opened = let b = before rule sizes c is l opened in omega (arith, b.3)
none_open rule sizes is (suc n) c few l opened = let b = before rule sizes c is l opened in none_open rule sizes is n b.0 (omega (arith, b.3)) b.1 b.2

-- where none is picked no cell is open
pub picked_none : (rule : Rule) (sizes : List ℕ) (c : ℕ) → picked_cell rule sizes ≡ None → c < length sizes → slice_index sizes c ≤ 1
picked_none rule sizes c is l = elim (cases_lt 1 (slice_index sizes c)) [
  | inl more ↦ absurd (none_open rule sizes is (urge rule sizes c) c (omega arith) l (le-leb 2 (slice_index sizes c) (omega arith)))
  | inr few ↦ few
]

-- no open cell comes before the picked one by the rule
pub picked_least : (rule : Rule) (sizes : List ℕ) (c other : ℕ) → picked_cell rule sizes ≡ Some c → other < length sizes → 2 ≤ slice_index sizes other
    → urge rule sizes c ≤ urge rule sizes other
unfolding picked_cell
picked_least rule sizes c other is l opened =
    let f = find_passes (λ c. is_open sizes c && is_least rule sizes c) (range_with_len 0 (length sizes)) c is in
    let all = all_pass (λ other. not (is_open sizes other) || nat_le (urge rule sizes c) (urge rule sizes other)) (range_with_len 0 (length sizes)) other (and_parts _ _ f.0).1
    (range_Contains (length sizes) other l) in
    elim (or_cases (not (is_open sizes other)) (nat_le (urge rule sizes c) (urge rule sizes other)) all) [
      | inl n ↦ absurd (both_ways (is_open sizes other) (not-true (is_open sizes other) n) (le-leb 2 (slice_index sizes other) opened))
      | inr le ↦ leb-true (urge rule sizes c) (urge rule sizes other) le
    ]

-- and none below it is level with it
pub picked_first : (rule : Rule) (sizes : List ℕ) (c other : ℕ) → picked_cell rule sizes ≡ Some c → other < length sizes → 2 ≤ slice_index sizes other
    → urge rule sizes other ≡ urge rule sizes c → c ≤ other
unfolding picked_cell
picked_first rule sizes c other is l opened level =
    find_before (λ c. is_open sizes c && is_least rule sizes c) 0 (length sizes) c other is (omega arith) (omega arith)
    (and_from _ _ (le-leb 2 (slice_index sizes other) opened)
    (pass_all (λ third. not (is_open sizes third) || nat_le (urge rule sizes other) (urge rule sizes third)) (range_with_len 0 (length sizes))
    (λ third has. or_implies (is_open sizes third) (nat_le (urge rule sizes other) (urge rule sizes third)) (λ t.
    le-leb (urge rule sizes other) (urge rule sizes third)
    (omega (arith, level, picked_least rule sizes c third is (Contains_range (length sizes) third has) (leb-true 2 (slice_index sizes third) t)))))))

-- a cell of which all this holds is the picked one
pub picked_is : (rule : Rule) (sizes : List ℕ) (c : ℕ) → c < length sizes → 2 ≤ slice_index sizes c
    → ((other : ℕ) → other < length sizes → 2 ≤ slice_index sizes other → urge rule sizes c ≤ urge rule sizes other)
    → ((other : ℕ) → other < c → 2 ≤ slice_index sizes other → urge rule sizes c < urge rule sizes other)
    → picked_cell rule sizes ≡ Some c
picked_is rule sizes c l opened least first = picked_case (picked_cell rule sizes) refl
  where
    picked_case : (o : Option ℕ) → picked_cell rule sizes ≡ o → picked_cell rule sizes ≡ Some c
    picked_case None is = let few = picked_none rule sizes c is l in absurd (omega arith)
    picked_case (Some found) is =
        let f = picked_open rule sizes found is in
        let le = picked_least rule sizes found c is l opened in
        let ge = least found f.0 f.1 in
        let same : urge rule sizes c ≡ urge rule sizes found = omega arith in
        let low = picked_first rule sizes found c is l opened same in
        is ∙ ap (λ (n : ℕ). Some n) (elim (cases_lt found c) [
          | inl m ↦ let less = first found m f.1 in absurd (omega arith)
          | inr m ↦ omega arith
        ])

-- and where no cell is open none is picked
pub picked_is_none : (rule : Rule) (sizes : List ℕ) → ((c : ℕ) → c < length sizes → slice_index sizes c ≤ 1) → picked_cell rule sizes ≡ None
picked_is_none rule sizes none = picked_case (picked_cell rule sizes) refl
  where
    picked_case : (o : Option ℕ) → picked_cell rule sizes ≡ o → picked_cell rule sizes ≡ None
    picked_case None is = is
    picked_case (Some found) is =
        let f = picked_open rule sizes found is in
        let few = none found f.0 in
        absurd (omega arith)

-- the best of all cells is the picked one
pub best_picked : (rule : Rule) (sizes : List ℕ) (best : Option ℕ) → IsBestBelow rule sizes (length sizes) best → best ≡ picked_cell rule sizes
best_picked rule sizes None best = sym (picked_is_none rule sizes best)
best_picked rule sizes (Some c) best = sym (picked_is rule sizes c best.0 best.1 best.2 best.3)

-- where no cell is empty, none is picked exactly where each has one value
pub none_single : (P : Network) (rule : Rule) (D : Test) → is_dead P D ≡ false
    → (picked_cell rule (sizes_of P D) ≡ None) ↔ ((c : ℕ) → c < P.cells → length (values_at P D c) ≡ 1)
none_single P rule D alive = (
  (λ none c l. omega (arith, alive_pos P D alive c l, sizes_of_at P D c 0 l, picked_none rule (sizes_of P D) c none (omega (arith, length-sizes_of P D)))),
  (λ single. picked_is_none rule (sizes_of P D)
      (λ c l. let inside : c < P.cells = omega (arith, length-sizes_of P D) in omega (arith, sizes_of_at P D c 0 inside, single c inside))),
)

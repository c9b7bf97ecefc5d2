-- Where a test of numbers first fails, and where one of rows and columns does.
use Rattle.std.proofs.Common.{◌≡◌, ℕ, zero, suc, ◌+◌, ◌<◌, ◌≤◌, Bool, true, false, List, [], ◌∷◌, length, get_or, refl, sym, ◌∙◌, ap, arith, Option, Some, None, inl, inr, ◌⊎◌}
use Rattle.std.specs.Prelude.{not}
use Rattle.std.specs.List.{range_with_len}
use Rattle.std.specs.Option.{option_map, option_or}
use Rattle.std.proofs.lemmas.Bool.{cases_lt, not-false, not_from_true, both_ways, false≢true}
use Rattle.std.proofs.lemmas.List.FromFn.{length-range_with_len}
use Rattle.wfc_lists.proofs.Options.{both_none, map_none}
use Rattle.wfc_lists.proofs.Positions.{find_passes, find_fails, find_none, find_before}
use Rattle.wfc_lists.proofs.Ranges.{range_at, range_Contains, Contains_range}
use Rattle.wfc_problem.specs.declared.ProblemFault.{ProblemFault}
use Rattle.wfc_problem.specs.Fault.{unless, first_failing, first_pair}
use Rattle.wfc_problem.specs.Symmetry.{IsEarliest}

-- ---- a check

-- a check that finds no fault is passed
pub unless_none : (b : Bool) (fault : ProblemFault) → unless b fault ≡ None → b ≡ true
unless_none true fault e = refl
unless_none false fault e = cc

-- and the other way
pub none_unless : (b : Bool) (fault : ProblemFault) → b ≡ true → unless b fault ≡ None
none_unless b fault t = ap (λ x. unless x fault) t

-- ---- the first of n numbers

-- where each passes, none fails first
pub failing_none : (passes : ℕ → Bool) (n : ℕ) → ((k : ℕ) → k < n → passes k ≡ true) → first_failing passes n ≡ None
failing_none passes n each = find_none (λ k. not (passes k)) (range_with_len 0 n) (λ k has. not_from_true (passes k) (each k (Contains_range n k has)))

-- and the other way
pub failing_passed : (passes : ℕ → Bool) (n : ℕ) → first_failing passes n ≡ None → (k : ℕ) → k < n → passes k ≡ true
failing_passed passes n none k l = not-false (passes k) (find_fails (λ k. not (passes k)) (range_with_len 0 n) k none (range_Contains n k l))

-- one that fails, where each before it passes, is the first
pub first_failing_is : (passes : ℕ → Bool) (n i : ℕ) → i < n → passes i ≡ false → ((k : ℕ) → k < i → passes k ≡ true) → first_failing passes n ≡ Some i
first_failing_is passes n i l fails before = by (first_failing passes n) refl
  where
    by : (o : Option ℕ) → first_failing passes n ≡ o → first_failing passes n ≡ Some i
    by None is = absurd (both_ways (passes i) fails (failing_passed passes n is i l))
    by (Some j) is =
        let found = find_passes (λ k. not (passes k)) (range_with_len 0 n) j is in
        let le = find_before (λ k. not (passes k)) 0 n j i is (omega arith) (omega arith) (ap not fails) in
        is ∙ ap (λ (k : ℕ). Some k) (elim (cases_lt j i) [
          | inl low ↦ absurd (false≢true (sym (ap not (before j low)) ∙ found.0))
          | inr ge ↦ omega arith
        ])

-- ---- the first row, and in it the first column

-- no row before has a failing column, and this one has
row_first : (passes : ℕ → ℕ → Bool) (rows : List ℕ) (columns i c : ℕ) → i < length rows
    → ((k : ℕ) → k < i → first_failing (passes (get_or rows k 0)) columns ≡ None)
    → first_failing (passes (get_or rows i 0)) columns ≡ Some c → first_pair passes rows columns ≡ Some (get_or rows i 0, c)
row_first passes [] columns i c l before here = absurd (omega arith)
row_first passes (r ∷ rs) columns zero c l before here =
    ap (λ o. option_or (option_map (λ d. (r, d)) o) (first_pair passes rs columns)) here
row_first passes (r ∷ rs) columns (suc i) c l before here =
    ap (λ o. option_or (option_map (λ d. (r, d)) o) (first_pair passes rs columns)) (before 0 (omega arith))
    ∙ row_first passes rs columns i c (omega arith) (λ k m. before (suc k) (omega arith)) here

-- no row has a failing column
row_none : (passes : ℕ → ℕ → Bool) (rows : List ℕ) (columns : ℕ)
    → ((k : ℕ) → k < length rows → first_failing (passes (get_or rows k 0)) columns ≡ None) → first_pair passes rows columns ≡ None
row_none passes [] columns each = refl
row_none passes (r ∷ rs) columns each =
    ap (λ o. option_or (option_map (λ d. (r, d)) o) (first_pair passes rs columns)) (each 0 (omega arith))
    ∙ row_none passes rs columns (λ k m. each (suc k) (omega arith))

-- and the other way
row_passed : (passes : ℕ → ℕ → Bool) (rows : List ℕ) (columns : ℕ) → first_pair passes rows columns ≡ None
    → (k : ℕ) → k < length rows → first_failing (passes (get_or rows k 0)) columns ≡ None
row_passed passes [] columns none k l = absurd (omega arith)
row_passed passes (r ∷ rs) columns none k l =
    let parts = both_none _ _ none in
    let here = map_none _ _ parts.0 in
    let rest = row_passed passes rs columns parts.1 in
    let P : ℕ → Type 0 = λ j. j < length (r ∷ rs) → first_failing (passes (get_or (r ∷ rs) j 0)) columns ≡ None in
    elim k as P [ zero ↦ λ m. here | suc j ↦ λ m. rest j (omega arith) ] l

-- the same, where the rows are numbered from 0
pub pair_at : (passes : ℕ → ℕ → Bool) (rows columns r c : ℕ) → r < rows → ((k : ℕ) → k < r → first_failing (passes k) columns ≡ None)
    → first_failing (passes r) columns ≡ Some c → first_pair passes (range_with_len 0 rows) columns ≡ Some (r, c)
pair_at passes rows columns r c l before here =
    row_first passes (range_with_len 0 rows) columns r c (omega (arith, length-range_with_len 0 rows))
    (λ k m. ap (λ x. first_failing (passes x) columns) (range_at rows k (omega arith)) ∙ before k m)
    (ap (λ x. first_failing (passes x) columns) (range_at rows r l) ∙ here)
    ∙ ap (λ (x : ℕ). Some (x, c)) (range_at rows r l)

-- no row below a number has a failing column
pub pair_none : (passes : ℕ → ℕ → Bool) (rows columns : ℕ) → ((k : ℕ) → k < rows → first_failing (passes k) columns ≡ None)
    → first_pair passes (range_with_len 0 rows) columns ≡ None
pair_none passes rows columns each =
    row_none passes (range_with_len 0 rows) columns
    (λ k l. let m : k < rows = omega (arith, length-range_with_len 0 rows) in
    ap (λ x. first_failing (passes x) columns) (range_at rows k m) ∙ each k m)

-- where there is no first, the test is passed at each row and column
pub pair_passed : (passes : ℕ → ℕ → Bool) (rows columns : ℕ) → first_pair passes (range_with_len 0 rows) columns ≡ None
    → (r c : ℕ) → r < rows → c < columns → passes r c ≡ true
pair_passed passes rows columns none r c hr hc =
    let row = row_passed passes (range_with_len 0 rows) columns none r (omega (arith, length-range_with_len 0 rows)) in
    failing_passed (passes r) columns (sym (ap (λ x. first_failing (passes x) columns) (range_at rows r hr)) ∙ row) c hc

-- ---- the same, found column by column

-- the row before which rows are still looked at
abbrev pub end_of : ℕ → Option (ℕ × ℕ) → ℕ
end_of rows None = rows
end_of rows (Some p) = p.0

-- a column that is the last of those looked at, or an earlier one
last_or_before : (n d : ℕ) → d < n + 1 → (d ≡ n) ⊎ (d < n)
last_or_before n d l = elim (cases_lt d n) [ inl m ↦ inr m | inr ge ↦ inl (omega arith) ]

-- where no row before fails in the next column, what was found stays
pub earliest_kept : (passes : ℕ → ℕ → Bool) (rows n : ℕ) (o : Option (ℕ × ℕ)) → IsEarliest passes rows n o
    → ((k : ℕ) → k < end_of rows o → passes k n ≡ true) → IsEarliest passes rows (n + 1) o
earliest_kept passes rows n None each more = λ r c l m. elim (last_or_before n c m) [
  | inl e ↦ ap (passes r) e ∙ more r l
  | inr h ↦ each r c l h
]
earliest_kept passes rows n (Some (r, c)) (l, m, fails, rows_before, before) more = (
  l,
  omega arith,
  fails,
  (λ k d h g. elim (last_or_before n d g) [
    | inl e ↦ ap (passes k) e ∙ more k h
    | inr lower ↦ rows_before k d h lower
  ]),
  before,
)

-- where one does, it is found
pub earliest_found : (passes : ℕ → ℕ → Bool) (rows n r : ℕ) (o : Option (ℕ × ℕ)) → IsEarliest passes rows n o
    → r < end_of rows o → passes r n ≡ false → ((k : ℕ) → k < r → passes k n ≡ true) → IsEarliest passes rows (n + 1) (Some (r, n))
earliest_found passes rows n r o earliest within fails before =
    let few : end_of rows o ≤ rows = end_few o earliest in (
      omega arith,
      omega arith,
      fails,
      (λ k d h g. elim (last_or_before n d g) [
        | inl e ↦ ap (passes k) e ∙ before k h
        | inr lower ↦ earlier o earliest k d (omega arith) lower
      ]),
      (λ d g. earlier o earliest r d within g),
    )
  where
    earlier : (o : Option (ℕ × ℕ)) → IsEarliest passes rows n o → (k d : ℕ) → k < end_of rows o → d < n → passes k d ≡ true
    earlier None each = each
    earlier (Some (s, c)) (l, m, fails, rows_before, before) = rows_before

    end_few : (o : Option (ℕ × ℕ)) → IsEarliest passes rows n o → end_of rows o ≤ rows
    end_few None each = omega arith
    end_few (Some (s, c)) (l, m, fails, rows_before, before) = omega arith

-- over all columns it is the first pair
pub earliest_pair : (passes : ℕ → ℕ → Bool) (rows columns : ℕ) (o : Option (ℕ × ℕ)) → IsEarliest passes rows columns o → first_pair passes (range_with_len 0 rows) columns ≡ o
earliest_pair passes rows columns None each = pair_none passes rows columns (λ k l. failing_none (passes k) columns (λ c m. each k c l m))
earliest_pair passes rows columns (Some (r, c)) (l, m, fails, rows_before, before) =
    pair_at passes rows columns r c l (λ k h. failing_none (passes k) columns (λ d g. rows_before k d h g))
    (first_failing_is (passes r) columns c m fails before)

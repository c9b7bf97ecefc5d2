-- Rising lists of numbers.
use Rattle.std.proofs.Common.{◌≡◌, ℕ, suc, ◌+◌, ◌<◌, ◌≤◌, List, ◌∷◌, length, get_or, sym, ◌∙◌, ap, arith, inl, inr, Result, Ok, Err}
use Rattle.std.specs.Prelude.{◌==◌, is_ok}
use Rattle.std.specs.List.{list_any}
use Rattle.std.specs.List.Sorted.{IsStrictlyIncreasing, IsBinarySearchResult}
use Rattle.std.specs.Ordering.{nat_cmp}
use Rattle.std.proofs.lemmas.Bool.{cases_lt, cases_eq, eq-eqb, false_from_ne_true}
use Rattle.std.proofs.lemmas.List.{get_or_default}
use Rattle.std.proofs.lemmas.List.Folds.{list_any_at}
use Rattle.std.proofs.lemmas.List.Kept.{AllPairs-from_increasing}
use Rattle.std.proofs.lemmas.List.Sorted.{searched}
use Rattle.wfc_lists.proofs.Lists.{has_Contains}

-- behind its first a rising list rises
pub tail_rises : (x : ℕ) (xs : List ℕ) → IsStrictlyIncreasing (x ∷ xs) → IsStrictlyIncreasing xs
tail_rises x xs h = λ k l.
    let r = h (suc k) (omega arith) in
    let e : suc k + 1 ≡ suc (k + 1) = omega arith in
    rw e at r

-- a later number is not below an earlier one
pub rising_le : (xs : List ℕ) → IsStrictlyIncreasing xs → (i j : ℕ) → i ≤ j → j < length xs → get_or xs i 0 ≤ get_or xs j 0
rising_le xs up i j le l = elim (cases_eq i j) [
  | inl e ↦ let same = ap (λ k. get_or xs k 0) e in omega arith
  | inr ne ↦ let lt = AllPairs-from_increasing xs up i j 0 (omega arith) l in omega arith
]

-- a binary search of a rising list finds a number exactly where the list has it
pub searched_has : (xs : List ℕ) (w : ℕ) (r : Result ℕ ℕ) → IsBinarySearchResult (λ y. nat_cmp y w) xs r → IsStrictlyIncreasing xs → is_ok r ≡ list_any (λ x. x == w) xs
searched_has xs w (Ok i) s up =
    let f = searched xs w (Ok i) s (rising_le xs up) in
    sym (list_any_at (λ x. x == w) xs i 0 f.0 (eq-eqb _ w f.1))
searched_has xs w (Err i) s up =
    let f = searched xs w (Err i) s (rising_le xs up) in
    sym (false_from_ne_true (list_any (λ x. x == w) xs) (λ t.
    let c = has_Contains xs w t in
    let e : get_or xs c.0 0 ≡ w = get_or_default xs c.0 0 w c.1 ∙ c.2 in
    elim (cases_lt c.0 i) [
      | inl l ↦ let lt = f.1 c.0 l in omega arith
      | inr l ↦ let lt = f.2 c.0 l c.1 in omega arith
    ]))

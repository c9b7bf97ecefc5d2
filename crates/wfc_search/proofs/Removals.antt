-- Removals one by one, and the sizes that they leave.
use Rattle.std.proofs.Common.{◌≡◌, ◌≢◌, ◌+◌, ◌<◌, ◌≤◌, ℕ, zero, suc, Bool, true, false, List, [], ◌∷◌, length, take, drop, refl, sym, ◌∙◌, get_or, arith}
use Rattle.std.specs.Prelude.{◌||◌, ◌==◌}
use Rattle.std.specs.List.{list_any, range_with_len}
use Rattle.std.specs.List.Sorted.{IsStrictlyIncreasing}
use Rattle.std.proofs.lemmas.Bool.{eqb-false, or_parts}
use Rattle.std.proofs.lemmas.List.Sums.{length-filter, count_by-le-length}
use Rattle.std.proofs.lemmas.List.FromFn.{length-range_with_len, get_or-range_with_len}
use Rattle.wfc_lists.specs.Counts.{but}
use Rattle.wfc_lists.proofs.Counts.{count_by_agree, count_by_but}
use Rattle.wfc_lists.proofs.Ranges.{range_Contains}
use Rattle.wfc_problem.specs.Domains.{Test, Within}
use Rattle.wfc_problem.specs.Network.{Network, IsProblem, values, in_base}
use Rattle.wfc_problem.specs.Sizes.{size_at}
use Rattle.wfc_problem.specs.declared.Literal.{Literal}
use Rattle.wfc_problem.proofs.CallerLemmas.{base_inside}
use Rattle.wfc_log.specs.Domains.{less}
use Rattle.wfc_domains.specs.Removals.{without, AreRemoved}
use Rattle.wfc_log.specs.declared.Cause.TheVariants.{Assumed}
use Rattle.wfc_log.specs.declared.Removal.{Removal}
use Rattle.wfc_domains.proofs.Removals.{less-elsewhere, less-here, less-within}

-- what stands past the end of a list of removals
abbrev pub no_removal : Removal
no_removal = record { cell = 0; value = 0; before = 0; cause = Assumed }

-- ---- one removal

-- another cell keeps its size
pub size_less_other : (P : Network) (D : Test) (c v other : ℕ) → other ≢ c → size_at P (less D c v) other ≡ size_at P D other
size_less_other P D c v other ne =
    let vals : List ℕ = range_with_len 0 (values P) in
    let same = count_by_agree (less D c v other) (D other) vals (λ w. less-elsewhere D c v other w ne) in
    omega (arith, length-filter (less D c v other) vals, length-filter (D other) vals)

-- a range rises
range_rises : (n : ℕ) → IsStrictlyIncreasing (range_with_len 0 n)
range_rises n k l =
    omega (arith, length-range_with_len 0 n, get_or-range_with_len 0 n k 0 (omega (arith, length-range_with_len 0 n)), get_or-range_with_len 0 n (k + 1) 0 (omega (arith, length-range_with_len 0 n)))

-- its own cell has one value less
pub size_less_here : (P : Network) → IsProblem P → (D : Test) → Within D (in_base P) → (c v : ℕ) → D c v ≡ true → size_at P (less D c v) c + 1 ≡ size_at P D c
size_less_here P p D within c v stood =
    let vals : List ℕ = range_with_len 0 (values P) in
    let same = count_by_agree (less D c v c) (but (D c) v) vals (less-here D c v) in
    let one = count_by_but (D c) v vals (range_rises (values P)) (range_Contains (values P) v (base_inside P p c v (within c v stood)).1) stood in
    omega (arith, length-filter (less D c v c) vals, length-filter (D c) vals)

-- no cell has more values than there are
pub size_few : (P : Network) (D : Test) (c : ℕ) → size_at P D c ≤ values P
size_few P D c =
    let vals : List ℕ = range_with_len 0 (values P) in
    omega (arith, length-filter (D c) vals, count_by-le-length (D c) vals, length-range_with_len 0 (values P))

-- ---- removals of a cell

-- whether some of the removals is of the cell
abbrev pub touches : List Removal → ℕ → Bool
touches removals c = list_any (λ (r : Removal). r.cell == c) removals

-- where none is of the cell, it keeps its size
pub size_untouched : (P : Network) (D : Test) (rs : List Removal) (c : ℕ) → touches rs c ≡ false → size_at P (without D rs) c ≡ size_at P D c
size_untouched P D [] c none = refl
size_untouched P D (r ∷ rs) c none =
    let parts = or_parts (r.cell == c) (touches rs c) none in
    size_untouched P (less D r.cell r.value) rs c parts.1
    ∙ size_less_other P D r.cell r.value c (λ e. eqb-false r.cell c parts.0 (sym e))

-- what is known of the removal at i, from the domains D at first and E at last
pub record IsStep (P : Network) (D E : Test) (rs : List Removal) (i : ℕ) (r : Removal) : Type 0 where
  pub cell_in : r.cell < P.cells
  pub few : r.before ≤ values P
  pub after : touches (drop (suc i) rs) r.cell ≡ false → size_at P E r.cell + 1 ≡ r.before
  pub first : touches (take i rs) r.cell ≡ false → r.before ≡ size_at P D r.cell

-- so it is
pub step_at : (P : Network) → IsProblem P → (literals : List Literal) (D : Test) → Within D (in_base P) → (rs : List Removal) → AreRemoved P literals D rs → (i : ℕ) (d : Removal) → i < length rs
    → IsStep P D (without D rs) rs i (get_or rs i d)
step_at P p literals D within [] removed i d inside = absurd (omega arith)
step_at P p literals D within (r ∷ rs) removed zero d inside = record {
  cell_in = (base_inside P p r.cell r.value (within r.cell r.value removed.0.stood)).0;
  few = omega (arith, removed.0.before, size_few P D r.cell);
  after = λ none.
      let same = size_untouched P (less D r.cell r.value) rs r.cell none in
      let one = size_less_here P p D within r.cell r.value removed.0.stood in
      omega (arith, same, one, removed.0.before);
  first = λ none. removed.0.before;
}
step_at P p literals D within (r ∷ rs) removed (suc i) d inside =
    let s = step_at P p literals (less D r.cell r.value) (λ c v t. within c v (less-within D r.cell r.value c v t)) rs removed.1 i d (omega arith) in
    record {
      cell_in = s.cell_in;
      few = s.few;
      after = s.after;
      first = λ none.
          let parts = or_parts (r.cell == (get_or rs i d).cell) (touches (take i rs) (get_or rs i d).cell) none in
          s.first parts.1 ∙ size_less_other P D r.cell r.value (get_or rs i d).cell (λ e. eqb-false r.cell (get_or rs i d).cell parts.0 (sym e));
    }

-- ---- fronts and backs of removals

-- the removals from i on are that at i and those behind it
pub touches_drop : (rs : List Removal) (i c : ℕ) (d : Removal) → i < length rs → touches (drop i rs) c ≡ ((get_or rs i d).cell == c || touches (drop (suc i) rs) c)
touches_drop [] i c d inside = absurd (omega arith)
touches_drop (r ∷ rs) zero c d inside = refl
touches_drop (r ∷ rs) (suc i) c d inside = touches_drop rs i c d (omega arith)

-- the first i + 1 removals are the first i and that at i
pub touches_take : (rs : List Removal) (i c : ℕ) (d : Removal) → i < length rs → touches (take (suc i) rs) c ≡ (touches (take i rs) c || (get_or rs i d).cell == c)
touches_take [] i c d inside = absurd (omega arith)
touches_take (r ∷ rs) zero c d inside = swap (r.cell == c)
  where
    swap : (b : Bool) → (b || false) ≡ (false || b)
    swap b = grind arith
touches_take (r ∷ rs) (suc i) c d inside = grind (arith, touches_take rs i c d (omega arith))

-- behind the last there are none
pub touches_past : (rs : List Removal) (i c : ℕ) → length rs ≤ i → touches (drop i rs) c ≡ false
touches_past [] zero c past = refl
touches_past [] (suc i) c past = refl
touches_past (r ∷ rs) zero c past = absurd (omega arith)
touches_past (r ∷ rs) (suc i) c past = touches_past rs i c (omega arith)

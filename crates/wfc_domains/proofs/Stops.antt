-- That the removals of a level stop at the first empty cell.
use Rattle.std.proofs.Common.{◌≡◌, ℕ, zero, suc, ◌<◌, List, [], ◌∷◌, length, take, refl, sym, ◌∙◌, ap, subst, arith, inl, inr}
use Rattle.std.specs.Prelude.{IsFalse}
use Rattle.std.proofs.lemmas.Bool.{true≢false, cases_eq}
use Rattle.wfc_problem.specs.Network.{Network, in_base, IsProblem}
use Rattle.wfc_problem.specs.Domains.{Test, Within, IsEmptyAt}
use Rattle.wfc_problem.specs.Sizes.{is_dead}
use Rattle.wfc_problem.specs.declared.Literal.{Literal}
use Rattle.wfc_log.specs.declared.Removal.{Removal}
use Rattle.wfc_log.specs.declared.Verdict.TheVariants.{Dead}
use Rattle.wfc_log.specs.Domains.{less}
use Rattle.wfc_domains.specs.Removals.{without, AreRemoved, IsStopped}
use Rattle.wfc_domains.specs.Store.{StoreView, IsSound, IsVerdict, added_of, before_of, left_of, level_mark}
use Rattle.wfc_domains.proofs.Problems.{dead-iff}
use Rattle.wfc_domains.proofs.Removals.{less-elsewhere, less-within, without-within, without-split}

-- where no cell is empty this one isn't
filled-not : (P : Network) → IsProblem P → (D : Test) → Within D (in_base P) → IsFalse (is_dead P D) → (cell : ℕ) → cell < P.cells → IsEmptyAt D cell → ⊥
filled-not P p D within filled cell l empty = true≢false (sym ((dead-iff P p D within).1 (cell, l, empty)) ∙ filled)

-- the cell that a value's removal emptied is the value's
emptied-of : (P : Network) → IsProblem P → (D : Test) → Within D (in_base P) → IsFalse (is_dead P D) → (c v cell : ℕ) → cell < P.cells → IsEmptyAt (less D c v) cell → c ≡ cell
emptied-of P p D within filled c v cell l empty = elim (cases_eq cell c) [
  | inl same ↦ sym same
  | inr other ↦ absurd (filled-not P p D within filled cell l (λ w. sym (less-elsewhere D c v cell w other) ∙ empty w))
]

-- removals that leave a cell empty end with the one that emptied it
pub stopped-at : (P : Network) → IsProblem P → (literals : List Literal) (D : Test) (rs : List Removal) (cell : ℕ) → Within D (in_base P) → AreRemoved P literals D rs → IsFalse (is_dead P D) → cell < P.cells
    → IsEmptyAt (without D rs) cell → IsStopped P D rs cell
stopped-at P p literals D [] cell within k filled l empty = absurd (filled-not P p D within filled cell l empty)
stopped-at P p literals D (r ∷ []) cell within k filled l empty = record {
  front = [];
  last = r;
  ends = refl;
  filled = filled;
  of_cell = emptied-of P p D within filled r.cell r.value cell l empty;
  emptied = empty;
}
stopped-at P p literals D (r ∷ x ∷ rs) cell within k filled l empty =
    let rest = stopped-at P p literals (less D r.cell r.value) (x ∷ rs) cell (λ c v t. within c v (less-within D r.cell r.value c v t)) k.1 k.1.0.filled l empty in
    record {
      front = r ∷ rest.front;
      last = rest.last;
      ends = ap (λ xs. r ∷ xs) rest.ends;
      filled = rest.filled;
      of_cell = rest.of_cell;
      emptied = empty;
    }

-- before each removal no cell is empty
pub filled-before : (P : Network) (literals : List Literal) (D : Test) (rs : List Removal) (k : ℕ) → AreRemoved P literals D rs → k < length rs → IsFalse (is_dead P (without D (take k rs)))
filled-before P literals D [] k a l = absurd (omega arith)
filled-before P literals D (r ∷ rs) zero a l = a.0.filled
filled-before P literals D (r ∷ rs) (suc k) a l = filled-before P literals (less D r.cell r.value) rs k a.1 (omega arith)

-- ---- of a sound store

-- what its verdict says where it names a cell
named-empty : (v : StoreView) (cell : ℕ) → IsSound v → v.verdict ≡ Dead cell → (cell < v.problem.cells) × IsEmptyAt (left_of v) cell
named-empty v cell s dead = let told = subst (IsVerdict v.problem v.standing (left_of v)) dead s.verdict in (told.1, told.2)

pub sound-stopped : (v : StoreView) (cell : ℕ) → IsSound v → v.verdict ≡ Dead cell → IsFalse (is_dead v.problem (before_of v)) → IsStopped v.problem (before_of v) (added_of v) cell
sound-stopped v cell s dead filled =
    let B = in_base v.problem in
    let told = named-empty v cell s dead in
    stopped-at v.problem s.problem v.standing (before_of v) (added_of v) cell (without-within B (take (level_mark v.marks) v.removals)) s.added filled told.0
    (λ w. ap (λ f. f cell w) (without-split B v.removals (level_mark v.marks)) ∙ told.1 w)

pub sound-filled : (v : StoreView) (k : ℕ) → IsSound v → k < length (added_of v) → IsFalse (is_dead v.problem (without (before_of v) (take k (added_of v))))
sound-filled v k s l = filled-before v.problem v.standing (before_of v) (added_of v) k s.added l

-- Removals of earlier levels, one more and one fewer.
use Rattle.std.proofs.Common.{◌≡◌, ◌≤◌, ℕ, ◌+◌, ◌-◌, ◌<◌, List, [], ◌∷◌, ◌++◌, length, get_or, map, set, take, refl, sym, ◌∙◌, ap, subst, arith, inl, inr}
use Rattle.std.specs.Prelude.{All, Some, slice_get, slice_index}
use Rattle.std.proofs.lemmas.List.{get_or_read, get_or-set_same, get_or_past}
use Rattle.std.proofs.lemmas.List.FromFn.{get_or-map-range_with_len, length-map-range_with_len}
use Rattle.std.proofs.lemmas.Option.{get_or_from_slice_get, slice_get_within}
use Rattle.std.proofs.lemmas.Bool.{cases_lt}
use Rattle.wfc_problem.specs.Network.{Network, in_base, IsProblem}
use Rattle.wfc_problem.specs.Sizes.{size_at, sizes_of}
use Rattle.wfc_log.specs.declared.Removal.{Removal}
use Rattle.wfc_log.specs.Domains.{base_of}
use Rattle.wfc_log.specs.Log.{IsCauseBelow, cells_of, fewer_at, sizes_after}
use Rattle.wfc_log.specs.Numbered.{first_sizes, more_at, removal_count, removal_number, placed_cell, placed_removal, placed_removals, sizes_before}
use Rattle.wfc_log.proofs.Rows.{size-few}
use Rattle.wfc_log.proofs.SizeLemmas.{after-before, before-least, before-push, more-fewer}
use Rattle.wfc_log.proofs.NumberedLemmas.{cell-few, place-back, place-cell, placed-cells, placed-push, split-last}

-- the sizes that all removals left
pub left-is : (v d : ℕ) (s ns : List ℕ) → sizes_after (first_sizes v d s ns) (cells_of (placed_removals v d (first_sizes v d s ns) ns)) ≡ s
left-is v d s ns =
    let cs = map (placed_cell v d) ns in
    ap (sizes_after (sizes_before s cs)) (placed-cells v d (sizes_before s cs) ns) ∙ after-before s cs

-- the cells with one number more
map-push : (v d : ℕ) (ns : List ℕ) (n : ℕ) → map (placed_cell v d) (ns ++ n ∷ []) ≡ map (placed_cell v d) ns ++ placed_cell v d n ∷ []
map-push v d [] n = refl
map-push v d (x ∷ ns) n = ap (λ cs. placed_cell v d x ∷ cs) (map-push v d ns n)

-- the first sizes, from those before the last removal
pub first-back : (v d : ℕ) (s ns : List ℕ) (n : ℕ) → first_sizes v d s (ns ++ n ∷ []) ≡ first_sizes v d (more_at s (placed_cell v d n)) ns
first-back v d s ns n = ap (sizes_before s) (map-push v d ns n) ∙ before-push s (map (placed_cell v d) ns) (placed_cell v d n)

-- the removals with the last, from the sizes before it
pub removals-back : (v d : ℕ) (s ns : List ℕ) (n : ℕ)
    → placed_removals v d (first_sizes v d s ns) (ns ++ n ∷ []) ≡ placed_removals v d (first_sizes v d s ns) ns ++ placed_removal v d n (slice_index s (placed_cell v d n)) ∷ []
removals-back v d s ns n =
    let cs = map (placed_cell v d) ns in
    let first = sizes_before s cs in
    placed-push v d first ns n ∙ ap (λ t. placed_removals v d first ns ++ placed_removal v d n (slice_index t (placed_cell v d n)) ∷ []) (after-before s cs)

-- with a removal more the first sizes are the same
pub first-more : (v d : ℕ) (s ns : List ℕ) (r : Removal) → r.value < v → IsCauseBelow d r.cause → r.before ≡ slice_index s r.cell → 0 < r.before
    → first_sizes v d (set s r.cell (r.before - 1)) (ns ++ removal_number v d r ∷ []) ≡ first_sizes v d s ns
first-more v d s ns r hv hd before some =
    let less : set s r.cell (r.before - 1) ≡ fewer_at s r.cell = ap (λ b. set s r.cell (b - 1)) before in
    ap (λ t. first_sizes v d t (ns ++ removal_number v d r ∷ [])) less
    ∙ first-back v d (fewer_at s r.cell) ns (removal_number v d r)
    ∙ ap (λ c. first_sizes v d (more_at (fewer_at s r.cell) c) ns) (place-cell v d r hv hd)
    ∙ ap (λ t. first_sizes v d t ns) (more-fewer s r.cell (omega (arith, before, some)))

-- and it is the last
pub removals-more : (v d : ℕ) (s ns : List ℕ) (r : Removal) → r.value < v → IsCauseBelow d r.cause → r.before ≡ slice_index s r.cell
    → placed_removals v d (first_sizes v d s ns) (ns ++ removal_number v d r ∷ []) ≡ placed_removals v d (first_sizes v d s ns) ns ++ r ∷ []
removals-more v d s ns r hv hd before =
    let n = removal_number v d r in
    let size : slice_index s (placed_cell v d n) ≡ r.before = ap (slice_index s) (place-cell v d r hv hd) ∙ sym before in
    removals-back v d s ns n
    ∙ ap (λ b. placed_removals v d (first_sizes v d s ns) ns ++ placed_removal v d n b ∷ []) size
    ∙ ap (λ x. placed_removals v d (first_sizes v d s ns) ns ++ x ∷ []) (place-back v d r hv hd)

-- ---- the last removal

-- the cell of a kept number is one of those that there are
pub kept-cell : (cells v d : ℕ) (ns : List ℕ) (k n : ℕ) → 0 < v → All (λ m. m < removal_count cells v d) ns → slice_get ns k ≡ Some n → placed_cell v d n < cells
kept-cell cells v d ns k n some all at =
    cell-few cells v d n some (subst (λ m. m < removal_count cells v d) (get_or_from_slice_get ns k n 0 at) (all k 0 (slice_get_within ns k n at)))

-- a value more at its cell, the first sizes are the same
pub pop-first : (v d : ℕ) (s ns : List ℕ) (k n : ℕ) → slice_get ns k ≡ Some n → length ns ≡ k + 1
    → first_sizes v d (more_at s (placed_cell v d n)) (take k ns) ≡ first_sizes v d s ns
pop-first v d s ns k n at long = sym (ap (first_sizes v d s) (split-last ns k n at long) ∙ first-back v d s (take k ns) n)

-- and it tells the removal
pub pop-removals : (v d : ℕ) (s ns : List ℕ) (k n : ℕ) → slice_get ns k ≡ Some n → length ns ≡ k + 1 → placed_cell v d n < length s
    → placed_removals v d (first_sizes v d s ns) ns
    ≡ placed_removals v d (first_sizes v d (more_at s (placed_cell v d n)) (take k ns)) (take k ns) ++ placed_removal v d n (slice_index s (placed_cell v d n) + 1) ∷ []
pop-removals v d s ns k n at long inside =
    let c = placed_cell v d n in
    let s' = more_at s c in
    let front = take k ns in
    ap (placed_removals v d (first_sizes v d s ns)) (split-last ns k n at long)
    ∙ ap (λ t. placed_removals v d t (front ++ n ∷ [])) (sym (pop-first v d s ns k n at long))
    ∙ removals-back v d s' front n
    ∙ ap (λ b. placed_removals v d (first_sizes v d s' front) front ++ placed_removal v d n b ∷ []) (get_or-set_same s c (slice_index s c + 1) 0 inside)

-- its cell had one value more before it, and no fewer at first
pop-few : (v d : ℕ) (s ns : List ℕ) (k n : ℕ) → slice_get ns k ≡ Some n → length ns ≡ k + 1 → placed_cell v d n < length s
    → slice_index s (placed_cell v d n) + 1 ≤ slice_index (first_sizes v d s ns) (placed_cell v d n)
pop-few v d s ns k n at long inside =
    let c = placed_cell v d n in
    omega (
      arith,
      before-least (more_at s c) (map (placed_cell v d) (take k ns)) c,
      get_or-set_same s c (slice_index s c + 1) 0 inside,
      ap (λ t. slice_index t c) (pop-first v d s ns k n at long),
    )

-- what holds where the size x that was read at w, the cell of the last number n, is made one more
pub record IsTakenBack (v d : ℕ) (s ns : List ℕ) (k n w x : ℕ) : Type 0 where
  pub cell_in : placed_cell v d n < length s
  pub before : x ≡ slice_index s (placed_cell v d n)
  pub few : x + 1 ≤ slice_index (first_sizes v d s ns) (placed_cell v d n)
  pub written : set s w (x + 1) ≡ more_at s (placed_cell v d n)
  pub first : (front : List ℕ) → front ≡ take k ns → first_sizes v d (set s w (x + 1)) front ≡ first_sizes v d s ns

pub taken_back : (v d : ℕ) (s ns : List ℕ) (k n w x : ℕ) → 0 < v → All (λ m. m < removal_count (length s) v d) ns → slice_get ns k ≡ Some n → length ns ≡ k + 1
    → w ≡ placed_cell v d n → x ≡ get_or s w x → IsTakenBack v d s ns k n w x
taken_back v d s ns k n w x some all at long here reads =
    let inside = kept-cell (length s) v d ns k n some all at in
    let read : x ≡ slice_index s (placed_cell v d n) = get_or_read s w x (omega (arith, here, inside)) reads 0 ∙ ap (slice_index s) here in
    let written : set s w (x + 1) ≡ more_at s (placed_cell v d n) = ap (λ y. set s w (y + 1)) read ∙ ap (λ c. set s c (slice_index s (placed_cell v d n) + 1)) here in
    record {
      cell_in = inside;
      before = read;
      few = omega (arith, read, pop-few v d s ns k n at long inside);
      written = written;
      first = λ front is. ap (λ t. first_sizes v d t front) written ∙ ap (first_sizes v d (more_at s (placed_cell v d n))) is ∙ pop-first v d s ns k n at long;
    }

-- ---- the sizes of the base

-- no cell has more than 4,096 values at first
pub base-few : (P : Network) → IsProblem P → (c : ℕ) → slice_index (sizes_of P (in_base P)) c ≤ 4096
base-few P p c = elim (cases_lt c P.cells) [
  | inl l ↦
      let is : slice_index (sizes_of P (in_base P)) c ≡ size_at P (in_base P) c = get_or-map-range_with_len (size_at P (in_base P)) 0 P.cells c c 0 l (omega arith) in
      omega (arith, is, size-few (base_of P) c, p.sized.few_values)
  | inr past ↦ let z = get_or_past (sizes_of P (in_base P)) c 0 (omega (arith, length-map-range_with_len (size_at P (in_base P)) 0 P.cells)) in omega (arith, z)
]

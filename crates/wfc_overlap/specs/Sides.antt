-- What neighbouring windows share, and patterns grouped by it.
use Rattle.std.specs.Prelude.{◌≡◌, ℕ, ◌+◌, ◌-◌, ◌<◌, ◌++◌, List, [], ◌∷◌, length, map, filter, slice_index_or, nat_eq, if◌then◌else◌}
use Rattle.std.specs.List.{flat_map, range_with_len}
use Rattle.wfc_model.specs.Direction.{opposite, left_by, down_by, right_by, up_by}
use Rattle.wfc_model.specs.Image.{cell_at}
use Rattle.std.specs.Cmp.Lexicographic.{pointwise}
use Rattle.wfc_pattern.specs.Patterns.{PatternsView, window_at}

-- the numbers of a window from a column and a row on, in so many columns and rows, row by row
abbrev pub part : ℕ → List ℕ → ℕ → ℕ → ℕ → ℕ → List ℕ
part n w left top columns rows =
    flat_map (λ j. map (λ i. cell_at n w (left + i) (top + j)) (range_with_len 0 columns))
    (range_with_len 0 rows)

-- the numbers of a window that the one beside it in a direction has too
abbrev pub shared_part : ℕ → List ℕ → ℕ → List ℕ
shared_part n w d =
    part n w (right_by d) (down_by d) (n - (right_by d + left_by d)) (n - (down_by d + up_by d))

-- the members of the first group with a key
abbrev pub members : List (List ℕ × List ℕ) → List ℕ → List ℕ
members [] key = []
members (group ∷ groups) key = if pointwise nat_eq key group.0 then group.1 else members groups key

-- the members of each key are those before, and a new one behind those of its own key
abbrev pub IsAdded : List (List ℕ × List ℕ) → List (List ℕ × List ℕ) → List ℕ → ℕ → Type 0
IsAdded old new key member =
    (k : List ℕ) → members new k
    ≡ members old k ++ (if pointwise nat_eq k key then member ∷ [] else [])

-- the members of each key are the patterns that share it in a direction
abbrev pub IsGrouped : PatternsView → ℕ → List (List ℕ × List ℕ) → Type 0
IsGrouped patterns d groups =
    (key : List ℕ) → members groups key
    ≡ filter (λ q. pointwise nat_eq key (shared_part patterns.n (window_at patterns q) d))
    (range_with_len 0 (length patterns.windows))

-- for each direction there are the groups of the opposite one
pub record AreGrouped (patterns : PatternsView) (groups : List (List (List ℕ × List ℕ)))
    : Type 0 where
  pub four : length groups ≡ 4
  pub each : (d : ℕ) → d < 4 → IsGrouped patterns (opposite d) (slice_index_or groups d [])

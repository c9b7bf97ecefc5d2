-- A table of neighbours kept by hops: what is added to a cell's number to come to the cell beside it.
use Rattle.std.specs.Prelude.{◌≡◌, ℕ, ◌+◌, ◌*◌, ◌%◌, ◌^◌, ◌<◌, ◌⊎◌, ◌==◌, List, [], length, map, take, drop, slice_index_or}
use Rattle.std.specs.Prelude.{if◌then◌else◌, Bool, Option, Some, None}
use Rattle.std.specs.List.{flat_map, range_with_len}
use Rattle.wfc_problem.specs.declared.TheConstants.{NO_CELL, NO_HOP}
use Rattle.wfc_problem.specs.Network.{Network, entry_cell}
use Rattle.wfc_problem.specs.Whole.{IsKept}

-- where a hop from cell c ends: the sum, cut to 32 bits
abbrev pub hop_end : ℕ → ℕ → ℕ
hop_end c h = (c + h) % 2 ^ 32

-- the cell to which a hop leads from cell c, if any
abbrev pub hop_cell : ℕ → ℕ → Option ℕ
hop_cell c h = if h == NO_HOP then None else Some (hop_end c h)

-- the entry of a neighbour table for it
abbrev pub hop_entry : ℕ → ℕ → ℕ
hop_entry c h = if h == NO_HOP then NO_CELL else hop_end c h

-- row k of a table with rows of so many numbers
abbrev pub table_row : ℕ → List ℕ → ℕ → List ℕ
table_row dirs table k = take dirs (drop (k * dirs) table)

-- the row of hops of cell c: that of its kind, or one of its own where no kinds are kept
abbrev pub hops_row : ℕ → List ℕ → List ℕ → ℕ → List ℕ
hops_row dirs kinds rows c = table_row dirs rows (slice_index_or kinds c c)

-- the table of neighbours that hops say
abbrev pub hops_table : ℕ → ℕ → List ℕ → List ℕ → List ℕ
hops_table cells dirs kinds rows = flat_map (λ c. map (hop_entry c) (hops_row dirs kinds rows c)) (range_with_len 0 cells)

-- what hops say: the table of the neighbours of so many cells in so many directions
pub record Beside : Type 0 where
  pub cells : ℕ
  pub dirs : ℕ
  pub entries : List ℕ

-- these hops are a whole row, and each that leads to a cell says so
pub record IsHopsRow (dirs : ℕ) (row : List ℕ) (c : ℕ) : Type 0 where
  pub long : length row ≡ dirs
  pub named : map (hop_cell c) row ≡ map entry_cell (map (hop_entry c) row)

-- each cell has a kind, or none has, and each has its row of hops
pub record AreHops (cells dirs : ℕ) (kinds rows : List ℕ) : Type 0 where
  pub some_or_none : (kinds ≡ []) ⊎ (length kinds ≡ cells)
  pub each : (c : ℕ) → c < cells → IsHopsRow dirs (hops_row dirs kinds rows c) c

-- the parts say a problem with the neighbours that the hops say
pub record HasBeside (whole : Bool) (P : Network) (B : Beside) : Type 0 where
  pub cells : B.cells ≡ P.cells
  pub dirs : B.dirs ≡ P.dirs
  pub kept : IsKept whole (record P { neighbours = B.entries })

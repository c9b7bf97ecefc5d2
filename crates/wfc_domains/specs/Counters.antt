-- A table of support counters, and how many of them a removal changes.
use Rattle.std.specs.Prelude.{◌≡◌, ℕ, ◌+◌, ◌*◌, ◌/◌, ◌%◌, ◌<◌, ◌≤◌, ◌⊎◌, List, length, map}
use Rattle.std.specs.Prelude.{replicate, slice_index, slice_set, Option, Some, None}
use Rattle.std.specs.List.{range_with_len, sum_by}
use Rattle.wfc_problem.specs.Network.{Network, values, neighbour, supports_of}
use Rattle.wfc_problem.specs.Domains.{Test, support_count}
use Rattle.wfc_log.specs.declared.Removal.{Removal}

-- one count for each cell, value and direction, none of which can be above the limit
pub record Table : Type 0 where
  pub cells : ℕ
  pub values : ℕ
  pub dirs : ℕ
  pub limit : ℕ
  pub counts : List ℕ

-- where the count of v at c in direction d stands in a table of n values and k directions
abbrev pub count_place : ℕ → ℕ → ℕ → ℕ → ℕ → ℕ
count_place n k c v d = (c * n + v) * k + d

-- where a problem's counter of v at c in direction d stands
abbrev pub counter_place : Network → ℕ → ℕ → ℕ → ℕ
counter_place P c v d = count_place (values P) P.dirs c v d

-- the entry of v at c in direction d: its count, and 32,768 more where it is marked
abbrev pub entry_of : Table → ℕ → ℕ → ℕ → ℕ
entry_of T c v d = slice_index T.counts (count_place T.values T.dirs c v d)

-- the count of v at c in direction d
abbrev pub count_of : Table → ℕ → ℕ → ℕ → ℕ
count_of T c v d = entry_of T c v d % 32768

-- the count of v at c in direction d is marked
abbrev pub IsMarked : Table → ℕ → ℕ → ℕ → Type 0
IsMarked T c v d = 32768 ≤ entry_of T c v d

-- the table with this entry there
abbrev pub with_count : Table → ℕ → ℕ → ℕ → ℕ → Table
with_count T c v d n = record T { counts = slice_set T.counts (count_place T.values T.dirs c v d) n }

-- the table with this entry at a place
abbrev pub with_entry : Table → ℕ → ℕ → Table
with_entry T place n = record T { counts = slice_set T.counts place n }

-- how many counters a problem has
abbrev pub counters_of : Network → ℕ
counters_of P = (P.cells * values P) * P.dirs

-- a table of the problem's cells, values and directions, with a limit that no list of supports is above
pub record FitsTable (P : Network) (T : Table) : Type 0 where
  pub same_cells : T.cells ≡ P.cells
  pub same_values : T.values ≡ values P
  pub same_dirs : T.dirs ≡ P.dirs
  pub whole : length T.counts ≡ counters_of P
  pub few : (v d : ℕ) → length (supports_of P v d) ≤ T.limit

-- no count changed, and no mark came but to the counts of one value at a cell
pub record Marks (old new : Table) (cell value : ℕ) : Type 0 where
  pub same_cells : new.cells ≡ old.cells
  pub same_values : new.values ≡ old.values
  pub same_dirs : new.dirs ≡ old.dirs
  pub same_limit : new.limit ≡ old.limit
  pub same_length : length new.counts ≡ length old.counts
  pub counts : (c v d : ℕ) → count_of new c v d ≡ count_of old c v d
  pub marks : (c v d : ℕ) → v < old.values → d < old.dirs → IsMarked new c v d → IsMarked old c v d
      ⊎ ((c ≡ cell) × (v ≡ value))

-- no count changed and no mark came, and none is left on the counts of one value at a cell in the first k directions
pub record Unmarks (old new : Table) (cell value k : ℕ) : Type 0 where
  pub same_cells : new.cells ≡ old.cells
  pub same_values : new.values ≡ old.values
  pub same_dirs : new.dirs ≡ old.dirs
  pub same_limit : new.limit ≡ old.limit
  pub same_length : length new.counts ≡ length old.counts
  pub counts : (c v d : ℕ) → count_of new c v d ≡ count_of old c v d
  pub marks : (c v d : ℕ) → IsMarked new c v d → IsMarked old c v d
  pub cleared : (d : ℕ) → d < k → IsMarked new cell value d → ⊥

-- the table with this limit in which each count is 0
abbrev pub no_counts : Network → ℕ → Table
no_counts P limit = record { cells = P.cells; values = values P; dirs = P.dirs; limit = limit; counts = replicate (counters_of P) 0 }

-- the table with this limit of how many supports of each value stand beside each cell in each direction
abbrev pub counts_of : Network → Test → ℕ → Table
counts_of P D limit = record {
  cells = P.cells;
  values = values P;
  dirs = P.dirs;
  limit = limit;
  counts =
      map (λ at. support_count P D (at / P.dirs / values P) (at / P.dirs % values P) (at % P.dirs))
      (range_with_len 0 (counters_of P));
}

-- each count is how many supports stand
abbrev pub HasCounts : Network → Test → Table → Type 0
HasCounts P D T = (c v d : ℕ) → c < P.cells → v < values P → d < P.dirs → count_of T c v d ≡ support_count P D c v d

-- how many values may stand beside v in direction d, 0 where there is no neighbour
abbrev pub supports_at : Network → ℕ → ℕ → Option ℕ → ℕ
supports_at P v d None = 0
supports_at P v d (Some next) = length (supports_of P v d)

-- how many counters count v at c: those of the values that it supports at its neighbours
abbrev pub cost_at : Network → ℕ → ℕ → ℕ
cost_at P c v = sum_by (λ d. supports_at P v d (neighbour P c d)) (range_with_len 0 P.dirs)

-- how many counters count the removed values in all
abbrev pub cost_of : Network → List Removal → ℕ
cost_of P removals = sum_by (λ r. cost_at P r.cell r.value) removals

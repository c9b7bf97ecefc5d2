-- A constraint problem as contracts see it.
use Rattle.std.specs.Prelude.{◌≡◌, ℕ, ◌+◌, ◌*◌, ◌<◌, ◌≤◌, ◌⊎◌, Bool, false, List, [], length, nat_lt, ◌==◌}
use Rattle.std.specs.Prelude.{if◌then◌else◌, Option, Some, None, slice_index, slice_index_or, Contains, take, drop}
use Rattle.std.specs.List.{list_any}
use Rattle.std.specs.List.Sorted.{IsStrictlyIncreasing}
use Rattle.wfc_model.specs.Direction.{opposite}
use Rattle.wfc_problem.specs.declared.TheConstants.{MAX_PAIRS, MAX_VALUES, MAX_WEIGHT, NO_CELL}

-- the parts of a problem: cell c's neighbour in direction d stands at c * dirs + d, the values that v supports
-- in direction d at v * dirs + d, and whether v is in c's base at c * values + v
pub record Network : Type 0 where
  pub cells : ℕ
  pub dirs : ℕ
  pub neighbours : List ℕ
  pub weights : List ℕ
  pub supports : List (List ℕ)
  pub base : List Bool

-- how many values there are
abbrev pub values : Network → ℕ
values P = length P.weights

-- the weight of value v, 0 where there is no such value
abbrev pub value_weight : Network → ℕ → ℕ
value_weight P v = slice_index P.weights v

-- the cell that an entry of the neighbour table names, if any
abbrev pub entry_cell : ℕ → Option ℕ
entry_cell n = if n == NO_CELL then None else Some n

-- the cell beside c in direction d, if there is one
abbrev pub neighbour : Network → ℕ → ℕ → Option ℕ
neighbour P c d = if nat_lt d P.dirs then entry_cell (slice_index_or P.neighbours (c * P.dirs + d) NO_CELL) else None

-- the entries of the table for what is beside c, one for each direction
abbrev pub beside : Network → ℕ → List ℕ
beside P c = take P.dirs (drop (c * P.dirs) P.neighbours)

-- the values that may stand beside v in direction d, rising; none where there is no such value or direction
abbrev pub supports_of : Network → ℕ → ℕ → List ℕ
supports_of P v d = if nat_lt d P.dirs then slice_index_or P.supports (v * P.dirs + d) [] else []

-- w may stand beside v in direction d
abbrev pub ok : Network → ℕ → ℕ → ℕ → Bool
ok P d v w = list_any (λ x. x == w) (supports_of P v d)

-- the flags of cell c in a table with one row of n flags for each cell
abbrev pub row_of : ℕ → List Bool → ℕ → List Bool
row_of n flags c = take n (drop (c * n) flags)

-- whether such a table has v at c
abbrev pub has_flag : ℕ → List Bool → ℕ → ℕ → Bool
has_flag n flags c v = slice_index_or (row_of n flags c) v false

-- v is in c's base
abbrev pub in_base : Network → ℕ → ℕ → Bool
in_base P c v = has_flag (values P) P.base c v

-- the counts are within the limits, and the tables have their lengths, so that each entry can be read
pub record HasTables (P : Network) : Type 0 where
  pub some_cell : 0 < P.cells
  pub few_cells : P.cells ≤ MAX_PAIRS
  pub four_or_six : (P.dirs ≡ 4) ⊎ (P.dirs ≡ 6)
  pub some_value : 0 < values P
  pub few_values : values P ≤ MAX_VALUES
  pub few_pairs : P.cells * values P ≤ MAX_PAIRS
  pub neighbours_table : length P.neighbours ≡ P.cells * P.dirs
  pub supports_table : length P.supports ≡ values P * P.dirs
  pub base_table : length P.base ≡ P.cells * values P

-- each entry of the tables names a cell or a value that there is, and lists of supports rise
pub record IsIndexed (P : Network) : Type 0 where
  pub in_cells : (c d n : ℕ) → neighbour P c d ≡ Some n → n < P.cells
  pub rising : (v d : ℕ) → IsStrictlyIncreasing (supports_of P v d)
  pub in_values : (v w d : ℕ) → Contains (supports_of P v d) w → w < values P

-- each weight is 1 to 16,777,216
pub record IsWeighed (P : Network) : Type 0 where
  pub some_weight : (v : ℕ) → v < values P → 0 < value_weight P v
  pub small_weight : (v : ℕ) → v < values P → value_weight P v ≤ MAX_WEIGHT

-- a problem: at least one cell, four or six directions, 1 to 4,096 values with weights 1 to 16,777,216,
-- at most 8,388,608 pairs; a neighbour's neighbour the other way is the cell, and what may stand beside
-- v in a direction has v beside it the other way
pub record IsProblem (P : Network) : Type 0 where
  pub sized : HasTables P
  pub indexed : IsIndexed P
  pub weighed : IsWeighed P
  pub back : (c d n : ℕ) → neighbour P c d ≡ Some n → neighbour P n (opposite d) ≡ Some c
  pub symmetric : (v w d : ℕ) → Contains (supports_of P v d) w → Contains (supports_of P w (opposite d)) v

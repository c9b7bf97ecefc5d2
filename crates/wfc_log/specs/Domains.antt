-- Domains as contracts see them: a list of flags, one row for each cell.
use Rattle.std.specs.Prelude.{◌≡◌, ℕ, ◌<◌, ◌*◌, ◌/◌, ◌%◌, Bool, not, ◌&&◌, ◌==◌, List, filter, length, map, IsTrue}
use Rattle.std.specs.List.{range_with_len}
use Rattle.wfc_problem.specs.Network.{Network, values, has_flag}
use Rattle.wfc_problem.specs.Domains.{Test}

-- the numbers of cells and of values, and a flag for each value of each cell, row by row
pub record Flags : Type 0 where
  pub cells : ℕ
  pub values : ℕ
  pub flags : List Bool

-- whether v stands at c
abbrev pub has : Flags → Test
has D c v = has_flag D.values D.flags c v

-- how many values stand at c
abbrev pub size_of : Flags → ℕ → ℕ
size_of D c = length (filter (has D c) (range_with_len 0 D.values))

-- the domains that a test describes
abbrev pub flags_of : Network → Test → Flags
flags_of P D = record {
  cells = P.cells;
  values = values P;
  flags = map (λ at. D (at / values P) (at % values P)) (range_with_len 0 (P.cells * values P));
}

-- the base domains
abbrev pub base_of : Network → Flags
base_of P = record { cells = P.cells; values = values P; flags = P.base }

-- the domains have the problem's cells and values
pub record Fits (P : Network) (D : Flags) : Type 0 where
  pub same_cells : D.cells ≡ P.cells
  pub same_values : D.values ≡ values P

-- D without v at c
abbrev pub less : Test → ℕ → ℕ → Test
less D cell value c v = D c v && not (c == cell && v == value)

-- `new` is `old` without the value at the cell, where it stood
pub record IsLess (old new : Flags) (cell value : ℕ) : Type 0 where
  pub same_cells : new.cells ≡ old.cells
  pub same_values : new.values ≡ old.values
  pub same_length : length new.flags ≡ length old.flags
  pub stood : IsTrue (has old cell value)
  pub each : has new ≡ less (has old) cell value

-- the cell is the first at which no value stands
pub record IsFirstEmpty (D : Flags) (cell : ℕ) : Type 0 where
  pub cell_in : cell < D.cells
  pub empty : size_of D cell ≡ 0
  pub least : (c : ℕ) → c < cell → 0 < size_of D c

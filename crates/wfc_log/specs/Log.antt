-- The log of removals, as contracts see it.
use Rattle.std.specs.Prelude.{◌≡◌, ℕ, ◌-◌, ◌<◌, List, [], ◌∷◌, map, slice_index, slice_set}
use Rattle.wfc_problem.specs.Network.{Network, values, in_base}
use Rattle.wfc_problem.specs.Sizes.{sizes_of}
use Rattle.wfc_log.specs.declared.Cause.{Cause}
use Rattle.wfc_log.specs.declared.Cause.TheVariants.{Assumed, Arc}
use Rattle.wfc_log.specs.declared.Loss.{Loss}
use Rattle.wfc_log.specs.declared.Removal.{Removal}

-- how many cells, values and directions there are, and how many values each cell has before any removal
pub record Extent : Type 0 where
  pub cells : ℕ
  pub values : ℕ
  pub dirs : ℕ
  pub sizes : List ℕ

-- those of a problem
abbrev pub extent_of : Network → Extent
extent_of P = record { cells = P.cells; values = values P; dirs = P.dirs; sizes = sizes_of P (in_base P) }

-- the sizes, once a cell has a value less
abbrev pub fewer_at : List ℕ → ℕ → List ℕ
fewer_at sizes c = slice_set sizes c (slice_index sizes c - 1)

-- the sizes, once one value more was removed from each of these cells in turn
abbrev pub sizes_after : List ℕ → List ℕ → List ℕ
sizes_after sizes [] = sizes
sizes_after sizes (c ∷ cells) = sizes_after (fewer_at sizes c) cells

-- the cell of each removal
abbrev pub cells_of : List Removal → List ℕ
cells_of rs = map (λ r. r.cell) rs

-- what a removal took away: its value at its cell, and why
abbrev pub loss_of : Removal → Loss
loss_of r = record { cell = r.cell; value = r.value; cause = r.cause }

-- a direction that the cause names is one of the first k
abbrev pub IsCauseBelow : ℕ → Cause → Type 0
IsCauseBelow k Assumed = Unit {0}
IsCauseBelow k (Arc d) = d < k

-- there are such a cell, such a value, and the direction that the cause names
pub record IsInside (e : Extent) (cell value : ℕ) (cause : Cause) : Type 0 where
  pub cell_in : cell < e.cells
  pub value_in : value < e.values
  pub cause_in : IsCauseBelow e.dirs cause

-- there are such a cell, such a value and such a cause, and it tells how many values its cell had, of which there were
-- some
pub record IsLogged (e : Extent) (sizes : List ℕ) (r : Removal) : Type 0 where
  pub inside : IsInside e r.cell r.value r.cause
  pub before : r.before ≡ slice_index sizes r.cell
  pub some : 0 < r.before

-- so does each removal in turn
abbrev pub AreLogged : Extent → List ℕ → List Removal → Type 0
AreLogged e sizes [] = Unit {0}
AreLogged e sizes (r ∷ rs) = IsLogged e sizes r × AreLogged e (fewer_at sizes r.cell) rs

-- what was removed, the oldest first, how many of these are of earlier levels than the last, how many removals there is
-- room for, and the cells, values, directions and sizes that there are
pub record Log : Type 0 where
  pub room : ℕ
  pub extent : Extent
  pub start : ℕ
  pub removals : List Removal

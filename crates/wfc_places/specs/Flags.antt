-- Tables of flags, a row for each cell and a flag for each value, from whose rows values are taken away.
use Rattle.std.specs.Prelude.{◌≡◌, ℕ, ◌+◌, ◌*◌, ◌<◌, ◌≤◌, ◌⊎◌, Bool, false, ◌&&◌, List, length, slice_index_or}

-- the flag of a value at a cell, in a table with n flags for each cell
abbrev pub flag : ℕ → List Bool → ℕ → ℕ → Bool
flag n flags c v = slice_index_or flags (c * n + v) false

-- in the row of a cell, of n flags, a value stays where it stood and passes a test; all other flags are as before
pub record IsRowCut (n : ℕ) (old new : List Bool) (cell : ℕ) (passes : ℕ → Bool) : Type 0 where
  pub as_long : length new ≡ length old
  pub here : (v : ℕ) → v < n → flag n new cell v ≡ (flag n old cell v && passes v)
  pub others : (k : ℕ) → (k < cell * n) ⊎ (cell * n + n ≤ k) → slice_index_or new k false ≡ slice_index_or old k false

-- a table of so many cells, with n flags for each, has those of what stays
pub record HasFlags (n cells : ℕ) (flags : List Bool) (stays : ℕ → ℕ → Bool) : Type 0 where
  pub as_long : length flags ≡ cells * n
  pub each : (c v : ℕ) → c < cells → v < n → flag n flags c v ≡ stays c v

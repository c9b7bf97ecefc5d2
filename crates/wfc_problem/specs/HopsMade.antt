-- How hops are made of a table of neighbours.
use Rattle.std.specs.Prelude.{◌≡◌, ℕ, ◌+◌, ◌*◌, ◌-◌, ◌%◌, ◌^◌, ◌<◌, ◌≤◌, ◌⊎◌, ◌==◌, List, length, map, slice_index, if◌then◌else◌}
use Rattle.wfc_problem.specs.declared.TheConstants.{MAX_PAIRS, NO_CELL, NO_HOP}
use Rattle.wfc_problem.specs.Hops.{table_row}

-- the hop from cell c that an entry of a neighbour table asks for
abbrev pub hop_of : ℕ → ℕ → ℕ
hop_of c entry = if entry == NO_CELL then NO_HOP else (entry + 2 ^ 32 - c) % 2 ^ 32

-- an entry names a cell of the most that there may be, or none
abbrev pub IsEntry : ℕ → Type 0
IsEntry entry = (entry ≡ NO_CELL) ⊎ (entry < MAX_PAIRS)

-- of a table only the entries from `start` on were changed, so many of them, to the hops from cell c
pub record AreHopsAt (old new : List ℕ) (start so_many c : ℕ) : Type 0 where
  pub long : length new ≡ length old
  pub changed : (d : ℕ) → d < so_many → slice_index new (start + d) ≡ hop_of c (slice_index old (start + d))
  pub before : (i : ℕ) → i < start → slice_index new i ≡ slice_index old i
  pub behind : (i : ℕ) → start + so_many ≤ i → slice_index new i ≡ slice_index old i

-- the first n rows of a table became hops, and the others stayed
pub record AreTurned (old new : List ℕ) (dirs n : ℕ) : Type 0 where
  pub long : length new ≡ length old
  pub turned : (c d : ℕ) → c < n → d < dirs → slice_index new (c * dirs + d) ≡ hop_of c (slice_index old (c * dirs + d))
  pub behind : (i : ℕ) → n * dirs ≤ i → slice_index new i ≡ slice_index old i

-- the hops of the first n rows of a table stand among others, each as the row of its kind
pub record AreKinds (dirs : ℕ) (table : List ℕ) (n : ℕ) (kinds rows : List ℕ) : Type 0 where
  pub so_many : length kinds ≡ n
  pub same : (c : ℕ) → c < n → table_row dirs rows (slice_index kinds c) ≡ map (hop_of c) (table_row dirs table c)

-- Counters that are loaded one after another.
use Rattle.std.specs.Prelude.{◌≡◌, ℕ, ◌+◌, ◌<◌, ◌≤◌, List, length, slice_index}
use Rattle.wfc_problem.specs.Network.{Network, values, supports_of}
use Rattle.wfc_problem.specs.Domains.{Test, support_count}
use Rattle.wfc_domains.specs.Counters.{Table, FitsTable, entry_of, counter_place}

-- each counter before the i-th place is the number of supports that stand
pub record AreLoaded (P : Network) (D : Test) (T : Table) (i : ℕ) : Type 0 where
  pub fits : FitsTable P T
  pub below : (c v d : ℕ) → c < P.cells → v < values P → d < P.dirs → counter_place P c v d < i
      → entry_of T c v d ≡ support_count P D c v d

-- all supports stand beside c in the first k directions
abbrev pub IsSurrounded : Network → Test → ℕ → ℕ → Type 0
IsSurrounded P D c k = (v d : ℕ) → d < k → support_count P D c v d ≡ length (supports_of P v d)

-- the same supports stand beside both cells in the first k directions
abbrev pub HaveSameSupports : Network → Test → ℕ → ℕ → ℕ → Type 0
HaveSameSupports P D c c' k = (v d : ℕ) → d < k → support_count P D c v d ≡ support_count P D c' v d

-- c is before the cell, and all supports stand beside it
pub record IsLike (P : Network) (D : Test) (cell c : ℕ) : Type 0 where
  pub earlier : c < cell
  pub surrounded : IsSurrounded P D c P.dirs

-- the counts of one cell became those of another
pub record IsCopied (old new : Table) (from to : ℕ) : Type 0 where
  pub same_cells : new.cells ≡ old.cells
  pub same_values : new.values ≡ old.values
  pub same_dirs : new.dirs ≡ old.dirs
  pub same_limit : new.limit ≡ old.limit
  pub same_length : length new.counts ≡ length old.counts
  pub copied : (v d : ℕ) → v < old.values → d < old.dirs → entry_of new to v d ≡ entry_of old from v d
  pub others : (c v d : ℕ) → c < to → v < old.values → d < old.dirs → entry_of new c v d ≡ entry_of old c v d

-- so many numbers were copied from one place to another, and nothing else changed
pub record IsRowCopied (old new : List ℕ) (start row dest : ℕ) : Type 0 where
  pub copied : (i : ℕ) → i < row → slice_index new (dest + i) ≡ slice_index old (start + i)
  pub below : (i : ℕ) → i < dest → slice_index new i ≡ slice_index old i
  pub behind : (i : ℕ) → dest + row ≤ i → slice_index new i ≡ slice_index old i
  pub same_length : length new ≡ length old

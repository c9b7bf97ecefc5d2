-- Entries of counters before and after a change.
use Rattle.std.specs.Prelude.{◌≡◌, ℕ, ◌+◌, ◌%◌, ◌<◌, ◌≤◌, List, length, slice_index}

-- the entry with its count marked
abbrev pub marked_entry : ℕ → ℕ
marked_entry entry = entry % 32768 + 32768

-- the entry without a mark
abbrev pub plain_entry : ℕ → ℕ
plain_entry entry = entry % 32768

-- so many entries from a place on were changed alike, and no others
pub record AreChanged (change : ℕ → ℕ) (old new : List ℕ) (start count : ℕ) : Type 0 where
  pub same_length : length new ≡ length old
  pub changed : (i : ℕ) → i < count → slice_index new (start + i) ≡ change (slice_index old (start + i))
  pub below : (i : ℕ) → i < start → slice_index new i ≡ slice_index old i
  pub behind : (i : ℕ) → start + count ≤ i → slice_index new i ≡ slice_index old i

-- Counts that have bytes of their own.
use Rattle.std.specs.Prelude.{◌≡◌, ℕ, ◌+◌, ◌*◌, ◌<◌, ◌≤◌, ◌⊎◌, List, length, slice_index}
use Rattle.wfc_domains.specs.Halves.{entries_from, limit_from}
use Rattle.wfc_domains.specs.declared.singles.Singles.TheInside.{Inside}

-- entries, none of whose counts can be above the limit
pub record LimitedEntries : Type 0 where
  pub limit : ℕ
  pub entries : List ℕ

-- what contracts see of them
abbrev pub singles_view : Inside → LimitedEntries
singles_view a = record { limit = limit_from a.large.items; entries = entries_from a.small.items a.large.items }

-- both parts make a count for which there is room, and the small one is 0 only where the count is
pub record IsCountSplit (small large : ℕ) : Type 0 where
  pub limit : small + 255 * large ≤ 32640
  pub some : 0 < large → 0 < small

-- each entry or none has a large part, 0 where it has none
pub record AreSingles (a : Inside) : Type 0 where
  pub both : (length a.large.items ≡ 0) ⊎ (length a.large.items ≡ length a.small.items)
  pub each : (i : ℕ) → IsCountSplit (slice_index a.small.items i) (slice_index a.large.items i)

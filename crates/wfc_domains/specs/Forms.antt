-- Counters in one of two forms: two in a byte, or each in bytes of its own.
use Rattle.std.specs.Prelude.{◌≡◌, ℕ, ◌*◌, ◌%◌, ◌<◌, ◌^◌, Bool, true, if◌then◌else◌, List, length}
use Rattle.wfc_domains.specs.Counters.{Table}
use Rattle.wfc_domains.specs.Singles.{LimitedEntries}
use Rattle.wfc_domains.specs.declared.counters.Counters.TheInside.{Inside}

-- the entries and their limit in the form that is told
abbrev pub in_form : Bool → List ℕ → LimitedEntries → LimitedEntries
in_form paired pairs singles = if paired then record { limit = 7; entries = pairs } else singles

-- the table of so many cells, values and directions with these entries
abbrev pub table_with : ℕ → ℕ → ℕ → LimitedEntries → Table
table_with cells values dirs e = record { cells = cells; values = values; dirs = dirs; limit = e.limit; counts = e.entries }

-- what contracts see of them
abbrev pub table_of : Inside → Table
table_of a = table_with a.cells a.values a.dirs (in_form a.is_paired a.pairs a.singles)

-- each cell, value and direction has an entry, and a cell an even number of them where two share a byte
pub record AreCounters (a : Inside) : Type 0 where
  pub whole : length (in_form a.is_paired a.pairs a.singles).entries ≡ (a.cells * a.values) * a.dirs
  pub few : length (in_form a.is_paired a.pairs a.singles).entries < 2 ^ 63
  pub even : a.is_paired ≡ true → (a.values * a.dirs) % 2 ≡ 0
  pub sides : 0 < a.cells → 0 < a.dirs
  pub above : 7 < a.singles.limit

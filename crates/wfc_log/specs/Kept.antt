-- What holds of the parts that removals of earlier levels are kept in.
use Rattle.std.specs.Prelude.{ℕ, ◌<◌, ◌≤◌, List, All, length, slice_index}
use Rattle.wfc_log.specs.Log.{Extent}
use Rattle.wfc_log.specs.Numbered.{Earlier, removal_count, placed_removals, first_sizes, wide_limit}
use Rattle.wfc_log.specs.declared.older.Older.TheInside.{Inside}

-- the sizes before all removals, from those that they left
abbrev pub sizes_in : Inside → List ℕ
sizes_in a = first_sizes a.values a.dirs a.sizes.items a.numbers.numbers

-- the cells, values, directions and first sizes
abbrev pub extent_in : Inside → Extent
extent_in a = record { cells = length a.sizes.items; values = a.values; dirs = a.dirs; sizes = sizes_in a }

-- what contracts see of the removals that are kept as numbers
abbrev pub older_view : Inside → Earlier
older_view a = record {
  room = a.numbers.room;
  extent = extent_in a;
  removals = placed_removals a.values a.dirs (sizes_in a) a.numbers.numbers;
}

-- each number is one that there can be, and no cell had more than 4,096 values
pub record AreNumbers (a : Inside) : Type 0 where
  pub some_value : 0 < a.values
  pub few_places : removal_count (length a.sizes.items) a.values a.dirs ≤ wide_limit
  pub places_in : removal_count (length a.sizes.items) a.values a.dirs ≤ a.numbers.limit
  pub numbers_in : All (λ n. n < removal_count (length a.sizes.items) a.values a.dirs) a.numbers.numbers
  pub few_values : (c : ℕ) → slice_index (sizes_in a) c ≤ 4096

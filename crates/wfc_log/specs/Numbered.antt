-- Removals as numbers.
use Rattle.std.specs.Prelude.{ℕ, Bool, ◌+◌, ◌*◌, ◌/◌, ◌%◌, ◌==◌, if◌then◌else◌, List, [], ◌∷◌, map, slice_index, slice_set}
use Rattle.wfc_log.specs.declared.Cause.{Cause}
use Rattle.wfc_log.specs.declared.Cause.TheVariants.{Assumed, Arc}
use Rattle.wfc_log.specs.declared.Loss.{Loss}
use Rattle.wfc_log.specs.declared.Removal.{Removal}
use Rattle.wfc_log.specs.Log.{Extent, fewer_at}

-- a cause's number: its direction, or behind all directions where the value was cut
abbrev pub cause_number : ℕ → Cause → ℕ
cause_number dirs Assumed = dirs
cause_number dirs (Arc d) = d

-- the number of a removal's cell, value and cause among all that there can be: by the cell, then
-- the value, then the cause
abbrev pub removal_number : ℕ → ℕ → Removal → ℕ
removal_number values dirs r = (r.cell * values + r.value) * (dirs + 1) + cause_number dirs r.cause

-- how many such numbers there are
abbrev pub removal_count : ℕ → ℕ → ℕ → ℕ
removal_count cells values dirs = (cells * values) * (dirs + 1)

-- the cause with this number
abbrev pub numbered_cause : ℕ → ℕ → Cause
numbered_cause dirs k = if k == dirs then Assumed else Arc k

-- the cell of a number
abbrev pub placed_cell : ℕ → ℕ → ℕ → ℕ
placed_cell values dirs place = place / (dirs + 1) / values

-- what the removal with this number took away
abbrev pub placed_loss : ℕ → ℕ → ℕ → Loss
placed_loss values dirs place = record {
  cell = placed_cell values dirs place;
  value = place / (dirs + 1) % values;
  cause = numbered_cause dirs (place % (dirs + 1));
}

-- the removal with this number, before which so many values stood at its cell
abbrev pub placed_removal : ℕ → ℕ → ℕ → ℕ → Removal
placed_removal values dirs place before = record {
  cell = placed_cell values dirs place;
  value = place / (dirs + 1) % values;
  before = before;
  cause = numbered_cause dirs (place % (dirs + 1));
}

-- the removals with these numbers, where the cells had these sizes before
abbrev pub placed_removals : ℕ → ℕ → List ℕ → List ℕ → List Removal
placed_removals values dirs sizes [] = []
placed_removals values dirs sizes (n ∷ places) =
    let c = placed_cell values dirs n in
    placed_removal values dirs n (slice_index sizes c) ∷ placed_removals values dirs (fewer_at sizes c) places

-- the sizes, once a cell has a value more
abbrev pub more_at : List ℕ → ℕ → List ℕ
more_at sizes c = slice_set sizes c (slice_index sizes c + 1)

-- the sizes before one value was removed from each of these cells, which left these
abbrev pub sizes_before : List ℕ → List ℕ → List ℕ
sizes_before sizes [] = sizes
sizes_before sizes (c ∷ cells) = more_at (sizes_before sizes cells) c

-- the sizes before the removals with these numbers, which left these
abbrev pub first_sizes : ℕ → ℕ → List ℕ → List ℕ → List ℕ
first_sizes values dirs sizes places = sizes_before sizes (map (placed_cell values dirs) places)

-- the number with this rest by the base, which goes into it so many times
abbrev pub number_from : ℕ → ℕ → ℕ → ℕ
number_from base low high = base * high + low

-- the numbers in these two parts
abbrev pub numbers_from : ℕ → List ℕ → List ℕ → List ℕ
numbers_from base [] highs = []
numbers_from base (n ∷ lows) [] = []
numbers_from base (n ∷ lows) (h ∷ highs) = number_from base n h ∷ numbers_from base lows highs

-- how many numbers three bytes tell apart
abbrev pub short_limit : ℕ
short_limit = 16777216

-- and how many three bytes and two bits do, which are enough for a problem
abbrev pub wide_limit : ℕ
wide_limit = 67108864

-- the numbers in these parts, of two bytes, one byte and, where they are wide, two bits
abbrev pub packed_numbers : Bool → List ℕ → List ℕ → List ℕ → List ℕ
packed_numbers wide lows bytes tops =
    let shorts = numbers_from 65536 lows bytes in if wide then numbers_from short_limit shorts tops else shorts

-- what is above each number, wide or not
abbrev pub limit_of : Bool → ℕ
limit_of wide = if wide then wide_limit else short_limit

-- numbers, how many of them there is room for, and what is above each that there is room for
pub record Packed : Type 0 where
  pub room : ℕ
  pub limit : ℕ
  pub numbers : List ℕ

-- no numbers, and room for so many
abbrev pub empty_numbers : ℕ → Bool → Packed
empty_numbers room wide = record { room = room; limit = limit_of wide; numbers = [] }

-- removals of earlier levels, and how many of them there is room for
pub record Earlier : Type 0 where
  pub room : ℕ
  pub extent : Extent
  pub removals : List Removal

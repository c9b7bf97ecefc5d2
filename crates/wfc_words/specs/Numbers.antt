-- The table of the numbers among the words, in the order in which they are read.
use Rattle.std.specs.Prelude.{ℕ, ◌+◌, ◌-◌, min}
use Rattle.wfc_words.specs.declared.fault.ValueName.{ValueName}
use Rattle.wfc_words.specs.declared.fault.ValueName.TheVariants as names
use Rattle.wfc_words.specs.declared.kinds.SourceModel.{SourceModel}
use Rattle.wfc_words.specs.declared.kinds.SourceModel.TheVariants.{Overlap, Tiles}

-- a number among the words: the value's name, the least and the greatest number, and what stands for it where the words
-- have none
pub record NumberRange : Type 0 where
  pub name : ValueName
  pub least : ℕ
  pub most : ℕ
  pub absent : ℕ

-- a row of the table
abbrev range : ValueName → ℕ → ℕ → ℕ → NumberRange
range name least most absent = record { name = name; least = least; most = most; absent = absent }

-- the width of a map or a box: so many columns
abbrev pub width_range : NumberRange
width_range = range names.Width 1 4096 0

-- the height of a map or a box: so many rows
abbrev pub height_range : NumberRange
height_range = range names.Height 1 4096 0

-- how many of the eight images of each window are learned
abbrev pub symmetry_range : NumberRange
symmetry_range = range names.Symmetry 1 8 1

-- the seed of a run, a number of 64 bits
abbrev pub seed_range : NumberRange
seed_range = range names.Seed 0 18446744073709551615 0

-- how many choices of a run may be taken back
abbrev pub budget_range : NumberRange
budget_range = range names.Budget 0 1000000000 1000000

-- the number of a demonstration
abbrev pub number_range : NumberRange
number_range = range names.Number 0 1000000 0

-- the format in which a refutation is written
abbrev pub format_range : NumberRange
format_range = range names.Format 1 2 2

-- as many seeds as there are from this one on, at most eight
abbrev pub seeds_from : ℕ → ℕ
seeds_from seed = min 7 (18446744073709551615 - seed) + 1

-- the seeds of a race, of which the first is this one
abbrev pub seeds_range : ℕ → NumberRange
seeds_range seed = range names.Seeds 1 (seeds_from seed) 0

-- how many turns a runner of a race makes at a time
abbrev pub quantum_range : NumberRange
quantum_range = range names.Quantum 1 1000000 1

-- the least side of a block: a block holds a window
abbrev pub least_block : SourceModel → ℕ
least_block (Overlap n) = n
least_block Tiles = 1

-- the side of a block of a map of this source
abbrev pub block_range : SourceModel → NumberRange
block_range source = range names.Block (least_block source) 4096 512

-- the depth of a box: so many layers
abbrev pub depth_range : NumberRange
depth_range = range names.Depth 1 256 0

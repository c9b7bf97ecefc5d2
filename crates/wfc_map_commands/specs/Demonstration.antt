-- What a demonstration runs on: a grid of 24 by 24 with lines across and down, and an output of 48 by 48.
use Rattle.std.specs.List.{range_with_len}
use Rattle.std.specs.Prelude.{List, [], false, if◌then◌else◌, map, ℕ, ◌%◌, ◌*◌, ◌+◌, ◌/◌, ◌==◌, ◌||◌}
use Rattle.wfc_model.specs.Raster.{Raster, raster_of}
use Rattle.wfc_overlap.specs.Sample.{output_with, problem_of_sample}
use Rattle.wfc_pattern.specs.Learning.{learned_patterns}
use Rattle.wfc_pattern.specs.Patterns.{PatternsView}
use Rattle.wfc_picture.specs.Palette.{palette_numbers}
use Rattle.wfc_picture.specs.declared.symbol.Symbol.{Symbol}
use Rattle.wfc_picture.specs.declared.symbol.Symbol.TheVariants.{Char}
use Rattle.wfc_problem.specs.Network.{Network}

-- how far the lines of demonstration n stand apart that go down
abbrev pub columns_apart : ℕ → ℕ
columns_apart n = 3 + n % 5

-- how far the lines of demonstration n stand apart that go across
abbrev pub rows_apart : ℕ → ℕ
rows_apart n = 3 + n / 5 % 5

-- what the pixel in column x of row y shows: `#` on a line, and `.` elsewhere
abbrev pub demo_symbol : ℕ → ℕ → ℕ → Symbol
demo_symbol n x y = if x % columns_apart n == 0 || y % rows_apart n == 0 then Char 35 else Char 46

-- the pixels of a square with this side, row by row
abbrev pub demo_symbols : ℕ → ℕ → List Symbol
demo_symbols n side = map (λ k. demo_symbol n (k % side) (k / side)) (range_with_len 0 (side * side))

-- the same square in numbers
abbrev pub demo_picture : ℕ → ℕ → Raster
demo_picture n side = raster_of side side (palette_numbers (demo_symbols n side))

-- how long the sides are of the picture that a demonstration learns from
abbrev pub demo_side : ℕ
demo_side = 24

-- how long the sides are of the map that a demonstration makes
abbrev pub demo_output : ℕ
demo_output = 48

-- what demonstration n learns: windows of three by three, as they stand
unfoldable pub demo_patterns : ℕ → PatternsView
demo_patterns n = learned_patterns (demo_picture n demo_side) 3 1 false

-- the problem that it runs on
unfoldable pub demo_problem : ℕ → Network
demo_problem n = problem_of_sample (demo_patterns n) (output_with demo_output demo_output false) []

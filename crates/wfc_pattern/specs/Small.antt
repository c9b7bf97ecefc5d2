-- Small samples and what they teach, and what may be taught from, on which laws try the definitions.
use Rattle.std.specs.Prelude.{ℕ, ◌*◌, ◌<◌, ◌≤◌, [], ◌∷◌, map, replicate}
use Rattle.std.specs.List.{range_with_len}
use Rattle.wfc_model.specs.Raster.{Raster, IsRaster, height_of, raster_of}
use Rattle.wfc_pattern.specs.Patterns.{PatternsView}

-- four by two numbers, of which those of the last column are others
abbrev pub last_column : Raster
last_column = raster_of 4 2 (1 ∷ 1 ∷ 1 ∷ 2 ∷ 1 ∷ 1 ∷ 1 ∷ 2 ∷ [])

-- the three patterns of two by two that they teach with their reflections
abbrev pub column_patterns : PatternsView
column_patterns = record {
  n = 2;
  windows = (1 ∷ 1 ∷ 1 ∷ 1 ∷ []) ∷ (1 ∷ 2 ∷ 1 ∷ 2 ∷ []) ∷ (2 ∷ 1 ∷ 2 ∷ 1 ∷ []) ∷ [];
  weights = 4 ∷ 1 ∷ 1 ∷ [];
}

-- the two patterns of two by two that a row of two numbers teaches, where it wraps
abbrev pub wrapped_pair : PatternsView
wrapped_pair = record {
  n = 2;
  windows = (1 ∷ 2 ∷ 1 ∷ 2 ∷ []) ∷ (2 ∷ 1 ∷ 2 ∷ 1 ∷ []) ∷ [];
  weights = 1 ∷ 1 ∷ [];
}

-- so many patterns of one number, all different, which arise three times each
abbrev pub patterns_of_one : ℕ → PatternsView
patterns_of_one count = record {
  n = 1;
  windows = map (λ k. k ∷ []) (range_with_len 0 count);
  weights = replicate count 3;
}

-- a sample of at most so many numbers, a side of a window and a count of images from which patterns are learned
abbrev pub IsTeachable : Raster → ℕ → ℕ → Type 0
IsTeachable sample n s =
    IsRaster sample × (0 < n) × (n ≤ 6) × (0 < s) × (s ≤ 8) × (sample.width * height_of sample ≤ 1048576)

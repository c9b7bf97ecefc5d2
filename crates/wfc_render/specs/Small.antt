-- Small palettes, patterns and maps of palette numbers, for laws.
use Rattle.std.specs.Prelude.{List, [], ◌∷◌}
use Rattle.wfc_model.specs.Raster.{Raster}
use Rattle.wfc_pattern.specs.Patterns.{PatternsView}
use Rattle.wfc_picture.specs.Small.{rgb}
use Rattle.wfc_picture.specs.declared.symbol.Symbol.{Symbol}
use Rattle.wfc_picture.specs.declared.symbol.Symbol.TheVariants.{Char}

-- the palette of `b`, `a` and a blank
abbrev pub letters_and_blank : List Symbol
letters_and_blank = Char 98 ∷ Char 97 ∷ Char 32 ∷ []

-- the palette of a blank and a colour
abbrev pub blank_and_colour : List Symbol
blank_and_colour = Char 32 ∷ rgb 1 20 3 ∷ []

-- the palette of a dark colour and a lighter one
abbrev pub two_colours : List Symbol
two_colours = rgb 1 2 3 ∷ rgb 70 80 90 ∷ []

-- a map of three by two, of the numbers 0, 1 and 2 in the upper row and 1, 1 and 0 in the lower
abbrev pub map_of_six : Raster
map_of_six = record { width = 3; rows = (0 ∷ 1 ∷ 2 ∷ []) ∷ (1 ∷ 1 ∷ 0 ∷ []) ∷ [] }

-- a map of one pixel, of the number 0
abbrev pub map_of_one : Raster
map_of_one = record { width = 1; rows = (0 ∷ []) ∷ [] }

-- a map of two pixels side by side, of the numbers 1 and 0
abbrev pub map_across : Raster
map_across = record { width = 2; rows = (1 ∷ 0 ∷ []) ∷ [] }

-- a map of two pixels one above the other, of the numbers 1 and 0
abbrev pub map_down : Raster
map_down = record { width = 1; rows = (1 ∷ []) ∷ (0 ∷ []) ∷ [] }

-- two patterns of side 2, whose weights are 12 and 3
abbrev pub pair_of_patterns : PatternsView
pair_of_patterns = record { n = 2; windows = (0 ∷ 1 ∷ 1 ∷ 1 ∷ []) ∷ (1 ∷ 0 ∷ 0 ∷ 1 ∷ []) ∷ []; weights = 12 ∷ 3 ∷ [] }

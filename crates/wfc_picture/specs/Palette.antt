-- Palettes: the symbols of a picture, numbered in the order of their first appearance.
use Rattle.std.specs.Prelude.{ℕ, ◌+◌, ◌/◌, nat_lt, List, length, map, take, Option, None, Some, position, Result, Ok, Err}
use Rattle.std.specs.List.{position_or_len, range_with_len}
use Rattle.wfc_lists.specs.WithoutRepeats.{without_repeats}
use Rattle.wfc_model.specs.Raster.{Raster, raster_of}
use Rattle.wfc_picture.specs.declared.palette.PaletteFault.{PaletteFault}
use Rattle.wfc_picture.specs.declared.palette.PaletteFault.TheVariants.{TooManyColours}
use Rattle.wfc_picture.specs.declared.palette.TheConstants.{MAX_COLOURS}
use Rattle.wfc_picture.specs.declared.symbol.Symbol.{Symbol}
use Rattle.wfc_picture.specs.Symbol.{same_symbol}

-- the palette of these symbols: each of them once, in the order of their first appearance
abbrev pub palette_of : List Symbol → List Symbol
palette_of symbols = without_repeats same_symbol symbols

-- a symbol's number in a palette: its position, if it is there
abbrev pub symbol_number : List Symbol → Symbol → Option ℕ
symbol_number palette symbol = position (same_symbol symbol) palette

-- for each of these symbols its number in the palette of them all
abbrev pub palette_numbers : List Symbol → List ℕ
palette_numbers symbols = map (λ symbol. position_or_len (same_symbol symbol) (palette_of symbols)) symbols

-- where the first symbol past the limit appears, if there are so many
abbrev pub first_past : ℕ → List Symbol → Option ℕ
first_past limit symbols =
    position (λ at. nat_lt limit (length (palette_of (take (at + 1) symbols))))
    (range_with_len 0 (length symbols))

-- the picture and the palette of these symbols, unless there is a symbol too many
abbrev pub unless_past : Option ℕ → List Symbol → ℕ → Result (Raster × List Symbol) PaletteFault
unless_past (Some at) symbols width = Err (TooManyColours at)
unless_past None symbols width = Ok (raster_of width (length symbols / width) (palette_numbers symbols), palette_of symbols)

-- the picture of these symbols by their numbers, and its palette, or the fault of a symbol too many
abbrev pub picture_and_palette : List Symbol → ℕ → Result (Raster × List Symbol) PaletteFault
picture_and_palette symbols width = unless_past (first_past MAX_COLOURS symbols) symbols width

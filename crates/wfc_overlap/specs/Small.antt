-- A small sample without symmetry and what comes with it, on which laws try the definitions.
use Rattle.std.specs.Prelude.{ℕ, Bool, true, false, List, [], ◌∷◌, codes}
use Rattle.wfc_model.specs.Legal.{Rules}
use Rattle.wfc_model.specs.Raster.{Raster, raster_of}
use Rattle.wfc_pattern.specs.Patterns.{PatternsView}
use Rattle.wfc_picture.specs.Small.{rgb}
use Rattle.wfc_picture.specs.declared.symbol.Symbol.{Symbol}
use Rattle.wfc_picture.specs.declared.symbol.Symbol.TheVariants.{Char}
use Rattle.wfc_pins.specs.PinView.{PinView}
use Rattle.wfc_overlap.specs.Sample.{Output, output_with}

-- an output of three by two that doesn't wrap
abbrev pub three_by_two : Output
three_by_two = output_with 3 2 false

-- a sample as large
abbrev pub six_numbers : Raster
six_numbers = raster_of 3 2 (1 ∷ 2 ∷ 5 ∷ 3 ∷ 4 ∷ 6 ∷ [])

-- the two patterns that it teaches, of which the second may stand to the right of the first alone
abbrev pub two_patterns : PatternsView
two_patterns = record {
  n = 2;
  windows = (1 ∷ 2 ∷ 3 ∷ 4 ∷ []) ∷ (2 ∷ 5 ∷ 4 ∷ 6 ∷ []) ∷ [];
  weights = 3 ∷ 1 ∷ [];
}

-- the first of them alone
abbrev pub one_pattern : PatternsView
one_pattern = record { n = 2; windows = (1 ∷ 2 ∷ 3 ∷ 4 ∷ []) ∷ []; weights = 1 ∷ [] }

-- no pattern of n by n
abbrev pub no_pattern : ℕ → PatternsView
no_pattern n = record { n = n; windows = []; weights = [] }

-- three symbols: `a`, a blank and a colour
abbrev pub three_symbols : List Symbol
three_symbols = Char 97 ∷ Char 32 ∷ rgb 1 0 30 ∷ []

-- a line that keeps a symbol at a column and a row, or bans it from there
abbrev pub window_pin_line : ℕ → Bool → ℕ → ℕ → List ℕ → PinView
window_pin_line number keep x y symbol =
    record { line = number; keep = keep; x = x; y = y; symbol = symbol }

-- the rules for this side and these images, and whether the sample and the output wrap
abbrev pub rules_with : ℕ → ℕ → Bool → Bool → Rules
rules_with n symmetry sample output =
    record { n = n; symmetry = symmetry; wrap_in = sample; wrap_out = output }

-- what lies beside each of three by four places that wrap: to the left, below, to the right and above
abbrev pub twelve_neighbours : List ℕ
twelve_neighbours =
    2 ∷ 3 ∷ 1 ∷ 9 ∷ 0 ∷ 4 ∷ 2 ∷ 10 ∷ 1 ∷ 5 ∷ 0 ∷ 11 ∷ 5 ∷ 6 ∷ 4 ∷ 0 ∷ 3 ∷ 7 ∷ 5 ∷ 1
    ∷ 4 ∷ 8 ∷ 3 ∷ 2 ∷ 8 ∷ 9 ∷ 7 ∷ 3 ∷ 6 ∷ 10 ∷ 8 ∷ 4 ∷ 7 ∷ 11 ∷ 6 ∷ 5 ∷ 11 ∷ 0 ∷ 10 ∷ 6
    ∷ 9 ∷ 1 ∷ 11 ∷ 7 ∷ 10 ∷ 2 ∷ 9 ∷ 8 ∷ []

-- at which of them the one pattern holds a `2` at the first pixel
abbrev pub twelve_flags : List Bool
twelve_flags =
    false ∷ true ∷ true ∷ true ∷ true ∷ true ∷ true ∷ true ∷ true ∷ false ∷ true ∷ false ∷ []

-- two lines for an output of three by two: one that keeps a letter and one that bans another
abbrev pub kept_and_banned : List PinView
kept_and_banned = window_pin_line 1 true 2 0 (codes "b") ∷ window_pin_line 3 false 1 1 (codes "a") ∷ []

-- three lines for it, of which the second has another letter than `a`, and the third a place outside
abbrev pub unknown_first : List PinView
unknown_first =
    window_pin_line 1 true 2 0 (codes "a") ∷ window_pin_line 3 true 1 1 (codes "b")
    ∷ window_pin_line 4 true 3 0 (codes "a") ∷ []

-- a line that keeps a blank
abbrev pub kept_blank : PinView
kept_blank = window_pin_line 1 true 1 0 (codes "\\s")

-- that line, and one that bans a letter
abbrev pub blank_and_letter : List PinView
blank_and_letter = kept_blank ∷ window_pin_line 2 false 2 1 (codes "a") ∷ []

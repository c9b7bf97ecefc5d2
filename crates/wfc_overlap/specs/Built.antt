-- What is built of learned patterns, an output and the lines of a pins file: a problem, or the
-- first fault.
use Rattle.std.specs.Prelude.{ℕ, ◌<◌, ◌≤◌, ◌&&◌, ◌||◌, nat_lt, List, map, position, Result, Err, if◌then◌else◌}
use Rattle.std.specs.Option.{ok_or, option_map}
use Rattle.std.specs.Str.{bytes_eq}
use Rattle.wfc_outside.specs.Gives.{result_map}
use Rattle.wfc_model.specs.Legal.{Pin}
use Rattle.wfc_pattern.specs.Patterns.{PatternsView}
use Rattle.wfc_picture.specs.Symbol.{symbol_text}
use Rattle.wfc_picture.specs.declared.symbol.Symbol.{Symbol}
use Rattle.wfc_pins.specs.InOrder.{all_in_order}
use Rattle.wfc_pins.specs.PinView.{PinView}
use Rattle.wfc_pins.specs.declared.fault.BuildFault.{BuildFault}
use Rattle.wfc_pins.specs.declared.fault.BuildFault.TheVariants.{SizeBelowN, PinOutside, UnknownSymbol, TooLarge}
pub use Rattle.wfc_places.specs.Marks.{marked_pin}
use Rattle.wfc_problem.specs.Network.{Network}
use Rattle.wfc_problem.specs.declared.TheConstants.{MAX_PAIRS}
use Rattle.wfc_overlap.specs.Bridge.{window_pair_count}
use Rattle.wfc_overlap.specs.Sample.{Output, problem_of_sample}

-- the texts of a palette's symbols, in their order
abbrev pub texts_of : List Symbol → List (List ℕ)
texts_of palette = map symbol_text palette

-- the pin that a line means: its place has to be inside, and its symbol one of these texts, whose
-- position is its number
abbrev pub picture_pin : List (List ℕ) → ℕ → ℕ → PinView → Result Pin BuildFault
picture_pin texts width height line =
    if nat_lt line.x width && nat_lt line.y height
    then ok_or (option_map (marked_pin line) (position (λ text. bytes_eq text line.symbol) texts))
    (UnknownSymbol line.line)
    else Err (PinOutside line.line)

-- the pins that the lines mean, or the fault of the first line that has one
abbrev pub picture_pins : List (List ℕ) → ℕ → ℕ → List PinView → Result (List Pin) BuildFault
picture_pins texts width height lines = all_in_order (map (picture_pin texts width height) lines)

-- the pins that the lines mean, but for a side below that of a window, and for too many pairs
abbrev pub checked_picture_pins : PatternsView → List Symbol → Output → List PinView → Result (List Pin) BuildFault
checked_picture_pins patterns palette output lines =
    if nat_lt output.width patterns.n || nat_lt output.height patterns.n then Err SizeBelowN
    else (if nat_lt MAX_PAIRS (window_pair_count patterns output) then Err (TooLarge (window_pair_count patterns output))
    else picture_pins (texts_of palette) output.width output.height lines)

-- the problem of those pins, or the fault in their place
abbrev pub picture_problem : PatternsView → List Symbol → Output → List PinView → Result Network BuildFault
picture_problem patterns palette output lines =
    result_map (problem_of_sample patterns output) (checked_picture_pins patterns palette output lines)

-- an output has room for a window, but too many pairs of a place and a pattern
abbrev pub IsCrowded : PatternsView → Output → Type 0
IsCrowded patterns output =
    (patterns.n ≤ output.width) × (patterns.n ≤ output.height) × (MAX_PAIRS < window_pair_count patterns output)

-- the problem of the pins that the lines mean, or the fault of the first line that has one
abbrev pub problem_by_lines : PatternsView → List Symbol → Output → List PinView → Result Network BuildFault
problem_by_lines patterns palette output lines =
    result_map (problem_of_sample patterns output)
    (picture_pins (texts_of palette) output.width output.height lines)

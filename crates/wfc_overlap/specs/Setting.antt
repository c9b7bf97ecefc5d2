-- A sample with its rules, what it teaches, an output and pins, which the laws speak of together.
use Rattle.std.specs.Prelude.{◌≡◌, ℕ, ◌<◌, All, IsTrue, List, Result, Some}
use Rattle.std.specs.List.{AllPass}
use Rattle.std.specs.Option.{ok_or, option_map}
use Rattle.wfc_model.specs.Legal.{Pin, Rules}
use Rattle.wfc_model.specs.Raster.{Raster}
use Rattle.wfc_pattern.specs.Patterns.{PatternsView, IsPatterns, window_at}
use Rattle.wfc_picture.specs.Palette.{symbol_number}
use Rattle.wfc_picture.specs.Symbol.{Spells, is_shown}
use Rattle.wfc_picture.specs.declared.symbol.Symbol.{Symbol}
use Rattle.wfc_pins.specs.PinView.{PinView}
use Rattle.wfc_pins.specs.declared.fault.BuildFault.{BuildFault}
use Rattle.wfc_pins.specs.declared.fault.BuildFault.TheVariants.{UnknownSymbol}
use Rattle.wfc_places.specs.Marks.{marked_pin}
use Rattle.wfc_problem.specs.Network.{Network, in_base, neighbour}
use Rattle.wfc_overlap.specs.Bridge.{AreInside, IsLegalOutput, IsRoom, IsSampleAssignment, IsTaughtBy, numbers_of_windows, picture_of}
use Rattle.wfc_overlap.specs.Built.{picture_pin, texts_of}
use Rattle.wfc_overlap.specs.Sample.{Output, problem_of_sample}
use Rattle.wfc_overlap.specs.Subject.{HoldsPin, IsPlaceOf, IsPlaceStep, place_cell}

-- a sample and its rules, patterns, an output and pins
pub record Setting : Type 0 where
  pub sample : Raster
  pub rules : Rules
  pub patterns : PatternsView
  pub output : Output
  pub pins : List Pin

-- the patterns are patterns, and those that the sample teaches
abbrev pub IsTaughtHere : Setting → Type 0
IsTaughtHere s = IsPatterns s.patterns × IsTaughtBy s.sample s.rules s.patterns s.output

-- the output has room for a window, and few enough pairs of a place and a pattern
abbrev pub IsRoomHere : Setting → Type 0
IsRoomHere s = IsRoom s.patterns s.output

-- each pin's place is inside the output
abbrev pub AreInsideHere : Setting → Type 0
AreInsideHere s = AreInside s.output s.pins

-- the problem of the patterns, the output and the pins
abbrev pub problem_here : Setting → Network
problem_here s = problem_of_sample s.patterns s.output s.pins

-- a picture is legal as the output
abbrev pub IsLegalHere : Setting → Raster → Type 0
IsLegalHere s m = IsLegalOutput s.sample s.rules s.pins s.output m

-- an assignment is legal for the problem
abbrev pub IsAssignedHere : Setting → List ℕ → Type 0
IsAssignedHere s a = IsSampleAssignment s.patterns s.output s.pins a

-- the numbers of a picture's windows, place by place
abbrev pub numbers_here : Setting → Raster → List ℕ
numbers_here s m = numbers_of_windows s.patterns s.output m

-- the picture that an assignment paints
abbrev pub picture_here : Setting → List ℕ → Raster
picture_here s a = picture_of s.patterns s.output a

-- the output has a place in this column and row
abbrev pub IsPlaceHere : Setting → ℕ → ℕ → Type 0
IsPlaceHere s x y = IsPlaceOf s.patterns s.output x y

-- the cell of a place
abbrev pub cell_here : Setting → ℕ → ℕ → ℕ
cell_here s x y = place_cell s.patterns s.output x y

-- in the problem the cell of (u, v) lies beside that of (x, y) in a direction
abbrev pub IsBesideHere : Setting → ℕ → ℕ → ℕ → ℕ → ℕ → Type 0
IsBesideHere s d x y u v = neighbour (problem_here s) (cell_here s x y) d ≡ Some (cell_here s u v)

-- one step in a direction leads from (x, y) to (u, v)
abbrev pub IsStepHere : Setting → ℕ → ℕ → ℕ → ℕ → ℕ → Type 0
IsStepHere s d x y u v = IsPlaceStep s.patterns s.output d x y u v

-- a pattern is in the base of a place's cell
abbrev pub IsInBaseHere : Setting → ℕ → ℕ → ℕ → Type 0
IsInBaseHere s x y p = IsTrue (in_base (problem_here s) (cell_here s x y) p)

-- a pattern at a place holds each pin and ban
abbrev pub HoldsPinsHere : Setting → ℕ → ℕ → ℕ → Type 0
HoldsPinsHere s x y p = All (HoldsPin s.patterns.n s.output x y (window_at s.patterns p)) s.pins

-- where a line's place is inside, and the palette's symbols are shown, the line is read as this
abbrev pub IsReadAs : List Symbol → ℕ → ℕ → PinView → Result Pin BuildFault → Type 0
IsReadAs palette width height line answer =
    line.x < width → line.y < height → AllPass is_shown palette
    → picture_pin (texts_of palette) width height line ≡ answer

-- the pin of a line and a symbol by its number, or that the palette lacks the symbol
abbrev pub symbol_pin : List Symbol → PinView → Symbol → Result Pin BuildFault
symbol_pin palette line symbol =
    ok_or (option_map (marked_pin line) (symbol_number palette symbol)) (UnknownSymbol line.line)

-- a word spells no symbol
abbrev pub SpellsNothing : List ℕ → Type 0
SpellsNothing word = (symbol : Symbol) → Spells word symbol → ⊥

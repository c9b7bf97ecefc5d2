-- What is built of a tile set, stacked pairs, a frame and the lines of a box's pins file: a problem, or the first fault.
use Rattle.std.specs.Prelude.{◌≡◌, ℕ, ◌*◌, ◌<◌, ◌≤◌, ◌&&◌, nat_lt, List, map, Result, Err, if◌then◌else◌}
use Rattle.std.specs.Option.{ok_or, option_map}
use Rattle.wfc_outside.specs.Gives.{result_map}
use Rattle.wfc_pins.specs.InOrder.{all_in_order}
use Rattle.wfc_pins.specs.declared.fault.BuildFault.{BuildFault}
use Rattle.wfc_pins.specs.declared.fault.BuildFault.TheVariants.{PinOutside, TooLarge, UnknownSymbol}
use Rattle.wfc_problem.specs.Network.{Network}
use Rattle.wfc_problem.specs.declared.TheConstants.{MAX_PAIRS}
use Rattle.wfc_tileset.specs.Tiles.{TileView, TileSetView, variant_of, variant_total}
use Rattle.wfc_box.specs.Boxes.{LayerPin, places_in}
use Rattle.wfc_box.specs.BoxPinView.{BoxPinView}
use Rattle.wfc_box.specs.BoxProblem.{problem_of_box}
use Rattle.wfc_box.specs.declared.frame.Frame.{Frame}

-- the pin that a line means, where its symbol spells the variant with this number
abbrev pub box_pin_with : BoxPinView → ℕ → LayerPin
box_pin_with line number = record {
  layer = line.z;
  pin = record { keep = line.keep; column = line.x; row = line.y; number = number };
}

-- the pin that a line means: its place has to be inside, and its symbol the spelling of a variant
abbrev pub box_pin_in : List TileView → Frame → BoxPinView → Result LayerPin BuildFault
box_pin_in tiles frame line =
    if nat_lt line.x frame.width && (nat_lt line.y frame.height && nat_lt line.z frame.depth)
    then ok_or (option_map (box_pin_with line) (variant_of tiles line.symbol)) (UnknownSymbol line.line)
    else Err (PinOutside line.line)

-- the pins that the lines mean, or the fault of the first line that has one
abbrev pub box_pins_in : List TileView → Frame → List BoxPinView → Result (List LayerPin) BuildFault
box_pins_in tiles frame lines = all_in_order (map (box_pin_in tiles frame) lines)

-- how many pairs of a place and a variant there are
abbrev pub box_pairs : TileSetView → Frame → ℕ
box_pairs set frame = places_in frame * variant_total set.tiles

-- the problem, but for too many pairs, and for a line at fault
abbrev pub box_built : TileSetView → List (ℕ × ℕ) → Frame → List BoxPinView → Result Network BuildFault
box_built set stacked frame lines =
    if nat_lt MAX_PAIRS (box_pairs set frame) then Err (TooLarge (box_pairs set frame))
    else result_map (problem_of_box set stacked frame) (box_pins_in set.tiles frame lines)

-- more pairs of a place and a variant than a problem may have are the fault, whatever the lines are
abbrev pub IsRefusedByPairs : TileSetView → List (ℕ × ℕ) → Frame → List BoxPinView → Type 0
IsRefusedByPairs set stacked frame lines =
    MAX_PAIRS < box_pairs set frame → box_built set stacked frame lines ≡ Err (TooLarge (box_pairs set frame))

-- and else the lines decide: the problem is that of the pins that they mean, or the fault that of the first line that has one
abbrev pub IsBuiltByLines : TileSetView → List (ℕ × ℕ) → Frame → List BoxPinView → Type 0
IsBuiltByLines set stacked frame lines =
    box_pairs set frame ≤ MAX_PAIRS
    → box_built set stacked frame lines ≡ result_map (problem_of_box set stacked frame) (box_pins_in set.tiles frame lines)

-- Small tile sets, frames and boxes without symmetry, on which laws try the definitions.
use Rattle.std.specs.Prelude.{ℕ, Bool, true, false, List, [], ◌∷◌, codes, Result}
use Rattle.toml.specs.Data.{Data, Members, array, member, no_members, string, table}
use Rattle.wfc_tileset.specs.Documents.{items_of}
use Rattle.wfc_box.specs.BoxPinView.{BoxPinView}
use Rattle.wfc_model.specs.Legal.{banned_pin, kept_pin}
use Rattle.wfc_model.specs.Raster.{Raster, raster_of}
use Rattle.wfc_pins.specs.declared.fault.BuildFault.{BuildFault}
use Rattle.wfc_tiled.specs.Small.{line_and_cross}
use Rattle.wfc_tileset.specs.Samples.{small_pair_end}
use Rattle.wfc_box.specs.Boxes.{LayerPin, frame_of}
use Rattle.wfc_box.specs.Built.{box_pins_in}
use Rattle.wfc_box.specs.declared.frame.Frame.{Frame}
use Rattle.wfc_box.specs.declared.stack.Stack.{Stack}

-- three columns, two rows and four layers, which don't wrap
abbrev pub flat : Frame
flat = frame_of 3 2 4 false

-- the same with layers that wrap
abbrev pub wrapped_frame : Frame
wrapped_frame = frame_of 3 2 4 true

-- a stack of the variant that action 1 makes of tile 0 below what action 6 makes of tile 1
abbrev pub one_stack : Stack
one_stack = record { lower = small_pair_end 0 1; upper = small_pair_end 1 6 }

-- a pin that keeps a number in a column and a row of a layer
abbrev pub kept_in : ℕ → ℕ → ℕ → ℕ → LayerPin
kept_in x y z number = record { layer = z; pin = kept_pin x y number }

-- and one that bans it from there
abbrev pub banned_in : ℕ → ℕ → ℕ → ℕ → LayerPin
banned_in x y z number = record { layer = z; pin = banned_pin x y number }

-- a box of two layers of three by two places, all different
abbrev pub twelve : List Raster
twelve = raster_of 3 2 (1 ∷ 2 ∷ 3 ∷ 4 ∷ 5 ∷ 6 ∷ []) ∷ raster_of 3 2 (7 ∷ 8 ∷ 9 ∷ 10 ∷ 11 ∷ 12 ∷ []) ∷ []

-- two tiles side by side in each of two layers
abbrev pub two_by_two : Frame
two_by_two = frame_of 2 1 2 false

-- a line of a box's pins file
abbrev pub box_line : ℕ → Bool → ℕ → ℕ → ℕ → List ℕ → BoxPinView
box_line number keep x y z symbol = record { line = number; keep = keep; x = x; y = y; z = z; symbol = symbol }

-- lines of a box's pins file: the first three lie outside, and there is no variant that the last names
abbrev pub bad_box_lines : List BoxPinView
bad_box_lines =
    box_line 1 true 3 0 0 (codes "y") ∷ box_line 2 true 0 2 0 (codes "x/0")
    ∷ box_line 3 false 0 0 4 (codes "y") ∷ box_line 5 true 2 1 3 (codes "x/1") ∷ []

-- a stack of a document
abbrev pub stack_data : List ℕ → List ℕ → Data
stack_data lower upper = table (member (codes "lower") (string lower) (member (codes "upper") (string upper) no_members))

-- a document of these stacks
abbrev pub with_stacks : List Data → Members
with_stacks stacks = member (codes "stack") (array (items_of stacks)) no_members

-- a layer of one place
abbrev pub single : ℕ → Raster
single number = raster_of 1 1 (number ∷ [])

-- two layers of one place
abbrev pub pillar : Frame
pillar = frame_of 1 1 2 false

-- a line that keeps a straight line after a quarter turn, and one that bans a crossing
abbrev pub two_box_lines : List BoxPinView
two_box_lines = box_line 4 true 2 0 3 (codes "line/1") ∷ box_line 7 false 0 1 2 (codes "x/0") ∷ []

-- what a line alone means in a box of straight lines and crossings
abbrev pub pins_of_one : BoxPinView → Result (List LayerPin) BuildFault
pins_of_one line = box_pins_in line_and_cross.tiles flat (line ∷ [])

-- a stack of a document that has no upper end
abbrev pub lower_alone : Data
lower_alone = table (member (codes "lower") (string (codes "x")) no_members)

-- a stack of a document whose lower end is an array of a text, and which has no upper end
abbrev pub lower_in_an_array : Data
lower_in_an_array = table (member (codes "lower") (array (items_of (string (codes "x") ∷ []))) no_members)

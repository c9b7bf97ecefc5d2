-- The steps of tasks on boxes that read no file, each with its first fault.
use Rattle.std.specs.Prelude.{List, Result, ℕ}
use Rattle.wfc_box.specs.BoxPinView.{BoxPinView}
use Rattle.wfc_box.specs.BoxPins.{box_pins_of}
use Rattle.wfc_box.specs.BoxText.{box_layout_of}
use Rattle.wfc_box.specs.Boxes.{frame_of}
use Rattle.wfc_box.specs.Built.{box_built}
use Rattle.wfc_box.specs.StackDocument.{stacks_of}
use Rattle.wfc_box.specs.Stacks.{stacked_pairs}
use Rattle.wfc_box.specs.declared.frame.Frame.{Frame}
use Rattle.wfc_outside.specs.Gives.{result_map}
use Rattle.wfc_plan.specs.Plan.{or_refuse}
use Rattle.wfc_plan.specs.declared.fault.Refusal.{Refusal}
use Rattle.wfc_plan.specs.declared.fault.Refusal.TheVariants.{Build, Pins, Render, Stacks}
use Rattle.wfc_problem.specs.Network.{Network}
use Rattle.wfc_render.specs.declared.form.Form.{Form}
use Rattle.wfc_tileset.specs.Pictures.{kind_of, side_of}
use Rattle.wfc_tileset.specs.Tiles.{TileSetView}
use Rattle.wfc_words.specs.RequestView.{RequestView}

-- the frame of the box that is asked for
abbrev pub frame_asked : RequestView → Frame
frame_asked asked = frame_of asked.width asked.height asked.depth asked.wrap_out

-- which variants of the tiles may stand on which, by the stacks of the document with these bytes
abbrev pub stacked_in : TileSetView → List ℕ → Result (List (ℕ × ℕ)) Refusal
stacked_in set text = or_refuse Stacks (result_map (stacked_pairs set.tiles) (stacks_of set.tiles text))

-- the form in which a box of a tile set is written
abbrev pub box_form : TileSetView → RequestView → Result Form Refusal
box_form set asked =
    or_refuse Render
    (box_layout_of (kind_of set.pictures) asked.form asked.width asked.height asked.depth (side_of set.pictures))

-- the pins and bans that the pins file of a box has
abbrev pub box_lines_in : List ℕ → Result (List BoxPinView) Refusal
box_lines_in text = or_refuse Pins (box_pins_of text)

-- the problem of a tile set, stacked pairs and the lines of a pins file
abbrev pub posed_box : RequestView → TileSetView → List (ℕ × ℕ) → List BoxPinView → Result Network Refusal
posed_box asked set stacked lines = or_refuse Build (box_built set stacked (frame_asked asked) lines)

-- The stages of a request for a box, each with the faults that it may have, over files that are told.
use Rattle.std.specs.Prelude.{List, None, Option, Some, ℕ}
use Rattle.wfc_box.specs.BoxPinView.{BoxPinView}
use Rattle.wfc_box.specs.BoxPins.{box_pins_of}
use Rattle.wfc_box.specs.BoxText.{box_layout_of}
use Rattle.wfc_box.specs.Built.{box_pairs, box_pins_in}
use Rattle.wfc_box.specs.StackDocument.{stacks_of}
use Rattle.wfc_box_commands.specs.BoxGiven.{HoldsBoxPins, IsStackedSetOf}
use Rattle.wfc_box_commands.specs.BoxPlans.{StackedSet}
use Rattle.wfc_box_commands.specs.BoxSteps.{frame_asked}
use Rattle.wfc_outside.specs.Folder.{File}
use Rattle.wfc_plan.specs.Files.{IsFile}
use Rattle.wfc_plan.specs.Stages.{IsRefusal, TaskStage}
use Rattle.wfc_plan.specs.declared.fault.Refusal.TheVariants as refusals
use Rattle.wfc_task.specs.Stages.{IsCountFault}
use Rattle.wfc_task.specs.TileGiven.{IsTileSetOf}
use Rattle.wfc_tileset.specs.Pictures.{kind_of, side_of}
use Rattle.wfc_tileset.specs.Tiles.{TileSetView}
use Rattle.wfc_words.specs.RequestView.{RequestView}

-- the stacks of the document are at fault, which spells a tile set with all its pictures
abbrev pub IsStacksFault : RequestView → List File → TaskStage
IsStacksFault asked files fault =
    (set : TileSetView) × (tiles : IsTileSetOf asked files set)
    × IsRefusal refusals.Stacks (stacks_of set.tiles tiles.bytes) fault

-- a box of the tile set has no layout
abbrev pub IsBoxLayoutFault : RequestView → List File → TaskStage
IsBoxLayoutFault asked files fault =
    (made : StackedSet) × IsStackedSetOf asked files made
    × IsRefusal refusals.Render
    (box_layout_of (kind_of made.0.pictures) asked.form asked.width asked.height asked.depth (side_of made.0.pictures))
    fault

-- a line of the pins file is none of pins of a box; there is no fault where no file is named
abbrev pub IsBoxPinsFault : List File → Option (List ℕ) → TaskStage
IsBoxPinsFault files None fault = ⊥
IsBoxPinsFault files (Some name) fault =
    (bytes : List ℕ) × IsFile files name bytes × IsRefusal refusals.Pins (box_pins_of bytes) fault

-- there are too many pairs of a place of the box and a variant
abbrev pub IsBoxPairsFault : RequestView → List File → TaskStage
IsBoxPairsFault asked files fault =
    (made : StackedSet) × IsStackedSetOf asked files made × IsCountFault (box_pairs made.0 (frame_asked asked)) fault

-- a line of pins means no variant of the tile set at a place of the box
abbrev pub IsBoxPinFault : RequestView → List File → TaskStage
IsBoxPinFault asked files fault =
    (made : StackedSet) × IsStackedSetOf asked files made
    × ((lines : List BoxPinView) × HoldsBoxPins files asked.pins lines
    × IsRefusal refusals.Build (box_pins_in made.0.tiles (frame_asked asked) lines) fault)

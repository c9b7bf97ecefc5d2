-- What is read and refused of a tile set with its stacks, and of the pins file of a box, in order.
use Rattle.std.specs.Prelude.{List, None, Option, Some, [], length, ℕ}
use Rattle.wfc_box.specs.BoxPinView.{BoxPinView}
use Rattle.wfc_box_commands.specs.BoxSteps.{box_lines_in, posed_box, stacked_in}
use Rattle.wfc_plan.specs.Files.{file_plan}
use Rattle.wfc_plan.specs.Plan.{Plan, and_then, done, step}
use Rattle.wfc_plan.specs.declared.fault.Source.TheVariants.{Pins, Sample}
use Rattle.wfc_problem.specs.Network.{Network}
use Rattle.wfc_task.specs.TilePlans.{pictures_plan}
use Rattle.wfc_task.specs.TileSteps.{document_in}
use Rattle.wfc_tileset.specs.Tiles.{TileSetView}
use Rattle.wfc_words.specs.RequestView.{RequestView}

-- a tile set, and which of its variants may stand on which
abbrev pub StackedSet : Type 0
StackedSet = TileSetView × List (ℕ × ℕ)

-- the document is read, then the pictures of its tiles, and then its stacks are looked at
abbrev pub stacked_plan : RequestView → Plan StackedSet
stacked_plan asked =
    and_then (file_plan Sample asked.file) (λ bytes.
    and_then (step (document_in bytes)) (λ (document : TileSetView).
    and_then (pictures_plan (length document.tiles) document) (λ set.
    and_then (step (stacked_in set bytes)) (λ stacked.
    done (set, stacked)))))

-- the pins file of this name is read
abbrev pub box_pins_file_plan : List ℕ → Plan (List BoxPinView)
box_pins_file_plan name = and_then (file_plan Pins name) (λ bytes. step (box_lines_in bytes))

-- the pins file is read, if one is named; else there are no pins and bans
abbrev pub box_pins_plan : Option (List ℕ) → Plan (List BoxPinView)
box_pins_plan None = done []
box_pins_plan (Some name) = box_pins_file_plan name

-- the pins file is read, and then the problem is made
abbrev pub box_problem_plan : RequestView → StackedSet → Plan Network
box_problem_plan asked made =
    and_then (box_pins_plan asked.pins) (λ lines.
    step (posed_box asked made.0 made.1 lines))

-- the tile set and its stacks are read, and then the problem is made
abbrev pub box_plan : RequestView → Plan Network
box_plan asked = and_then (stacked_plan asked) (λ made. box_problem_plan asked made)

-- What follows each part of a box's plan.
use Rattle.std.proofs.Common.{List, length, ℕ}
use Rattle.wfc_box.specs.BoxPinView.{BoxPinView}
use Rattle.wfc_box_commands.specs.BoxFillTask.{BoxFillTask, box_fill}
use Rattle.wfc_box_commands.specs.BoxPlans.{StackedSet, box_problem_plan}
use Rattle.wfc_box_commands.specs.BoxSteps.{box_lines_in, box_form, posed_box, stacked_in}
use Rattle.wfc_plan.specs.Plan.{Plan, and_then, done, step}
use Rattle.wfc_problem.specs.Network.{Network}
use Rattle.wfc_render.specs.declared.form.Form.{Form}
use Rattle.wfc_task.specs.TilePlans.{pictures_plan}
use Rattle.wfc_task.specs.TileSteps.{document_in}
use Rattle.wfc_tileset.specs.Tiles.{TileSetView}
use Rattle.wfc_words.specs.RequestView.{RequestView}

-- what follows the stacks of a document, its pictures, the document itself, and its bytes
abbrev pub behind_stacked : TileSetView → List (ℕ × ℕ) → Plan StackedSet
behind_stacked set stacked = done (set, stacked)

abbrev pub behind_pictures : List ℕ → TileSetView → Plan StackedSet
behind_pictures bytes set = and_then (step (stacked_in set bytes)) (behind_stacked set)

abbrev pub behind_document : List ℕ → TileSetView → Plan StackedSet
behind_document bytes document = and_then (pictures_plan (length document.tiles) document) (behind_pictures bytes)

abbrev pub behind_bytes : List ℕ → Plan StackedSet
behind_bytes bytes = and_then (step (document_in bytes)) (behind_document bytes)

-- what follows the bytes of a pins file, and its lines
abbrev pub behind_box_file : List ℕ → Plan (List BoxPinView)
behind_box_file bytes = step (box_lines_in bytes)

abbrev pub behind_box_lines : RequestView → StackedSet → List BoxPinView → Plan Network
behind_box_lines asked made lines = step (posed_box asked made.0 made.1 lines)

-- what follows a problem in `box-fill`, the layout, and the tile set with its stacks
abbrev pub behind_box_problem : StackedSet → Form → Network → Plan BoxFillTask
behind_box_problem made form P = done (box_fill made.0 form P)

abbrev pub behind_box_layout : RequestView → StackedSet → Form → Plan BoxFillTask
behind_box_layout asked made form = and_then (box_problem_plan asked made) (behind_box_problem made form)

abbrev pub behind_stacked_set : RequestView → StackedSet → Plan BoxFillTask
behind_stacked_set asked made = and_then (step (box_form made.0 asked)) (behind_box_layout asked made)

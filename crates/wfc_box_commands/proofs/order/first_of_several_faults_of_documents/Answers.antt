use Rattle.std.proofs.Common.{Err, List, ap, length, ℕ, ◌∙◌, ◌≡◌}
use Rattle.wfc_box.specs.StackDocument.{stacks_of}
use Rattle.wfc_box.specs.Stacks.{stacked_pairs}
use Rattle.wfc_box.specs.declared.fault.StackFault.{StackFault}
use Rattle.wfc_box_commands.proofs.BoxPlanLemmas.{behind_bytes, behind_document, behind_pictures, behind_stacked, behind_stacked_set}
use Rattle.wfc_box_commands.proofs.order.first_of_several_faults_of_documents.Goals as goal
use Rattle.wfc_box_commands.specs.BoxFillTask.{box_filling_plan}
use Rattle.wfc_box_commands.specs.BoxPlans.{box_problem_plan, stacked_plan}
use Rattle.wfc_box_commands.specs.BoxSteps.{stacked_in}
use Rattle.wfc_outside.specs.Folder.{File}
use Rattle.wfc_outside.specs.Gives.{result_map}
use Rattle.wfc_plan.proofs.CallerLemmas.{given_choosers, given_file, ok_refused, ok_step, outcome_on, outcome_out}
use Rattle.wfc_plan.specs.Files.{IsFile, file_plan}
use Rattle.wfc_plan.specs.Kinds.{enough}
use Rattle.wfc_plan.specs.Plan.{or_refuse, outcome, step}
use Rattle.wfc_plan.specs.declared.fault.Fault.TheVariants.{Refused}
use Rattle.wfc_plan.specs.declared.fault.Refusal.TheVariants as refusals
use Rattle.wfc_plan.specs.declared.fault.Source.TheVariants.{Sample}
use Rattle.wfc_task.proofs.CallerLemmas.{given_pictures}
use Rattle.wfc_task.specs.TileGiven.{IsTileSetOf}
use Rattle.wfc_task.specs.TilePlans.{pictures_plan}
use Rattle.wfc_task.specs.TileSteps.{document_in}
use Rattle.wfc_tileset.specs.Document.{set_of}
use Rattle.wfc_tileset.specs.Tiles.{TileSetView}
use Rattle.wfc_tileset.specs.declared.fault.TileFault.{TileFault}
use Rattle.wfc_words.specs.RequestView.{RequestView}

-- a document that is no tile set
no_tiles : (asked : RequestView) (files : List File) (bytes : List ℕ) (why : TileFault) → IsFile files asked.file bytes → set_of bytes ≡ Err why → outcome (stacked_plan asked) files ≡ Err (Refused (refusals.Tiles why))
no_tiles asked files bytes why file is =
    outcome_on (file_plan Sample asked.file) behind_bytes files bytes (given_file Sample asked.file files bytes file)
    ∙ outcome_out (step (document_in bytes)) (behind_document bytes) files (Refused (refusals.Tiles why)) (ap (λ r. outcome (step (or_refuse refusals.Tiles r)) files) is)

-- a tile set whose stacks are at fault
no_stacks : (asked : RequestView) (files : List File) (set : TileSetView) (why : StackFault) (tiles : IsTileSetOf asked files set) → stacks_of set.tiles tiles.bytes ≡ Err why
    → outcome (stacked_plan asked) files ≡ Err (Refused (refusals.Stacks why))
no_stacks asked files set why tiles is =
    outcome_on (file_plan Sample asked.file) behind_bytes files tiles.bytes (given_file Sample asked.file files tiles.bytes tiles.file)
    ∙ outcome_on (step (document_in tiles.bytes)) (behind_document tiles.bytes) files tiles.document (ok_step (document_in tiles.bytes) files tiles.document (ok_refused refusals.Tiles (set_of tiles.bytes) tiles.document tiles.spelled))
    ∙ outcome_on (pictures_plan (length tiles.document.tiles) tiles.document) (behind_pictures tiles.bytes) files set (given_pictures files (length tiles.document.tiles) tiles.document set tiles.pictures)
    ∙ outcome_out (step (stacked_in set tiles.bytes)) (behind_stacked set) files (Refused (refusals.Stacks why)) (ap (λ r. outcome (step (or_refuse refusals.Stacks (result_map (stacked_pairs set.tiles) r))) files) is)

pub returns-clause-tiles_and_stacks : goal.returns-clause-tiles_and_stacks
returns-clause-tiles_and_stacks c = λ asked files why bad. outcome_out (stacked_plan asked) (box_problem_plan asked) files (Refused (refusals.Tiles why)) (no_tiles asked files bad.bytes why bad.file bad.is)

pub returns-clause-stacks_and_layout : goal.returns-clause-stacks_and_layout
returns-clause-stacks_and_layout c = λ asked files why bad kinds there.
    outcome_on (step (enough 1 kinds asked.rule)) (λ _. box_filling_plan asked) files tt (ok_step (enough 1 kinds asked.rule) files tt (given_choosers 1 kinds asked.rule there))
    ∙ outcome_out (stacked_plan asked) (behind_stacked_set asked) files (Refused (refusals.Stacks why)) (no_stacks asked files bad.set why bad.tiles bad.is)

pub returns-clause-stacks_and_pins : goal.returns-clause-stacks_and_pins
returns-clause-stacks_and_pins c = λ asked files why bad. outcome_out (stacked_plan asked) (box_problem_plan asked) files (Refused (refusals.Stacks why)) (no_stacks asked files bad.set why bad.tiles bad.is)

-- How the code of `explain` goes by its plan.
use Rattle.std.proofs.Common.{List, Ok, Result}
use Rattle.wfc_explain.specs.Problems.{SamplePins, TilesPins, pinned_sample, pinned_tiles}
use Rattle.wfc_outside.specs.Folder.{FolderView}
use Rattle.wfc_pins.specs.PinView.{PinView}
use Rattle.wfc_plan.proofs.CallerLemmas.{IsStepEnd, goes_done, goes_on, step_on}
use Rattle.wfc_plan.specs.Plan.{Goes}
use Rattle.wfc_plan.specs.declared.fault.Fault.{Fault}
use Rattle.wfc_run_commands.proofs.ExplainGivenLemmas.{behind_lesson, behind_lines, behind_mask_of, behind_sample_pins, behind_set, behind_tile_lines, behind_tiles_pins}
use Rattle.wfc_run_commands.specs.ExplainTask.{ExplainTask, explain, explain_sample_plan, explain_tiles_plan, line_numbers, lines_plan, pins_of_sample, pins_of_tiles}
use Rattle.wfc_task.specs.SamplePlans.{sample_plan}
use Rattle.wfc_task.specs.TilePlans.{mask_plan, tiles_plan}
use Rattle.wfc_task.specs.declared.lesson.Taught.{Taught}
use Rattle.wfc_tiled.specs.Mask.{MaskView}
use Rattle.wfc_tileset.specs.Tiles.{TileSetView}
use Rattle.wfc_words.specs.RequestView.{RequestView}

-- once a sample has taught and the lines are read, it goes on with the pins
pub lines_learned : (asked : RequestView) (before taught middle after : FolderView) (lesson : Taught) (lines : List PinView) (end : Result ExplainTask Fault) → Goes (sample_plan asked) before taught (Ok lesson)
    → Goes (lines_plan asked) taught middle (Ok lines) → Goes (behind_lines asked lesson lines) middle after end → Goes (explain_sample_plan asked) before after end
lines_learned asked before taught middle after lesson lines end first read rest =
    goes_on (sample_plan asked) (behind_lesson asked) before taught after lesson end first
    (goes_on (lines_plan asked) (behind_lines asked lesson) taught middle after lines end read rest)

-- and with these it comes to the task
pub sample_explained : (asked : RequestView) (before taught after : FolderView) (lesson : Taught) (lines : List PinView) (s : SamplePins) → Goes (sample_plan asked) before taught (Ok lesson)
    → Goes (lines_plan asked) taught after (Ok lines) → IsStepEnd (pins_of_sample asked lesson lines) (Ok s)
    → Goes (explain_sample_plan asked) before after (Ok (explain (pinned_sample s) (line_numbers lines)))
sample_explained asked before taught after lesson lines s first read gives =
    lines_learned asked before taught after after lesson lines (Ok (explain (pinned_sample s) (line_numbers lines))) first read
    (step_on (pins_of_sample asked lesson lines) (behind_sample_pins lines) after after s (Ok (explain (pinned_sample s) (line_numbers lines))) gives goes_done)

-- once a tile set is spelled and the lines are read, it goes on with the mask
pub lines_spelled : (asked : RequestView) (before spelled middle after : FolderView) (set : TileSetView) (lines : List PinView) (end : Result ExplainTask Fault) → Goes (tiles_plan asked) before spelled (Ok set)
    → Goes (lines_plan asked) spelled middle (Ok lines) → Goes (behind_tile_lines asked set lines) middle after end → Goes (explain_tiles_plan asked) before after end
lines_spelled asked before spelled middle after set lines end first read rest =
    goes_on (tiles_plan asked) (behind_set asked) before spelled after set end first
    (goes_on (lines_plan asked) (behind_tile_lines asked set) spelled middle after lines end read rest)

-- once the mask is read too, with the pins
pub mask_spelled : (asked : RequestView) (before spelled middle masked after : FolderView) (set : TileSetView) (lines : List PinView) (mask : MaskView) (end : Result ExplainTask Fault) → Goes (tiles_plan asked) before spelled (Ok set)
    → Goes (lines_plan asked) spelled middle (Ok lines) → Goes (mask_plan asked) middle masked (Ok mask) → Goes (behind_mask_of asked set lines mask) masked after end → Goes (explain_tiles_plan asked) before after end
mask_spelled asked before spelled middle masked after set lines mask end first read held rest =
    lines_spelled asked before spelled middle after set lines end first read
    (goes_on (mask_plan asked) (behind_mask_of asked set lines) middle masked after mask end held rest)

-- and with these it comes to the task
pub tiles_explained : (asked : RequestView) (before spelled middle after : FolderView) (set : TileSetView) (lines : List PinView) (mask : MaskView) (s : TilesPins) → Goes (tiles_plan asked) before spelled (Ok set)
    → Goes (lines_plan asked) spelled middle (Ok lines) → Goes (mask_plan asked) middle after (Ok mask) → IsStepEnd (pins_of_tiles asked set mask lines) (Ok s)
    → Goes (explain_tiles_plan asked) before after (Ok (explain (pinned_tiles s) (line_numbers lines)))
tiles_explained asked before spelled middle after set lines mask s first read held gives =
    mask_spelled asked before spelled middle after after set lines mask (Ok (explain (pinned_tiles s) (line_numbers lines))) first read held
    (step_on (pins_of_tiles asked set mask lines) (behind_tiles_pins lines) after after s (Ok (explain (pinned_tiles s) (line_numbers lines))) gives goes_done)

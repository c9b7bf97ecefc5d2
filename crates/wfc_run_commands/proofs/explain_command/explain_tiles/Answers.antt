use Rattle.std.proofs.Common.{refl}
use Rattle.std.proofs.lemmas.Result.{err_from_is_err_and}
use Rattle.wfc_plan.proofs.CallerLemmas.{goes_on, goes_out, step_out}
use Rattle.wfc_reply.proofs.CallerLemmas.{ends_by}
use Rattle.wfc_run_commands.proofs.ExplainGivenLemmas.{behind_mask_of, behind_set, behind_tile_lines, behind_tiles_pins}
use Rattle.wfc_run_commands.proofs.ExplainGoesLemmas.{lines_spelled, mask_spelled, tiles_explained}
use Rattle.wfc_run_commands.proofs.explain_command.explain_tiles.Goals as goal
use Rattle.wfc_run_commands.specs.ExplainTask.{explain_tiles_plan, lines_plan, pins_of_tiles}
use Rattle.wfc_task.specs.TilePlans.{mask_plan, tiles_plan}
use Rattle.wfc_task.specs.Tiling.{mask_or_whole}

pub returns-in_err-tiles : goal.returns-in_err-tiles
returns-in_err-tiles g c =
    let p = err_from_is_err_and c.from_residual.result c.from_residual.ensures.1 in
    let goes = goes_out (tiles_plan c.args.request.now) (behind_set c.args.request.now) _ _ _ c.in_err-tiles.ensures.goes in
    record { ends = rw (p.1, p.2) (ends_by (explain_tiles_plan c.args.request.now) _ _ _ _ _ goes refl) }

pub returns-in_err-lines : goal.returns-in_err-lines
returns-in_err-lines g c =
    let p = err_from_is_err_and c.from_residual-in_err-lines.result c.from_residual-in_err-lines.ensures.1 in
    let asked = c.args.request.now in
    let goes = goes_on (tiles_plan asked) (behind_set asked) _ _ _ _ _ c.in_ok-tiles.ensures.goes
    (goes_out (lines_plan asked) (behind_tile_lines asked c.in_ok-tiles.tiles) _ _ _ c.in_err-lines.ensures.goes) in
    record { ends = rw (p.1, p.2) (ends_by (explain_tiles_plan asked) _ _ _ _ _ goes refl) }

pub returns-in_err-mask : goal.returns-in_err-mask
returns-in_err-mask g c =
    let p = err_from_is_err_and c.from_residual-in_err-mask.result c.from_residual-in_err-mask.ensures.1 in
    let asked = c.args.request.now in
    let goes = lines_spelled asked _ _ _ _ _ _ _ c.in_ok-tiles.ensures.goes c.in_ok-lines.ensures.goes
    (goes_out (mask_plan asked) (behind_mask_of asked c.in_ok-tiles.tiles c.in_ok-lines.lines.items) _ _ _ c.in_err-mask.ensures.goes) in
    record { ends = rw (p.1, p.2) (ends_by (explain_tiles_plan asked) _ _ _ _ _ goes refl) }

pub returns-in_err-pins : goal.returns-in_err-pins
returns-in_err-pins g c =
    let p = err_from_is_err_and c.from_residual-in_err-pins.result c.from_residual-in_err-pins.ensures.1 in
    let asked = c.args.request.now in
    let lines = c.in_ok-lines.lines.items in
    let goes = mask_spelled asked _ _ _ _ _ _ lines _ _ c.in_ok-tiles.ensures.goes c.in_ok-lines.ensures.goes c.in_ok-mask.ensures.goes
    (step_out (pins_of_tiles asked c.in_ok-tiles.tiles (mask_or_whole asked c.in_ok-mask.mask) lines) (behind_tiles_pins lines) _ _ (rw c.deref.ensures.value at c.in_err-pins.ensures.exact)) in
    record { ends = rw (p.1, p.2) (ends_by (explain_tiles_plan asked) _ _ _ _ _ goes refl) }

pub returns-in_err-answer : goal.returns-in_err-answer
returns-in_err-answer g c =
    let p = err_from_is_err_and c.from_residual-in_err-answer.result c.from_residual-in_err-answer.ensures.1 in
    let goes = tiles_explained c.args.request.now _ _ _ _ _ _ _ _ c.in_ok-tiles.ensures.goes c.in_ok-lines.ensures.goes c.in_ok-mask.ensures.goes (rw c.deref.ensures.value at c.in_ok-pins.ensures.exact) in
    record { ends = rw (p.1, p.2) (ends_by (explain_tiles_plan c.args.request.now) _ _ _ _ _ goes refl) }

pub returns : goal.returns
returns g c =
    let goes = tiles_explained c.args.request.now _ _ _ _ _ _ _ _ c.in_ok-tiles.ensures.goes c.in_ok-lines.ensures.goes c.in_ok-mask.ensures.goes (rw c.deref.ensures.value at c.in_ok-pins.ensures.exact) in
    record { ends = ends_by (explain_tiles_plan c.args.request.now) _ _ _ _ _ goes (rw c.deref-2.ensures.value at c.in_ok-answer.ensures.answers) }

use Rattle.std.proofs.lemmas.Result.{err_from_is_err_and}
use Rattle.wfc_plan.proofs.CallerLemmas.{goes_done, goes_on, goes_out, step_on, step_out}
use Rattle.wfc_plan.specs.Plan.{Plan, done}
use Rattle.wfc_problem.specs.Network.{Network}
use Rattle.wfc_task.proofs.TileTaskLemmas.{behind_masked, behind_pins}
use Rattle.wfc_task.proofs.tile_files.tiled_problem.Goals as goal
use Rattle.wfc_task.specs.SamplePlans.{pins_plan}
use Rattle.wfc_task.specs.TilePlans.{mask_plan}
use Rattle.wfc_task.specs.TileSteps.{posed_tiles}
use Rattle.wfc_task.specs.Tiling.{mask_or_whole}
use Rattle.wfc_tiled.specs.Mask.{MaskView}

pub returns-in_err-mask-clause-goes : goal.returns-in_err-mask-clause-goes
returns-in_err-mask-clause-goes g c =
    let p = err_from_is_err_and c.from_residual-in_err-mask.result c.from_residual-in_err-mask.ensures.1 in
    let asked = c.args.request.now in
    let set = c.args.tiles.now in
    rw (p.1, p.2) (goes_on (pins_plan asked.pins) (behind_pins asked set) _ _ _ _ _ (rw c.pins.ensures.value at c.in_ok-lines.ensures.goes)
    (goes_out (mask_plan asked) (behind_masked asked set c.in_ok-lines.lines.items) _ _ _ c.in_err-mask.ensures.goes))

pub returns-in_err-problem-clause-goes : goal.returns-in_err-problem-clause-goes
returns-in_err-problem-clause-goes g c =
    let p = err_from_is_err_and c.from_residual-in_err-problem.result c.from_residual-in_err-problem.ensures.1 in
    let asked = c.args.request.now in
    let set = c.args.tiles.now in
    let lines = c.in_ok-lines.lines.items in
    let mask = mask_or_whole asked c.in_ok-mask.mask in
    rw (p.1, p.2) (goes_on (pins_plan asked.pins) (behind_pins asked set) _ _ _ _ _ (rw c.pins.ensures.value at c.in_ok-lines.ensures.goes)
    (goes_on (mask_plan asked) (behind_masked asked set lines) _ _ _ _ _ c.in_ok-mask.ensures.goes
    (step_out (posed_tiles asked set mask lines) (λ (P : Network). let end : Plan (MaskView × Network) = done (mask, P) in end) _ _ (rw c.deref.ensures.value at c.in_err-problem.ensures.exact))))

pub returns-clause-goes : goal.returns-clause-goes
returns-clause-goes g c =
    let asked = c.args.request.now in
    let set = c.args.tiles.now in
    let lines = c.in_ok-lines.lines.items in
    let mask = mask_or_whole asked c.in_ok-mask.mask in
    goes_on (pins_plan asked.pins) (behind_pins asked set) _ _ _ _ _ (rw c.pins.ensures.value at c.in_ok-lines.ensures.goes)
    (goes_on (mask_plan asked) (behind_masked asked set lines) _ _ _ _ _ c.in_ok-mask.ensures.goes
    (step_on (posed_tiles asked set mask lines) (λ (P : Network). let end : Plan (MaskView × Network) = done (mask, P) in end) _ _ _ _ (rw c.deref.ensures.value at c.in_ok-problem.ensures.exact) goes_done))

use Rattle.std.proofs.lemmas.Result.{err_from_is_err_and}
use Rattle.wfc_plan.proofs.CallerLemmas.{goes_on, goes_step, step_on}
use Rattle.wfc_plan.specs.Files.{file_plan}
use Rattle.wfc_plan.specs.declared.fault.Source.TheVariants.{Mask}
use Rattle.wfc_task.proofs.TileTaskLemmas.{behind_mask, behind_mask_grid}
use Rattle.wfc_task.proofs.tile_files.mask_file.Goals as goal
use Rattle.wfc_task.specs.Steps.{grid_in}
use Rattle.wfc_task.specs.TileSteps.{mask_in}

pub returns-in_err-mask-clause-goes : goal.returns-in_err-mask-clause-goes
returns-in_err-mask-clause-goes g c =
    let p = err_from_is_err_and c.from_residual-in_err-mask.result c.from_residual-in_err-mask.ensures.1 in
    let asked = c.args.request.now in
    rw (p.1, p.2) (goes_on (file_plan Mask c.args.name.now) (behind_mask asked) _ _ _ _ _ c.in_ok-bytes.ensures.goes
    (step_on (grid_in Mask c.in_ok-bytes.bytes.items) (behind_mask_grid asked) _ _ _ _ (rw c.deref.ensures.value at c.in_ok-grid.ensures.exact)
    (goes_step (mask_in asked c.in_ok-grid.grid) _ _ c.in_err-mask.ensures.exact)))

pub returns-clause-goes : goal.returns-clause-goes
returns-clause-goes g c =
    let asked = c.args.request.now in
    goes_on (file_plan Mask c.args.name.now) (behind_mask asked) _ _ _ _ _ c.in_ok-bytes.ensures.goes
    (step_on (grid_in Mask c.in_ok-bytes.bytes.items) (behind_mask_grid asked) _ _ _ _ (rw c.deref.ensures.value at c.in_ok-grid.ensures.exact)
    (goes_step (mask_in asked c.in_ok-grid.grid) _ _ c.in_ok-mask.ensures.exact))

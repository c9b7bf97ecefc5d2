use Rattle.std.proofs.Common.{arith, suc, ◌+◌, ◌-◌, ◌≡◌}
use Rattle.std.proofs.lemmas.Result.{err_from_is_err_and}
use Rattle.wfc_plan.proofs.CallerLemmas.{goes_on, goes_out}
use Rattle.wfc_task.proofs.tile_files.pictures.Goals as goal
use Rattle.wfc_task.specs.TilePlans.{next_plan, pictures_plan}

pub returns-in_err-next_picture : goal.returns-in_err-next_picture
returns-in_err-next_picture g c =
    let p = err_from_is_err_and c.from_residual.result c.from_residual.ensures.1 in
    let left = c.tiles-end.result - (c.loop.counter + 1) in
    let one_more : c.tiles-end.result - c.loop.counter ≡ suc left = omega (arith, c.loop-test.true) in
    record { goes = rw (p.1, p.2) (c.loop.invariant _ _ (rw one_more (goes_out (next_plan c.loop.tiles) (pictures_plan left) _ _ _ c.in_err-next_picture.ensures.goes))) }

pub loop-preserved : goal.loop-preserved
loop-preserved g c = λ after result rest.
    let left = c.tiles-end.result - (c.loop.counter + 1) in
    let one_more : c.tiles-end.result - c.loop.counter ≡ suc left = omega (arith, c.loop-test.true) in
    c.loop.invariant after result (rw one_more (goes_on (next_plan c.loop.tiles) (pictures_plan left) _ _ _ _ _ c.in_ok-next_picture.ensures.goes rest))

use Rattle.std.proofs.lemmas.Result.{err_from_is_err_and}
use Rattle.wfc_plan.proofs.CallerLemmas.{goes_done, goes_on, goes_out}
use Rattle.wfc_task.proofs.PosedLemmas.{behind_tiles, problem_made}
use Rattle.wfc_task.proofs.posing.tile_problem.Goals as goal
use Rattle.wfc_task.specs.TilePlans.{tiled_plan, tiles_plan}

pub returns-in_err-tiles : goal.returns-in_err-tiles
returns-in_err-tiles g c =
    let p = err_from_is_err_and c.from_residual.result c.from_residual.ensures.1 in
    let asked = c.args.request.now in
    record { goes = rw (p.1, p.2) (goes_out (tiles_plan asked) (behind_tiles asked) _ _ _ c.in_err-tiles.ensures.goes) }

pub returns-in_err-problem : goal.returns-in_err-problem
returns-in_err-problem g c =
    let p = err_from_is_err_and c.from_residual-in_err-problem.result c.from_residual-in_err-problem.ensures.1 in
    let asked = c.args.request.now in
    record {
      goes = rw (p.1, p.2) (goes_on (tiles_plan asked) (behind_tiles asked) _ _ _ _ _ c.in_ok-tiles.ensures.goes
          (goes_out (tiled_plan asked c.in_ok-tiles.tiles) problem_made _ _ _ c.in_err-problem.ensures.goes));
    }

pub returns : goal.returns
returns g c =
    let asked = c.args.request.now in
    record {
      goes = goes_on (tiles_plan asked) (behind_tiles asked) _ _ _ _ _ c.in_ok-tiles.ensures.goes
          (goes_on (tiled_plan asked c.in_ok-tiles.tiles) problem_made _ _ _ _ _ c.in_ok-problem.ensures.goes goes_done);
    }

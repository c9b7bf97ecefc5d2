use Rattle.std.proofs.lemmas.Result.{err_from_is_err_and}
use Rattle.wfc_map_commands.proofs.LearnGivenLemmas.{learned_sample, learned_tiles}
use Rattle.wfc_map_commands.proofs.learning.learn_by.Goals as goal
use Rattle.wfc_plan.proofs.CallerLemmas.{goes_done, goes_on, goes_out}
use Rattle.wfc_task.specs.SamplePlans.{sample_plan}
use Rattle.wfc_task.specs.TilePlans.{tiles_plan}

pub returns-in_err-sample-in-Overlap : goal.returns-in_err-sample-in-Overlap
returns-in_err-sample-in-Overlap g c =
    let p = err_from_is_err_and c.from_residual.result c.from_residual.ensures.1 in
    record { goes = rw (c.in-Overlap.is, p.1, p.2) (goes_out (sample_plan c.args.request.now) learned_sample _ _ _ c.in_err-sample-in-Overlap.ensures.goes) }

pub returns-in_err-tile_set-in-Tiles : goal.returns-in_err-tile_set-in-Tiles
returns-in_err-tile_set-in-Tiles g c =
    let p = err_from_is_err_and c.from_residual-in_err-tile_set-in-Tiles.result c.from_residual-in_err-tile_set-in-Tiles.ensures.1 in
    record { goes = rw (c.in-Tiles.is, p.1, p.2) (goes_out (tiles_plan c.args.request.now) learned_tiles _ _ _ c.in_err-tile_set-in-Tiles.ensures.goes) }

pub returns-in_ok-sample-in-Overlap : goal.returns-in_ok-sample-in-Overlap
returns-in_ok-sample-in-Overlap g c =
    record { goes = rw c.in-Overlap.is (goes_on (sample_plan c.args.request.now) learned_sample _ _ _ _ _ c.in_ok-sample-in-Overlap.ensures.goes goes_done) }

pub returns-in_ok-tile_set-in-Tiles : goal.returns-in_ok-tile_set-in-Tiles
returns-in_ok-tile_set-in-Tiles g c =
    record { goes = rw c.in-Tiles.is (goes_on (tiles_plan c.args.request.now) learned_tiles _ _ _ _ _ c.in_ok-tile_set-in-Tiles.ensures.goes goes_done) }

use Rattle.std.proofs.Common.{inl, sym}
use Rattle.std.proofs.lemmas.Result.{err_from_is_err_and}
use Rattle.wfc_map_commands.proofs.FillGivenLemmas.{behind_set, behind_tile_layout, fill_made_tiles}
use Rattle.wfc_map_commands.proofs.filling.tile_filling.Goals as goal
use Rattle.wfc_plan.proofs.CallerLemmas.{goes_done, goes_on, goes_out, step_on, step_out}
use Rattle.wfc_task.proofs.CallerLemmas.{tiles_pictured}
use Rattle.wfc_task.specs.TilePlans.{tiled_plan, tiles_plan}
use Rattle.wfc_task.specs.TileSteps.{tile_layout}

pub returns-in_err-tiles-clause-goes : goal.returns-in_err-tiles-clause-goes
returns-in_err-tiles-clause-goes g c =
    let p = err_from_is_err_and c.from_residual.result c.from_residual.ensures.1 in
    let asked = c.args.request.now in
    rw (p.1, p.2) (goes_out (tiles_plan asked) (behind_set asked) _ _ _ c.in_err-tiles.ensures.goes)

pub returns-in_err-layout-clause-goes : goal.returns-in_err-layout-clause-goes
returns-in_err-layout-clause-goes g c =
    let p = err_from_is_err_and c.from_residual-in_err-layout.result c.from_residual-in_err-layout.ensures.1 in
    let asked = c.args.request.now in
    rw (p.1, p.2) (goes_on (tiles_plan asked) (behind_set asked) _ _ _ _ _ c.in_ok-tiles.ensures.goes
    (step_out (tile_layout c.in_ok-tiles.tiles asked) (behind_tile_layout asked c.in_ok-tiles.tiles) _ _ (inl c.in_err-layout.ensures.exact)))

pub returns-in_err-mask-clause-goes : goal.returns-in_err-mask-clause-goes
returns-in_err-mask-clause-goes g c =
    let p = err_from_is_err_and c.from_residual-in_err-mask.result c.from_residual-in_err-mask.ensures.1 in
    let asked = c.args.request.now in
    let set = c.in_ok-tiles.tiles in
    rw (p.1, p.2) (goes_on (tiles_plan asked) (behind_set asked) _ _ _ _ _ c.in_ok-tiles.ensures.goes
    (step_on (tile_layout set asked) (behind_tile_layout asked set) _ _ _ _ (inl c.in_ok-layout.ensures.exact)
    (goes_out (tiled_plan asked set) (fill_made_tiles set c.in_ok-layout.layout) _ _ _ c.in_err-mask.ensures.goes)))

pub returns-clause-goes : goal.returns-clause-goes
returns-clause-goes g c =
    let asked = c.args.request.now in
    let set = c.in_ok-tiles.tiles in
    goes_on (tiles_plan asked) (behind_set asked) _ _ _ _ _ c.in_ok-tiles.ensures.goes
    (step_on (tile_layout set asked) (behind_tile_layout asked set) _ _ _ _ (inl c.in_ok-layout.ensures.exact)
    (goes_on (tiled_plan asked set) (fill_made_tiles set c.in_ok-layout.layout) _ _ _ _ _ c.in_ok-mask.ensures.goes goes_done))

pub returns-clause-filling : goal.returns-clause-filling
returns-clause-filling g c = record {
  layout = sym c.in_ok-layout.ensures.exact;
  tiled = c.in_ok-mask.ensures.tiled;
  pictured = tiles_pictured c.args.request.now c.in_ok-tiles.tiles _ _ c.in_ok-tiles.ensures.goes;
}

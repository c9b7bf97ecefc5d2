use Rattle.std.proofs.Common.{length}
use Rattle.std.proofs.lemmas.Result.{err_from_is_err_and}
use Rattle.wfc_plan.proofs.CallerLemmas.{goes_on, goes_out}
use Rattle.wfc_task.proofs.tile_files.tile_set.Goals as goal
use Rattle.wfc_task.specs.TilePlans.{document_plan, pictures_plan}
use Rattle.wfc_tileset.specs.Tiles.{TileSetView}

pub returns-in_err-tiles : goal.returns-in_err-tiles
returns-in_err-tiles g c =
    let p = err_from_is_err_and c.from_residual.result c.from_residual.ensures.1 in
    record { goes = rw (p.1, p.2) (goes_out (document_plan c.args.request.now) (λ (set : TileSetView). pictures_plan (length set.tiles) set) _ _ _ c.in_err-tiles.ensures.goes) }

pub returns-in_err-pictures : goal.returns-in_err-pictures
returns-in_err-pictures g c =
    let p = err_from_is_err_and c.from_residual-in_err-pictures.result c.from_residual-in_err-pictures.ensures.1 in
    record { goes = rw (p.1, p.2) (goes_on (document_plan c.args.request.now) (λ (set : TileSetView). pictures_plan (length set.tiles) set) _ _ _ _ _ c.in_ok-tiles.ensures.goes c.in_err-pictures.ensures.goes) }

pub returns : goal.returns
returns g c = record {
  goes = goes_on (document_plan c.args.request.now) (λ (set : TileSetView). pictures_plan (length set.tiles) set) _ _ _ _ _ c.in_ok-tiles.ensures.goes c.in_ok-pictures.ensures.goes;
}

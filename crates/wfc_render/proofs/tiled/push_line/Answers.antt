use Rattle.std.proofs.Common.{◌<◌, arith}
use Rattle.wfc_model.specs.Raster.{IsRaster}
use Rattle.wfc_render.specs.Tiled.{IsVariantOrHole}
use Rattle.wfc_render.proofs.MapLemmas.{number_in}
use Rattle.wfc_render.proofs.tiled.push_line.Goals as goal

pub push_place-requires-clause-number : goal.push_place-requires-clause-number
push_place-requires-clause-number c =
    let raster : IsRaster c.args.picture.now = assumption in
    let column : c.loop-x.x < c.args.picture.now.width = omega arith in
    rw c.at.ensures.value (number_in (IsVariantOrHole c.args.tiles.now) c.args.picture.now c.loop-x.x c.args.y raster c.requires.numbers column c.requires.row_in)

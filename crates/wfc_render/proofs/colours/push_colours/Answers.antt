use Rattle.std.proofs.Common.{◌<◌, length, arith}
use Rattle.wfc_model.specs.Raster.{IsRaster}
use Rattle.wfc_render.proofs.MapLemmas.{number_in}
use Rattle.wfc_render.proofs.colours.push_colours.Goals as goal

pub colour-requires : goal.colour-requires
colour-requires c =
    let raster : IsRaster c.args.picture.now = assumption in
    let column : c.loop-x.x < c.args.picture.now.width = omega arith in
    record { number_in = rw c.at.ensures.value (number_in (λ n. n < length c.args.palette.now) c.args.picture.now c.loop-x.x c.args.y raster c.requires.numbers column c.requires.row_in) }

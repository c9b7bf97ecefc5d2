use Rattle.std.proofs.Common.{◌<◌, ◌≤◌, length, arith}
use Rattle.wfc_model.specs.Raster.{height_of}
use Rattle.wfc_render.specs.Colours.{picture_head}
use Rattle.wfc_render.proofs.ColourLemmas.{pixel_rows_all, pixel_rows_next}
use Rattle.wfc_render.proofs.colours.colour_rows.Goals as goal

pub loop-y-preserved : goal.loop-y-preserved
loop-y-preserved c =
    let m = c.args.picture.now in
    let inside : c.loop-y.y < length m.rows = omega arith in
    pixel_rows_next c.args.form c.args.maxval c.args.palette.now m.rows c.loop-y.y (picture_head c.args.form m.width (height_of m) c.args.maxval) c.loop-y.text.items c.push_colours.new.text.items inside c.loop-y.invariant
    c.in_ok-push_colours.ensures.row

pub returns : goal.returns
returns c =
    let m = c.args.picture.now in
    let past : height_of m ≤ c.loop-y.y = omega arith in
    record { text = pixel_rows_all c.args.form c.args.maxval c.args.palette.now m c.loop-y.y c.loop-y.text.items past c.loop-y.invariant }

use Rattle.std.proofs.Common.{◌<◌, length, arith}
use Rattle.wfc_render.specs.Tiled.{spaced_cells}
use Rattle.wfc_render.proofs.MapLemmas.{rows_next}
use Rattle.wfc_render.proofs.tiled.cell_rows.Goals as goal

pub loop-y-preserved : goal.loop-y-preserved
loop-y-preserved c =
    let inside : c.loop-y.y < length c.args.picture.now.rows = omega arith in
    rows_next spaced_cells c.args.picture.now.rows c.loop-y.y c.loop-y.text.items c.push_cells.new.text.items inside c.loop-y.invariant c.in_ok-push_cells.ensures.row

use Rattle.std.proofs.Common.{◌<◌, length, arith}
use Rattle.wfc_render.specs.Numbers.{spaced_numbers}
use Rattle.wfc_render.proofs.MapLemmas.{rows_next}
use Rattle.wfc_render.proofs.maps.number_rows.Goals as goal

pub loop-y-preserved : goal.loop-y-preserved
loop-y-preserved c =
    let inside : c.loop-y.y < length c.args.picture.now.rows = omega arith in
    rows_next spaced_numbers c.args.picture.now.rows c.loop-y.y c.loop-y.text.items c.push_numbers.new.text.items inside c.loop-y.invariant c.in_ok-push_numbers.ensures.row

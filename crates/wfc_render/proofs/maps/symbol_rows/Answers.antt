use Rattle.std.proofs.Common.{◌<◌, length, arith}
use Rattle.wfc_render.specs.Map.{symbol_bytes}
use Rattle.wfc_render.proofs.MapLemmas.{rows_next}
use Rattle.wfc_render.proofs.maps.symbol_rows.Goals as goal

pub loop-y-preserved : goal.loop-y-preserved
loop-y-preserved c =
    let inside : c.loop-y.y < length c.args.picture.now.rows = omega arith in
    rows_next (symbol_bytes c.args.palette.now) c.args.picture.now.rows c.loop-y.y c.loop-y.text.items c.push_symbols.new.text.items inside c.loop-y.invariant c.in_ok-push_symbols.ensures.row

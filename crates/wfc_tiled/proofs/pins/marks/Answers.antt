use Rattle.std.proofs.Common.{sym, arith}
use Rattle.std.proofs.lemmas.List.Elements.{All-push}
use Rattle.wfc_pins.proofs.CallerLemmas.{read_on}
use Rattle.wfc_tiled.specs.Built.{tile_map_pin, tile_map_pins}
use Rattle.wfc_tiled.specs.Maps.{IsPlaced}
use Rattle.wfc_tiled.proofs.pins.marks.Goals as goal

pub loop-line-preserved : goal.loop-line-preserved
loop-line-preserved c = record {
  whole = rw c.in_ok-push.ensures.items
      (read_on (tile_map_pin c.args.tiles.now.tiles c.args.mask.now) c.args.pins.now (tile_map_pins c.args.tiles.now.tiles c.args.mask.now c.args.pins.now) c.loop-line.line-index _ _ _
      (omega arith) c.line-item.is (sym c.in_ok-mark.ensures.exact) c.loop-line.invariant.whole);
  placed = rw c.in_ok-push.ensures.items (All-push (IsPlaced c.args.mask.now) _ _ c.loop-line.invariant.placed c.in_ok-mark.ensures.placed);
}

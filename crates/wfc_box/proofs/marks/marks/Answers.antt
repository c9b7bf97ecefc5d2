use Rattle.std.proofs.Common.{sym, arith}
use Rattle.std.proofs.lemmas.List.Elements.{All-push}
use Rattle.wfc_pins.proofs.CallerLemmas.{read_on}
use Rattle.wfc_box.specs.Built.{box_pin_in, box_pins_in}
use Rattle.wfc_box.specs.Boxes.{IsInBox}
use Rattle.wfc_box.proofs.marks.marks.Goals as goal

pub loop-line-preserved : goal.loop-line-preserved
loop-line-preserved c = record {
  whole = rw c.in_ok-push.ensures.items
      (read_on (box_pin_in c.args.tiles.now.tiles c.args.frame) c.args.pins.now (box_pins_in c.args.tiles.now.tiles c.args.frame c.args.pins.now) c.loop-line.line-index _ _ _
      (omega arith) c.line-item.is (sym c.in_ok-mark.ensures.exact) c.loop-line.invariant.whole);
  inside = rw c.in_ok-push.ensures.items (All-push (IsInBox c.args.frame) _ _ c.loop-line.invariant.inside c.in_ok-mark.ensures.inside);
}

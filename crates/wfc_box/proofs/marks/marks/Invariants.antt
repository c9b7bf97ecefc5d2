use Rattle.std.specs.Prelude.{All}
use Rattle.wfc_pins.proofs.CallerLemmas.{IsReadTo}
use Rattle.wfc_box.specs.Built.{box_pin_in, box_pins_in}
use Rattle.wfc_box.specs.Boxes.{IsInBox}
use Rattle.wfc_box.proofs.marks.marks.Given as goal

abbrev pub invariant-loop-line : goal.invariant-loop-line
invariant-loop-line l = record {
  whole : IsReadTo (box_pin_in l.tiles.tiles l.frame) l.pins (box_pins_in l.tiles.tiles l.frame l.pins) l.line-index l.marks.items;
  inside : All (IsInBox l.frame) l.marks.items;
}

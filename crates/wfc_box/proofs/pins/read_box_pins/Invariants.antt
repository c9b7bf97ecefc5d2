use Rattle.std.proofs.Common.{◌≡◌, map}
use Rattle.wfc_pins.specs.InOrder.{all_in_order}
use Rattle.wfc_pins.specs.Words.{read_among}
use Rattle.wfc_pins.proofs.CallerLemmas.{behind}
use Rattle.wfc_box.specs.BoxPins.{box_pins_of, box_pin_of}
use Rattle.wfc_box.proofs.pins.read_box_pins.Given as goal

abbrev pub invariant-loop-line : goal.invariant-loop-line
invariant-loop-line l = record {
  whole : behind l.pins.items (all_in_order (map box_pin_of (read_among l.line-iterator))) ≡ box_pins_of l.bytes;
}

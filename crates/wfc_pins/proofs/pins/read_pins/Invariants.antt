use Rattle.std.proofs.Common.{◌≡◌, map}
use Rattle.wfc_pins.specs.InOrder.{all_in_order}
use Rattle.wfc_pins.specs.Pins.{pin_of, pins_of}
use Rattle.wfc_pins.specs.Words.{read_among}
use Rattle.wfc_pins.proofs.InOrderLemmas.{behind}
use Rattle.wfc_pins.proofs.pins.read_pins.Given as goal

abbrev pub invariant-loop-line : goal.invariant-loop-line
invariant-loop-line l = record {
  whole : behind l.pins.items (all_in_order (map pin_of (read_among l.line-iterator))) ≡ pins_of l.bytes;
}

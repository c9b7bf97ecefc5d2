use Rattle.std.proofs.Common.{◌<◌, map}
use Rattle.std.specs.Prelude.{All}
use Rattle.wfc_model.specs.Legal.{Pin}
use Rattle.wfc_overlap.specs.Built.{picture_pin, picture_pins}
use Rattle.wfc_pins.proofs.CallerLemmas.{IsReadTo}
use Rattle.wfc_overlap.proofs.pins.marks.Given as goal

abbrev pub invariant-loop-line : goal.invariant-loop-line
invariant-loop-line l = record {
  whole : IsReadTo (picture_pin (map (λ text. text.items) l.texts.items) l.width l.height) l.pins (picture_pins (map (λ text. text.items) l.texts.items) l.width l.height l.pins) l.line-index l.marks.items;
  inside : All (λ (pin : Pin). (pin.column < l.width) × (pin.row < l.height)) l.marks.items;
}

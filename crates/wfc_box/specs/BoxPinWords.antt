-- What the code holds of a pin before its symbol is copied.
use Rattle.std.specs.Prelude.{ℕ}
use Rattle.wfc_box.specs.declared.pins.BoxPinWords.{BoxPinWords}
use Rattle.wfc_box.specs.BoxPinView.{BoxPinView}

-- the pin of a line with this number
abbrev pub box_pin_view : ℕ → BoxPinWords → BoxPinView
box_pin_view line words = record {
  line = line;
  keep = words.keep;
  x = words.x;
  y = words.y;
  z = words.z;
  symbol = words.symbol.now;
}

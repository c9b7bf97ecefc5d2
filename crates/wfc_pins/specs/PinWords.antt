-- What the code holds of a pin before its symbol is copied.
use Rattle.std.specs.Prelude.{ℕ}
use Rattle.wfc_pins.specs.declared.pins.PinWords.{PinWords}
use Rattle.wfc_pins.specs.PinView.{PinView}

-- the pin of a line with this number
abbrev pub pin_view : ℕ → PinWords → PinView
pin_view line words = record { line = line; keep = words.keep; x = words.x; y = words.y; symbol = words.symbol.now }

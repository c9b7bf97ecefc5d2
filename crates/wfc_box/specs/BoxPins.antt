-- The pins and bans that a box's pins file writes, a line each.
use Rattle.std.specs.Prelude.{ℕ, Bool, List, [], ◌∷◌, map, Option, None, Some, Result}
use Rattle.std.specs.Option.{ok_or}
use Rattle.wfc_text.specs.Line.{LineView}
use Rattle.wfc_pins.specs.InOrder.{all_in_order}
use Rattle.wfc_pins.specs.Pins.{keep_of}
use Rattle.wfc_pins.specs.Words.{number32, read_lines, words_of}
use Rattle.wfc_pins.specs.declared.pins.PinFault.{PinFault}
use Rattle.wfc_pins.specs.declared.pins.PinFault.TheVariants.{BadLine}
use Rattle.wfc_box.specs.BoxPinView.{BoxPinView}

-- the pin with these parts, if they are all there
abbrev pub box_pin_from : ℕ → List ℕ → Option Bool → Option ℕ → Option ℕ → Option ℕ → Option BoxPinView
box_pin_from line symbol (Some keep) (Some x) (Some y) (Some z) =
    Some record { line = line; keep = keep; x = x; y = y; z = z; symbol = symbol }
box_pin_from line symbol _ _ _ _ = None

-- what the words of a line say: `pin` or `ban`, a column, a row, a layer and a symbol
abbrev pub box_pin_of_words : ℕ → List (List ℕ) → Option BoxPinView
box_pin_of_words line (keep ∷ x ∷ y ∷ z ∷ symbol ∷ []) =
    box_pin_from line symbol (keep_of keep) (number32 x) (number32 y) (number32 z)
box_pin_of_words line _ = None

-- what a line says, or that it says nothing that may stand in a box's pins file
abbrev pub box_pin_of : LineView → Result BoxPinView PinFault
box_pin_of line = ok_or (box_pin_of_words line.number (words_of line.bytes)) (BadLine line.number)

-- the pins and bans of a text, or the first line at fault
abbrev pub box_pins_of : List ℕ → Result (List BoxPinView) PinFault
box_pins_of text = all_in_order (map box_pin_of (read_lines text))

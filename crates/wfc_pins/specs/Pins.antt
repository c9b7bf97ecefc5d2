-- The pins and bans that a text writes, a line each.
use Rattle.std.specs.Prelude.{◌≡◌, ℕ, Bool, true, false, List, [], ◌∷◌, map, Option, None, Some, Result, codes, if◌then◌else◌}
use Rattle.std.specs.Option.{ok_or}
use Rattle.std.specs.Str.{bytes_eq}
use Rattle.wfc_text.specs.Line.{LineView}
use Rattle.wfc_pins.specs.InOrder.{IsFirstWith, all_in_order}
use Rattle.wfc_pins.specs.Words.{words_of, read_lines, number32}
use Rattle.wfc_pins.specs.declared.pins.PinFault.{PinFault}
use Rattle.wfc_pins.specs.declared.pins.PinFault.TheVariants.{BadLine}
use Rattle.wfc_pins.specs.PinView.{PinView}

-- whether a line keeps its symbol, by its first word: `pin` does, and `ban` doesn't
abbrev pub keep_of : List ℕ → Option Bool
keep_of word =
    if bytes_eq word (codes "pin") then Some true
    else (if bytes_eq word (codes "ban") then Some false else None)

-- the pin with these parts, if they are all there
abbrev pub pin_with : ℕ → List ℕ → Option Bool → Option ℕ → Option ℕ → Option PinView
pin_with line symbol (Some keep) (Some x) (Some y) =
    Some record { line = line; keep = keep; x = x; y = y; symbol = symbol }
pin_with line symbol _ _ _ = None

-- what the words of a line say: `pin` or `ban`, a column, a row and a symbol
abbrev pub pin_of_words : ℕ → List (List ℕ) → Option PinView
pin_of_words line (keep ∷ x ∷ y ∷ symbol ∷ []) = pin_with line symbol (keep_of keep) (number32 x) (number32 y)
pin_of_words line _ = None

-- the pin or the ban that a line says, if it says one
abbrev pub pin_said : LineView → Option PinView
pin_said line = pin_of_words line.number (words_of line.bytes)

-- the same, or that the line says nothing that may stand in a pins file
abbrev pub pin_of : LineView → Result PinView PinFault
pin_of line = ok_or (pin_said line) (BadLine line.number)

-- the pins and bans of a text, or the first line at fault
abbrev pub pins_of : List ℕ → Result (List PinView) PinFault
pins_of text = all_in_order (map pin_of (read_lines text))

-- the first line of a text that says no pin and no ban has this number
abbrev pub HasFirstBad : List ℕ → ℕ → Type 0
HasFirstBad text n =
    (line : LineView) × (line.number ≡ n) × IsFirstWith (λ l. pin_said l ≡ None) (read_lines text) line

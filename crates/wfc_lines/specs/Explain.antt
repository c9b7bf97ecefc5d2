-- The text of a pins file with too many lines to explain.
use Rattle.std.specs.Prelude.{ℕ, List, codes}
use Rattle.wfc_lines.specs.Line.{numbered_text}

-- so many lines of pins and bans are too many
abbrev pub text_of_many_pins : ℕ → List ℕ → List ℕ
text_of_many_pins count file = numbered_text (codes "explain TooManyPins count=") count file

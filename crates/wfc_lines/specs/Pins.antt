-- The texts of a pins file.
use Rattle.std.specs.Prelude.{ℕ, List, codes}
use Rattle.wfc_pins.specs.declared.pins.PinFault.{PinFault}
use Rattle.wfc_pins.specs.declared.pins.PinFault.TheVariants as faults
use Rattle.wfc_lines.specs.Line.{numbered_text}
use Rattle.wfc_lines.specs.Outcome.{no_memory_text}

-- why a text is no pins file: a line has not the form of a pin or a ban, or memory ran out
abbrev pub text_of_pins : PinFault → List ℕ → List ℕ
text_of_pins (faults.BadLine line) file = numbered_text (codes "pins BadLine line=") line file
text_of_pins faults.NoMemory file = no_memory_text

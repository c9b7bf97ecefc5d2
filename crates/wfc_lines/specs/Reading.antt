-- The texts of a file that was not read.
use Rattle.std.specs.Prelude.{ℕ, List, codes}
use Rattle.wfc_outside.specs.declared.whole.ReadFault.{ReadFault}
use Rattle.wfc_outside.specs.declared.whole.ReadFault.TheVariants as faults
use Rattle.wfc_lines.specs.Line.{about}
use Rattle.wfc_lines.specs.Outcome.{no_memory_text}

-- why a file was not read whole: it is missing, could not be read, or is too long, or memory ran out
abbrev pub text_of_reading : ReadFault → List ℕ → List ℕ
text_of_reading faults.Missing file = about (codes "device Missing") file
text_of_reading faults.Failed file = about (codes "device Failed") file
text_of_reading faults.TooLong file = about (codes "file TooLong") file
text_of_reading faults.NoMemory file = no_memory_text

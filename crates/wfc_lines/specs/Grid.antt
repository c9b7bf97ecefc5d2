-- The texts of a text that is no grid.
use Rattle.std.specs.Prelude.{ℕ, List, codes}
use Rattle.wfc_grid.specs.declared.reading.GridFault.{GridFault}
use Rattle.wfc_grid.specs.declared.reading.GridFault.TheVariants as faults
use Rattle.wfc_lines.specs.Line.{about, numbered_text, twice_numbered_text}
use Rattle.wfc_lines.specs.Outcome.{no_memory_text}

-- why a text is no grid of characters, with the line and the column that are at fault
abbrev pub text_of_grid : GridFault → List ℕ → List ℕ
text_of_grid faults.Empty file = about (codes "grid Empty") file
text_of_grid (faults.Ragged line) file = numbered_text (codes "grid Ragged line=") line file
text_of_grid (faults.BadByte line column) file =
    twice_numbered_text (codes "grid BadByte line=") line (codes " column=") column file
text_of_grid faults.TooLarge file = about (codes "grid TooLarge") file
text_of_grid faults.NoMemory file = no_memory_text

-- The texts of a sample with too many symbols.
use Rattle.std.specs.Prelude.{ℕ, List, codes}
use Rattle.wfc_picture.specs.declared.palette.PaletteFault.{PaletteFault}
use Rattle.wfc_picture.specs.declared.palette.PaletteFault.TheVariants as faults
use Rattle.wfc_lines.specs.Line.{numbered_text}
use Rattle.wfc_lines.specs.Outcome.{no_memory_text}

-- why the symbols of a sample have no palette: there are too many of them, or memory ran out
abbrev pub text_of_palette : PaletteFault → List ℕ → List ℕ
text_of_palette (faults.TooManyColours at) file = numbered_text (codes "palette TooManyColours at=") at file
text_of_palette faults.NoMemory file = no_memory_text

-- The texts of a text that is no picture of colours.
use Rattle.std.specs.Prelude.{ℕ, List, codes}
use Rattle.wfc_ppm.specs.declared.reading.PpmFault.{PpmFault}
use Rattle.wfc_ppm.specs.declared.reading.PpmFault.TheVariants as faults
use Rattle.wfc_lines.specs.Line.{about, numbered_text, twice_numbered_text}
use Rattle.wfc_lines.specs.Outcome.{no_memory_text}

-- why a text is no picture of colours, with the place or the number that is at fault
abbrev pub text_of_ppm : PpmFault → List ℕ → List ℕ
text_of_ppm faults.Magic file = about (codes "ppm Magic") file
text_of_ppm (faults.Header at) file = numbered_text (codes "ppm Header at=") at file
text_of_ppm (faults.Maxval value) file = numbered_text (codes "ppm Maxval value=") value file
text_of_ppm faults.TooLarge file = about (codes "ppm TooLarge") file
text_of_ppm (faults.Truncated wanted found) file =
    twice_numbered_text (codes "ppm Truncated wanted=") wanted (codes " found=") found file
text_of_ppm (faults.SampleAboveMaxval at) file = numbered_text (codes "ppm SampleAboveMaxval at=") at file
text_of_ppm (faults.BadSample at) file = numbered_text (codes "ppm BadSample at=") at file
text_of_ppm (faults.Trailing at) file = numbered_text (codes "ppm Trailing at=") at file
text_of_ppm faults.NoMemory file = no_memory_text

-- The texts of a file that is no refutation.
use Rattle.std.specs.Prelude.{ℕ, List, ◌++◌, codes, decimal}
use Rattle.wfc_outside.specs.declared.whole.ReadFault.TheVariants as reads
use Rattle.wfc_proof.specs.Heads.{bit}
use Rattle.wfc_proof.specs.declared.Reject.{Reject}
use Rattle.wfc_proof.specs.declared.Reject.TheVariants as rejects
use Rattle.wfc_proof.specs.declared.heads.Shape.{Shape}
use Rattle.wfc_check.specs.declared.fault.CheckFault.{CheckFault}
use Rattle.wfc_check.specs.declared.fault.CheckFault.TheVariants as faults
use Rattle.wfc_lines.specs.Line.{about}
use Rattle.wfc_lines.specs.Reading.{text_of_reading}

-- a line of the proof is refused so
abbrev pub rejected_text : ℕ → List ℕ → List ℕ → List ℕ
rejected_text line reject file = about (codes "check Rejected line=" ++ decimal line ++ codes " reject=" ++ reject) file

-- a refusal is named with the value that it names, if it names one
abbrev pub text_of_rejected : ℕ → Reject → List ℕ → List ℕ
text_of_rejected line rejects.NotStanding file = rejected_text line (codes "NotStanding") file
text_of_rejected line (rejects.HasSupport value) file =
    rejected_text line (codes "HasSupport value=" ++ decimal value) file
text_of_rejected line rejects.NoNeighbour file = rejected_text line (codes "NoNeighbour") file
text_of_rejected line (rejects.NotEmpty value) file = rejected_text line (codes "NotEmpty value=" ++ decimal value) file
text_of_rejected line rejects.AfterEnd file = rejected_text line (codes "AfterEnd") file
text_of_rejected line rejects.IndexRange file = rejected_text line (codes "IndexRange") file
text_of_rejected line rejects.NotClosed file = rejected_text line (codes "NotClosed") file
text_of_rejected line rejects.OnlyValue file = rejected_text line (codes "OnlyValue") file

-- a line is none of a refutation
abbrev pub bad_line_text : ℕ → List ℕ → List ℕ
bad_line_text line file = about (codes "check BadLine line=" ++ decimal line) file

-- the head has these numbers
abbrev pub header_text : ℕ → ℕ → List ℕ → List ℕ
header_text cells values file = about (codes "check HeaderDiffers cells=" ++ decimal cells ++ codes " values=" ++ decimal values) file

-- the head names this shape
abbrev pub options_text : Shape → List ℕ → List ℕ
options_text found file =
    about (codes "check OptionsDiffer n=" ++ decimal found.n ++ codes " width=" ++ decimal found.width
    ++ codes " height=" ++ decimal found.height ++ codes " depth=" ++ decimal found.depth
    ++ codes " symmetry=" ++ decimal found.symmetry ++ codes " wrap_in="
    ++ decimal (bit found.wrap_in) ++ codes " wrap_out=" ++ decimal (bit found.wrap_out)) file

-- why the text of a file is not accepted as a refutation of the problem, or why the file was not read
abbrev pub text_of_check : CheckFault → List ℕ → List ℕ
text_of_check (faults.Rejected line reject) file = text_of_rejected line reject file
text_of_check (faults.BadLine line) file = bad_line_text line file
text_of_check (faults.HeaderDiffers cells values) file = header_text cells values file
text_of_check faults.NotEnded file = about (codes "check NotEnded") file
text_of_check faults.Missing file = text_of_reading reads.Missing file
text_of_check faults.Failed file = text_of_reading reads.Failed file
text_of_check faults.TooLong file = text_of_reading reads.TooLong file
text_of_check faults.NoMemory file = text_of_reading reads.NoMemory file
text_of_check (faults.OptionsDiffer found) file = options_text found file

-- No text is answered as a device's fault or as want of memory.
use Rattle.std.proofs.Common.{◌≡◌, ℕ, ◌+◌, ◌∷◌, [], nat_lt, Bool, true, false, cond, List, Result, Ok, Err, length, take, subst}
use Rattle.std.specs.Prelude.{⊤}
use Rattle.std.specs.List.{slice_split}
use Rattle.wfc_text.specs.Line.{is_line_feed}
use Rattle.wfc_outside.specs.Folder.{FolderView}
use Rattle.wfc_problem.specs.Network.{Network}
use Rattle.wfc_proof.specs.Checker.{Point, line_step}
use Rattle.wfc_proof.specs.Heads.{format_of, head_numbers, shape_of}
use Rattle.wfc_proof.specs.declared.Line.{Line}
use Rattle.wfc_proof.specs.declared.Reject.{Reject}
use Rattle.wfc_proof.specs.declared.heads.Format.{Format}
use Rattle.wfc_proof.specs.declared.heads.Format.TheVariants.{Two}
use Rattle.wfc_proof.specs.declared.heads.HeadNumbers.{HeadNumbers}
use Rattle.wfc_proof.specs.declared.heads.Shape.{Shape}
use Rattle.wfc_proof.specs.declared.text.LineFault.{LineFault}
use Rattle.wfc_check.specs.Answered.{IsOfText, IsOfFile, Answers}
use Rattle.wfc_check.specs.Checker.{progress_of}
use Rattle.wfc_check.specs.Text.{TextPlace, at_start, after_first, are_of_problem, behind_numbers, after_numbers, are_one, after_shape, line_in, place_after_step, place_after_line, at_point, stage_answer, line_led, ended_at, ended_before, answer_behind, and_read, answer_to_parts, checked}
use Rattle.wfc_check.specs.declared.fault.CheckFault.{CheckFault}
use Rattle.wfc_check.specs.declared.fault.CheckFault.TheVariants.{Rejected, BadLine, HeaderDiffers, NotEnded, Missing, Failed, TooLong, NoMemory, OptionsDiffer}
use Rattle.wfc_check.specs.declared.progress.Progress.{Progress}
use Rattle.wfc_check.specs.declared.progress.Progress.TheVariants.{Going, Closed, Ended}
use Rattle.wfc_check.specs.declared.reading.Stage.{Stage}
use Rattle.wfc_check.specs.declared.reading.Stage.TheVariants.{First, Numbering, Shaping, Proving}

-- an answer whose fault, if it is one, is of the text
abbrev OfText : {X : Type 0} → Result X CheckFault → Type 0
OfText (Ok x) = ⊤
OfText (Err fault) = IsOfText fault

chosen : {X : Type 0} (test : Bool) (a b : Result X CheckFault) → OfText a → OfText b → OfText (cond test a b)
chosen true a b one other = one
chosen false a b one other = other

first : (number : ℕ) (read : Result Format LineFault) → OfText (after_first number read)
first number (Ok format) = tt
first number (Err fault) = tt

numbers : (P : Network) (format : Format) (number : ℕ) (read : Result HeadNumbers LineFault) → OfText (after_numbers P format number read)
numbers P format number (Ok found) = chosen (are_of_problem P found) (Ok (behind_numbers format)) (Err (HeaderDiffers found.cells found.values)) tt tt
numbers P format number (Err fault) = tt

shapes : (shape : Shape) (number : ℕ) (read : Result Shape LineFault) → OfText (after_shape shape number read)
shapes shape number (Ok found) = by (are_one found shape)
  where
    by : (test : Bool) → OfText (cond test (Ok (Proving Two)) (Err (OptionsDiffer found)))
    by true = tt
    by false = tt
shapes shape number (Err fault) = tt

steps : (number : ℕ) (format : Format) (led : Result Point Reject) → OfText (place_after_step number format led)
steps number format (Ok point) = tt
steps number format (Err reject) = tt

lines : (P : Network) (number : ℕ) (format : Format) (point : Point) (read : Result Line LineFault) → OfText (place_after_line P number format point read)
lines P number format point (Ok line) = steps number format (line_step P point line)
lines P number format point (Err fault) = tt

points : (point : Point) (read : Result Stage CheckFault) → OfText read → OfText (at_point point read)
points point (Ok stage) of = tt
points point (Err fault) of = of

stages : (P : Network) (shape : Shape) (number : ℕ) (stage : Stage) (point : Point) (line : List ℕ) → OfText (stage_answer P shape number stage point line)
stages P shape number First point line = points point (after_first number (format_of line)) (first number (format_of line))
stages P shape number (Numbering format) point line = points point (after_numbers P format number (head_numbers line)) (numbers P format number (head_numbers line))
stages P shape number Shaping point line = points point (after_shape shape number (shape_of line)) (shapes shape number (shape_of line))
stages P shape number (Proving format) point line = lines P number format point (line_in format line)

led : (P : Network) (shape : Shape) (number : ℕ) (at : TextPlace) (line : List ℕ) → OfText (line_led P shape number at line)
led P shape number at line = chosen (nat_lt 64 (length line)) (Err (BadLine number)) (stage_answer P shape number at.stage at.point line) tt (stages P shape number at.stage at.point line)

finished : (progress : Progress) → OfText (ended_at progress)
finished Going = tt
finished Closed = tt
finished Ended = tt

befores : (number : ℕ) (stage : Stage) (point : Point) → OfText (ended_before number stage point)
befores number First point = tt
befores number (Numbering format) point = tt
befores number Shaping point = tt
befores number (Proving format) point = finished (progress_of point)

behinds : (over : Bool) (number : ℕ) (at : TextPlace) (line : List ℕ) → OfText (answer_behind over number at line)
behinds true number at line = limits (nat_lt 64 (length line))
  where
    limits : (test : Bool) → OfText (let r : Result (Unit {0}) CheckFault = cond test (Err (BadLine number)) (Err TooLong) in r)
    limits true = tt
    limits false = tt
behinds false number at [] = befores number at.stage at.point
behinds false number at (byte ∷ line) = tt

goes_on : (read : Result TextPlace CheckFault) (next : TextPlace → Result (Unit {0}) CheckFault) → OfText read → ((at : TextPlace) → OfText (next at)) → OfText (and_read read next)
goes_on (Ok at) next of all = all at
goes_on (Err fault) next of all = of

parts_of_text : (P : Network) (shape : Shape) (over : Bool) (number : ℕ) (at : TextPlace) (parts : List (List ℕ)) → OfText (answer_to_parts P shape over number at parts)
parts_of_text P shape over number at [] = tt
parts_of_text P shape over number at (last ∷ []) = behinds over number at last
parts_of_text P shape over number at (line ∷ next ∷ parts) =
    goes_on (line_led P shape number at line) (λ after. answer_to_parts P shape over (number + 1) after (next ∷ parts)) (led P shape number at line)
    (λ after. parts_of_text P shape over (number + 1) after (next ∷ parts))

-- no text is answered otherwise
pub checked_of_text : (P : Network) (shape : Shape) (text : List ℕ) (fault : CheckFault) → checked P shape text ≡ Err fault → IsOfText fault
unfolding checked
checked_of_text P shape text fault is =
    subst (λ (answer : Result (Unit {0}) CheckFault). OfText answer) is
    (parts_of_text P shape (nat_lt 4294967296 (length text)) 1 (at_start P) (slice_split is_line_feed (take 4294967296 text)))

-- an answer to the bytes of a file is what the check of the file may answer
pub answers_of_file : (P : Network) (shape : Shape) (name : List ℕ) (old new : FolderView) (answer : Result (Unit {0}) CheckFault) → IsOfFile P shape name old new answer → Answers P shape name old new answer
answers_of_file P shape name old new (Ok done) of = of
answers_of_file P shape name old new (Err (Rejected line reject)) of = of
answers_of_file P shape name old new (Err (BadLine line)) of = of
answers_of_file P shape name old new (Err (HeaderDiffers cells values)) of = of
answers_of_file P shape name old new (Err NotEnded) of = of
answers_of_file P shape name old new (Err Missing) of = absurd (checked_of_text P shape of.bytes Missing of.is)
answers_of_file P shape name old new (Err Failed) of = absurd (checked_of_text P shape of.bytes Failed of.is)
answers_of_file P shape name old new (Err TooLong) of = of
answers_of_file P shape name old new (Err NoMemory) of = absurd (checked_of_text P shape of.bytes NoMemory of.is)
answers_of_file P shape name old new (Err (OptionsDiffer found)) of = of

-- What is answered to the text of a refutation, line by line.
use Rattle.std.specs.Prelude.{◌≡◌, ℕ, ◌+◌, ◌≤◌, ◌==◌, ◌&&◌, nat_lt, Bool, true, false, List, [], ◌∷◌, length, take}
use Rattle.std.specs.Prelude.{Result, Ok, Err, MatchResult, if◌then◌else◌}
use Rattle.std.specs.Bool.{beq}
use Rattle.std.specs.List.{slice_split}
use Rattle.wfc_text.specs.Line.{is_line_feed}
use Rattle.wfc_problem.specs.Network.{Network, values, in_base}
pub use Rattle.wfc_proof.specs.Telling.{line_in}
use Rattle.wfc_proof.specs.Checker.{Point, line_step}
use Rattle.wfc_proof.specs.Checker.Point.{going}
use Rattle.wfc_proof.specs.Heads.{format_of, head_numbers, shape_of}
use Rattle.wfc_proof.specs.ProofText.{IsProofText}
use Rattle.wfc_proof.specs.declared.Line.{Line}
use Rattle.wfc_proof.specs.declared.Reject.{Reject}
use Rattle.wfc_proof.specs.declared.heads.Format.{Format}
use Rattle.wfc_proof.specs.declared.heads.Format.TheVariants.{One, Two}
use Rattle.wfc_proof.specs.declared.heads.HeadNumbers.{HeadNumbers}
use Rattle.wfc_proof.specs.declared.heads.Shape.{Shape}
use Rattle.wfc_proof.specs.declared.text.LineFault.{LineFault}
use Rattle.wfc_check.specs.Checker.{progress_of}
use Rattle.wfc_check.specs.declared.fault.CheckFault.{CheckFault}
use Rattle.wfc_check.specs.declared.fault.CheckFault.TheVariants.{Rejected, BadLine, HeaderDiffers, NotEnded, TooLong, OptionsDiffer}
use Rattle.wfc_check.specs.declared.progress.Progress.{Progress}
use Rattle.wfc_check.specs.declared.progress.Progress.TheVariants.{Going, Closed, Ended}
use Rattle.wfc_check.specs.declared.reading.Stage.{Stage}
use Rattle.wfc_check.specs.declared.reading.Stage.TheVariants.{First, Numbering, Shaping, Proving}
use Rattle.wfc_check.specs.declared.reading.TheConstants.{MAX_LINE_BYTES, MAX_REFUTATION_BYTES}

-- where the reading of a text is: which kind of line comes next, and where the proof is
pub record TextPlace : Type 0 where
  pub stage : Stage
  pub point : Point

-- the place with this stage and this point
abbrev pub staged_place : Stage → Point → TextPlace
staged_place stage point = record { stage = stage; point = point }

-- before the first line, with the proof at the base domains
abbrev pub at_start : Network → TextPlace
at_start P = staged_place First (going (in_base P) [])

-- ---- the lines of a head

-- behind a first line come the numbers
abbrev pub after_first : ℕ → Result Format LineFault → Result Stage CheckFault
after_first number (Ok format) = Ok (Numbering format)
after_first number (Err fault) = Err (BadLine number)

-- whether the numbers of a head are the problem's
abbrev pub are_of_problem : Network → HeadNumbers → Bool
are_of_problem P numbers = numbers.cells == P.cells && numbers.values == values P

-- behind the numbers of a head comes the proof, in format 2 the shape before it
abbrev pub behind_numbers : Format → Stage
behind_numbers One = Proving One
behind_numbers Two = Shaping

-- the stage behind the numbers of a head, or the fault of their line
abbrev pub after_numbers : Network → Format → ℕ → Result HeadNumbers LineFault → Result Stage CheckFault
after_numbers P format number (Ok numbers) =
    if are_of_problem P numbers then Ok (behind_numbers format)
    else Err (HeaderDiffers numbers.cells numbers.values)
after_numbers P format number (Err fault) = Err (BadLine number)

-- whether two shapes are one
abbrev pub are_one : Shape → Shape → Bool
are_one a b =
    a.n == b.n && (a.width == b.width && (a.height == b.height && (a.depth == b.depth
    && (a.symmetry == b.symmetry && (beq a.wrap_in b.wrap_in && beq a.wrap_out b.wrap_out)))))

-- behind the shape comes the proof
abbrev pub after_shape : Shape → ℕ → Result Shape LineFault → Result Stage CheckFault
after_shape shape number (Ok found) = if are_one found shape then Ok (Proving Two) else Err (OptionsDiffer found)
after_shape shape number (Err fault) = Err (BadLine number)

-- ---- the lines of a proof

-- where a line of the proof leads, if it is right there
abbrev pub place_after_step : ℕ → Format → Result Point Reject → Result TextPlace CheckFault
place_after_step number format (Ok point) = Ok (staged_place (Proving format) point)
place_after_step number format (Err reject) = Err (Rejected number reject)

-- where a line of the proof leads, or the fault of bytes that are no line
abbrev pub place_after_line : Network → ℕ → Format → Point → Result Line LineFault → Result TextPlace CheckFault
place_after_line P number format point (Ok line) = place_after_step number format (line_step P point line)
place_after_line P number format point (Err fault) = Err (BadLine number)

-- where the bytes of a line lead, or their fault
abbrev pub place_after_bytes : Network → ℕ → Format → Point → List ℕ → Result TextPlace CheckFault
place_after_bytes P number format point line = place_after_line P number format point (line_in format line)

-- the place among the lines of the proof, in this format
abbrev pub proving_place : Format → Point → TextPlace
proving_place format point = staged_place (Proving format) point

-- ---- any line

-- a line of a head leaves the proof where it is
abbrev pub at_point : Point → Result Stage CheckFault → Result TextPlace CheckFault
at_point point (Ok stage) = Ok (staged_place stage point)
at_point point (Err fault) = Err fault

-- where a line of this number leads from each stage
abbrev pub stage_answer : Network → Shape → ℕ → Stage → Point → List ℕ → Result TextPlace CheckFault
stage_answer P shape number First point line = at_point point (after_first number (format_of line))
stage_answer P shape number (Numbering format) point line = at_point point (after_numbers P format number (head_numbers line))
stage_answer P shape number Shaping point line = at_point point (after_shape shape number (shape_of line))
stage_answer P shape number (Proving format) point line = place_after_line P number format point (line_in format line)

-- where a line leads, unless it is too long
abbrev pub line_led : Network → Shape → ℕ → TextPlace → List ℕ → Result TextPlace CheckFault
line_led P shape number at line =
    if nat_lt MAX_LINE_BYTES (length line) then Err (BadLine number)
    else stage_answer P shape number at.stage at.point line

-- the answer is the one wanted: the place where a line leads, or its fault
abbrev pub Leads : {T : Type 0} → Result TextPlace CheckFault → TextPlace → Result T CheckFault → Type 0
Leads wanted new result = MatchResult result (λ _. wanted ≡ Ok new) (λ fault. wanted ≡ Err fault)

-- the answer is the one wanted: the stage behind a line, with the proof at this point, or the line's fault
abbrev pub IsStaged : Result TextPlace CheckFault → Point → Result Stage CheckFault → Type 0
IsStaged wanted point result =
    MatchResult result (λ next. wanted ≡ Ok (staged_place next point)) (λ fault. wanted ≡ Err fault)

-- ---- the end of a text

-- the text ends where the proof has come so far
abbrev pub ended_at : Progress → Result (Unit {0}) CheckFault
ended_at Going = Err NotEnded
ended_at Closed = Err NotEnded
ended_at Ended = Ok tt

-- the text ends before a line of this number
abbrev pub ended_before : ℕ → Stage → Point → Result (Unit {0}) CheckFault
ended_before number First point = Err (BadLine number)
ended_before number (Numbering format) point = Err NotEnded
ended_before number Shaping point = Err NotEnded
ended_before number (Proving format) point = ended_at (progress_of point)

-- the text ends behind these bytes, which have no line's end
abbrev pub answer_at_end : ℕ → TextPlace → List ℕ → Result (Unit {0}) CheckFault
answer_at_end number at [] = ended_before number at.stage at.point
answer_at_end number at (byte ∷ line) = Err (BadLine number)

-- no more may be read behind these bytes, which may still become a line if they aren't too many
abbrev pub answer_at_limit : ℕ → List ℕ → Result (Unit {0}) CheckFault
answer_at_limit number line = if nat_lt MAX_LINE_BYTES (length line) then Err (BadLine number) else Err TooLong

-- the answer behind a last part without a line's end: where the text goes on but no more may be read, or where it ends
abbrev pub answer_behind : Bool → ℕ → TextPlace → List ℕ → Result (Unit {0}) CheckFault
answer_behind true number at line = answer_at_limit number line
answer_behind false number at line = answer_at_end number at line

-- ---- the whole text

-- and so on from where a line led, unless it is at fault
abbrev pub and_read : Result TextPlace CheckFault → (TextPlace → Result (Unit {0}) CheckFault) → Result (Unit {0}) CheckFault
and_read (Ok at) go_on = go_on at
and_read (Err fault) go_on = Err fault

-- the answer to the parts between line feeds, of which the first has this number, where the text
-- goes on behind them or ends
abbrev pub answer_to_parts : Network → Shape → Bool → ℕ → TextPlace → List (List ℕ) → Result (Unit {0}) CheckFault
answer_to_parts P shape over number at [] = Err (BadLine number)
answer_to_parts P shape over number at (last ∷ []) = answer_behind over number at last
answer_to_parts P shape over number at (line ∷ next ∷ parts) =
    and_read (line_led P shape number at line)
    (λ after. answer_to_parts P shape over (number + 1) after (next ∷ parts))

-- the answer to what is left of a text, of which so many bytes may be read
abbrev pub answer_from : Network → Shape → ℕ → ℕ → TextPlace → List ℕ → Result (Unit {0}) CheckFault
answer_from P shape most number at text =
    answer_to_parts P shape (nat_lt most (length text)) number at
    (slice_split is_line_feed (take most text))

-- the answer to a whole text: it is accepted, or its first line at fault is named, or it is too long
unfoldable pub checked : Network → Shape → List ℕ → Result (Unit {0}) CheckFault
checked P shape text = answer_from P shape MAX_REFUTATION_BYTES 1 (at_start P) text

-- the text of a proof, which isn't too long
pub record IsRefutation (P : Network) (shape : Shape) (text : List ℕ) : Type 0 where
  pub within : length text ≤ MAX_REFUTATION_BYTES
  pub is : IsProofText P shape text

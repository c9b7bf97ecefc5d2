-- The first line at fault: the lines before it are right, and those up to it are answered its fault.
use Rattle.std.proofs.Common.{◌≡◌, ℕ, zero, suc, ◌+◌, ◌-◌, ◌<◌, ◌≤◌, nat_lt, Bool, true, false, cond, List, [], ◌∷◌, length, None, Some, Result, Ok, Err, refl, sym, ap, ◌∙◌, subst, arith, ◌⊎◌, inl, inr}
use Rattle.std.specs.Prelude.{⊤}
use Rattle.std.specs.List.{slice_split, onto_first}
use Rattle.std.proofs.lemmas.List.Splits.{length-slice_split}
use Rattle.wfc_text.specs.Line.{is_line_feed}
use Rattle.wfc_problem.specs.Network.{Network}
use Rattle.wfc_proof.specs.Checker.{Point, line_step}
use Rattle.wfc_proof.specs.Heads.{format_of, head_numbers, shape_of}
use Rattle.wfc_proof.specs.declared.Line.{Line}
use Rattle.wfc_proof.specs.declared.Reject.{Reject}
use Rattle.wfc_proof.specs.declared.heads.Format.{Format}
use Rattle.wfc_proof.specs.declared.heads.Format.TheVariants.{One, Two}
use Rattle.wfc_proof.specs.declared.heads.HeadNumbers.{HeadNumbers}
use Rattle.wfc_proof.specs.declared.heads.Shape.{Shape}
use Rattle.wfc_proof.specs.declared.text.LineFault.{LineFault}
use Rattle.wfc_check.specs.Checker.{progress_of}
use Rattle.wfc_check.specs.Fronts.{first_lines, line_at_fault, IsAtFault}
use Rattle.wfc_check.specs.Text.{TextPlace, at_start, after_first, are_of_problem, behind_numbers, after_numbers, are_one, after_shape, line_in, place_after_step, place_after_line, at_point, stage_answer, line_led, ended_at, ended_before, answer_at_end, and_read, answer_to_parts, checked}
use Rattle.wfc_check.specs.declared.fault.CheckFault.{CheckFault}
use Rattle.wfc_check.specs.declared.fault.CheckFault.TheVariants.{BadLine, HeaderDiffers, NotEnded, OptionsDiffer}
use Rattle.wfc_check.specs.declared.progress.Progress.{Progress}
use Rattle.wfc_check.specs.declared.progress.Progress.TheVariants.{Going, Closed, Ended}
use Rattle.wfc_check.specs.declared.reading.Stage.{Stage}
use Rattle.wfc_check.specs.declared.reading.Stage.TheVariants.{First, Numbering, Shaping, Proving}
use Rattle.wfc_check.proofs.TextLemmas.{answer-cons, answer-within}

-- ---- the parts of the first lines

-- the parts of the first n lines: with a last one behind their ends
abbrev fronts : ℕ → List (List ℕ) → List (List ℕ)
fronts n [] = []
fronts zero (part ∷ parts) = [] ∷ []
fronts (suc n) (part ∷ []) = part ∷ []
fronts (suc n) (part ∷ next ∷ parts) = part ∷ fronts n (next ∷ parts)

fronts_some : (n : ℕ) (parts : List (List ℕ)) → 0 < length parts → 0 < length (fronts n parts)
fronts_some n [] some = some
fronts_some zero (part ∷ parts) some = omega arith
fronts_some (suc n) (part ∷ []) some = omega arith
fronts_some (suc n) (part ∷ next ∷ parts) some = omega arith

-- with a byte before the first part
fronts_onto : (byte n : ℕ) (parts : List (List ℕ)) → 0 < length parts → onto_first byte (fronts (suc n) parts) ≡ fronts (suc n) (onto_first byte parts)
fronts_onto byte n [] some = absurd (omega arith)
fronts_onto byte n (part ∷ []) some = refl
fronts_onto byte n (part ∷ next ∷ parts) some = refl

-- with a line before all parts
fronts_line : (n : ℕ) (parts : List (List ℕ)) → 0 < length parts → [] ∷ fronts n parts ≡ fronts (suc n) ([] ∷ parts)
fronts_line n [] some = absurd (omega arith)
fronts_line n (part ∷ parts) some = refl

-- none of them
fronts_none : (byte : ℕ) (parts : List (List ℕ)) → 0 < length parts → (test : Bool) → [] ∷ [] ≡ fronts zero (cond test ([] ∷ parts) (onto_first byte parts))
fronts_none byte [] some test = absurd (omega arith)
fronts_none byte (part ∷ parts) some true = refl
fronts_none byte (part ∷ parts) some false = refl

split_long : (text : List ℕ) → 0 < length (slice_split is_line_feed text)
split_long text = omega (arith, length-slice_split is_line_feed text)

split_fronts : (n : ℕ) (text : List ℕ) → slice_split is_line_feed (first_lines n text) ≡ fronts n (slice_split is_line_feed text)
split_fronts zero [] = refl
split_fronts (suc n) [] = refl
split_fronts zero (byte ∷ text) = fronts_none byte (slice_split is_line_feed text) (split_long text) (is_line_feed byte)
split_fronts (suc n) (byte ∷ text) = by (is_line_feed byte) (split_fronts n text) (split_fronts (suc n) text)
  where
    by : (test : Bool) → slice_split is_line_feed (first_lines n text) ≡ fronts n (slice_split is_line_feed text)
        → slice_split is_line_feed (first_lines (suc n) text) ≡ fronts (suc n) (slice_split is_line_feed text)
        → cond test ([] ∷ slice_split is_line_feed (cond test (first_lines n text) (first_lines (suc n) text))) (onto_first byte (slice_split is_line_feed (cond test (first_lines n text) (first_lines (suc n) text))))
        ≡ fronts (suc n) (cond test ([] ∷ slice_split is_line_feed text) (onto_first byte (slice_split is_line_feed text)))
    by true fewer all = ap (λ parts. [] ∷ parts) fewer ∙ fronts_line n (slice_split is_line_feed text) (split_long text)
    by false fewer all = ap (onto_first byte) all ∙ fronts_onto byte n (slice_split is_line_feed text) (split_long text)

first_lines-le : (n : ℕ) (text : List ℕ) → length (first_lines n text) ≤ length text
first_lines-le zero [] = omega arith
first_lines-le (suc n) [] = omega arith
first_lines-le zero (byte ∷ text) = omega arith
first_lines-le (suc n) (byte ∷ text) = by (is_line_feed byte) (first_lines-le n text) (first_lines-le (suc n) text)
  where
    by : (test : Bool) → length (first_lines n text) ≤ length text → length (first_lines (suc n) text) ≤ length text
        → length (byte ∷ cond test (first_lines n text) (first_lines (suc n) text)) ≤ length (byte ∷ text)
    by true fewer all = omega arith
    by false fewer all = omega arith

-- ---- where a line leads

-- the number that the next line has
abbrev FitsStage : ℕ → Stage → Type 0
FitsStage number First = number ≡ 1
FitsStage number (Numbering format) = number ≡ 2
FitsStage number Shaping = number ≡ 3
FitsStage number (Proving format) = ⊤

-- a line was read
abbrev IsBehindFirst : Stage → Type 0
IsBehindFirst First = ⊥
IsBehindFirst (Numbering format) = ⊤
IsBehindFirst Shaping = ⊤
IsBehindFirst (Proving format) = ⊤

-- behind a line of this number comes the next, or the fault is at it
abbrev LedFrom : ℕ → Result TextPlace CheckFault → Type 0
LedFrom number (Ok at) = FitsStage (number + 1) at.stage × IsBehindFirst at.stage
LedFrom number (Err fault) = line_at_fault fault ≡ Some number

first : (number : ℕ) (point : Point) (read : Result Format LineFault) → number ≡ 1 → LedFrom number (at_point point (after_first number read))
first number point (Ok format) fits = (omega arith, tt)
first number point (Err fault) fits = refl

numbers : (P : Network) (format : Format) (number : ℕ) (point : Point) (read : Result HeadNumbers LineFault) → number ≡ 2 → LedFrom number (at_point point (after_numbers P format number read))
numbers P format number point (Ok found) fits = by (are_of_problem P found) format
  where
    by : (test : Bool) (format : Format) → LedFrom number (at_point point (cond test (Ok (behind_numbers format)) (Err (HeaderDiffers found.cells found.values))))
    by true One = (tt, tt)
    by true Two = (omega arith, tt)
    by false format = ap (λ (n : ℕ). Some n) (sym fits)
numbers P format number point (Err fault) fits = refl

shapes : (shape : Shape) (number : ℕ) (point : Point) (read : Result Shape LineFault) → number ≡ 3 → LedFrom number (at_point point (after_shape shape number read))
shapes shape number point (Ok found) fits = by (are_one found shape)
  where
    by : (test : Bool) → LedFrom number (at_point point (cond test (Ok (Proving Two)) (Err (OptionsDiffer found))))
    by true = (tt, tt)
    by false = ap (λ (n : ℕ). Some n) (sym fits)
shapes shape number point (Err fault) fits = refl

steps : (number : ℕ) (format : Format) (led : Result Point Reject) → LedFrom number (place_after_step number format led)
steps number format (Ok point) = (tt, tt)
steps number format (Err reject) = refl

lines : (P : Network) (number : ℕ) (format : Format) (point : Point) (read : Result Line LineFault) → LedFrom number (place_after_line P number format point read)
lines P number format point (Ok line) = steps number format (line_step P point line)
lines P number format point (Err fault) = refl

stages : (P : Network) (shape : Shape) (number : ℕ) (stage : Stage) (point : Point) (line : List ℕ) → FitsStage number stage → LedFrom number (stage_answer P shape number stage point line)
stages P shape number First point line fits = first number point (format_of line) fits
stages P shape number (Numbering format) point line fits = numbers P format number point (head_numbers line) fits
stages P shape number Shaping point line fits = shapes shape number point (shape_of line) fits
stages P shape number (Proving format) point line fits = lines P number format point (line_in format line)

led : (P : Network) (shape : Shape) (number : ℕ) (at : TextPlace) (line : List ℕ) → FitsStage number at.stage → LedFrom number (line_led P shape number at line)
led P shape number at line fits = by (nat_lt 64 (length line))
  where
    by : (test : Bool) → LedFrom number (cond test (Err (BadLine number)) (stage_answer P shape number at.stage at.point line))
    by true = refl
    by false = stages P shape number at.stage at.point line fits

-- ---- the end

-- accepted, or not ended
abbrev IsRight : Result (Unit {0}) CheckFault → Type 0
IsRight answer = (answer ≡ Ok tt) ⊎ (answer ≡ Err NotEnded)

-- lines behind which none stands
end_right : (number : ℕ) (stage : Stage) (point : Point) → IsBehindFirst stage → IsRight (ended_before number stage point)
end_right number First point behind = absurd behind
end_right number (Numbering format) point behind = inr refl
end_right number Shaping point behind = inr refl
end_right number (Proving format) point behind = by (progress_of point)
  where
    by : (progress : Progress) → IsRight (ended_at progress)
    by Going = inr refl
    by Closed = inr refl
    by Ended = inl refl

-- the fault of a last line is at it
bad_line : (number k : ℕ) (fault : CheckFault) (answer : Result (Unit {0}) CheckFault) → answer ≡ Err (BadLine number) → answer ≡ Err fault → line_at_fault fault ≡ Some k → k ≡ number
bad_line number k fault answer bad is line =
    let same : fault ≡ BadLine number = cc in
    let both : Some k ≡ Some number = sym line ∙ ap line_at_fault same in
    cc

not_ended : (k : ℕ) (fault : CheckFault) (answer : Result (Unit {0}) CheckFault) → IsRight answer → answer ≡ Err fault → line_at_fault fault ≡ Some k → ⊥
not_ended k fault answer (inl done) is line = cc
not_ended k fault answer (inr open_still) is line =
    let same : fault ≡ NotEnded = cc in
    let none : Some k ≡ None = sym line ∙ ap line_at_fault same in
    cc

end_fault : (number k : ℕ) (at : TextPlace) (line : List ℕ) (fault : CheckFault) → answer_at_end number at line ≡ Err fault → line_at_fault fault ≡ Some k → k ≡ number
end_fault number k at (byte ∷ line) fault is at_line = bad_line number k fault (Err (BadLine number)) refl is at_line
end_fault number k at [] fault is at_line = by at.stage is
  where
    by : (stage : Stage) → ended_before number stage at.point ≡ Err fault → k ≡ number
    by First e = bad_line number k fault (Err (BadLine number)) refl e at_line
    by (Numbering format) e = absurd (not_ended k fault (Err NotEnded) (inr refl) e at_line)
    by Shaping e = absurd (not_ended k fault (Err NotEnded) (inr refl) e at_line)
    by (Proving format) e = absurd (not_ended k fault (ended_before number (Proving format) at.point) (end_right number (Proving format) at.point tt) e at_line)

-- ---- the first fault

-- the answer to parts
abbrev answer : Network → Shape → ℕ → TextPlace → List (List ℕ) → Result (Unit {0}) CheckFault
answer P shape number at parts = answer_to_parts P shape false number at parts

-- line k is the first at fault, where the first part is a line of this number
record IsFirstFault (P : Network) (shape : Shape) (number : ℕ) (at : TextPlace) (parts : List (List ℕ)) (fault : CheckFault) (k : ℕ) : Type 0 where
  pub low : number ≤ k
  pub here : answer P shape number at (fronts (suc (k - number)) parts) ≡ Err fault
  pub before : (n : ℕ) → number + n ≤ k → ((0 < n) ⊎ IsBehindFirst at.stage) → IsRight (answer P shape number at (fronts n parts))

-- no line before it was read
none_before : (P : Network) (shape : Shape) (number : ℕ) (at : TextPlace) (part : List ℕ) (parts : List (List ℕ)) (n : ℕ) → n ≡ 0 → ((0 < n) ⊎ IsBehindFirst at.stage)
    → IsRight (answer P shape number at (fronts n (part ∷ parts)))
none_before P shape number at part parts zero none (inl some) = absurd (omega arith)
none_before P shape number at part parts zero none (inr behind) = end_right number at.stage at.point behind
none_before P shape number at part parts (suc n) none from = absurd (omega arith)

first_fault : (P : Network) (shape : Shape) (number : ℕ) (at : TextPlace) (parts : List (List ℕ)) (fault : CheckFault) (k : ℕ) → FitsStage number at.stage → 0 < length parts
    → answer P shape number at parts ≡ Err fault → line_at_fault fault ≡ Some k → IsFirstFault P shape number at parts fault k
first_fault P shape number at [] fault k fits some is line = absurd (omega arith)
first_fault P shape number at (part ∷ []) fault k fits some is line =
    let same = end_fault number k at part fault is line in
    record {
      low = omega arith;
      here = is;
      before = λ n le from. none_before P shape number at part [] n (omega arith) from;
    }
first_fault P shape number at (part ∷ next ∷ parts) fault k fits some is line =
    by (line_led P shape number at part) refl (led P shape number at part fits)
    (λ after fitting rest. first_fault P shape (number + 1) after (next ∷ parts) fault k fitting (omega arith) rest line)
  where
    -- behind a line that is right
    led_on : (to : TextPlace) → line_led P shape number at part ≡ Ok to → (n : ℕ)
        → answer P shape number at (part ∷ fronts n (next ∷ parts)) ≡ answer P shape (number + 1) to (fronts n (next ∷ parts))
    led_on to e n =
        answer-cons P shape false number at part (fronts n (next ∷ parts)) (fronts_some n (next ∷ parts) (omega arith))
        ∙ ap (λ r. and_read r (λ x. answer P shape (number + 1) x (fronts n (next ∷ parts)))) e

    earlier : (to : TextPlace) → line_led P shape number at part ≡ Ok to → IsBehindFirst to.stage
        → ((n : ℕ) → number + 1 + n ≤ k → ((0 < n) ⊎ IsBehindFirst to.stage) → IsRight (answer P shape (number + 1) to (fronts n (next ∷ parts))))
        → (n : ℕ) → number + n ≤ k → ((0 < n) ⊎ IsBehindFirst at.stage) → IsRight (answer P shape number at (fronts n (part ∷ next ∷ parts)))
    earlier to e read before zero le from = none_before P shape number at part (next ∷ parts) zero refl from
    earlier to e read before (suc n) le from = subst IsRight (sym (led_on to e n)) (before n (omega arith) (inr read))

    by : (read : Result TextPlace CheckFault) → line_led P shape number at part ≡ read → LedFrom number read
        → ((after : TextPlace) → FitsStage (number + 1) after.stage → answer P shape (number + 1) after (next ∷ parts) ≡ Err fault → IsFirstFault P shape (number + 1) after (next ∷ parts) fault k)
        → IsFirstFault P shape number at (part ∷ next ∷ parts) fault k
    by (Err found) e at_line behind =
        let refused : Err found ≡ Err fault = sym (ap (λ r. and_read r (λ after. answer P shape (number + 1) after (next ∷ parts))) e) ∙ is in
        let same : found ≡ fault = cc in
        let both : Some k ≡ Some number = sym line ∙ ap line_at_fault (sym same) ∙ at_line in
        let number_is : k ≡ number = cc in
        let none : k - number ≡ 0 = omega arith in
        record {
          low = omega arith;
          here = ap (λ j. answer P shape number at (part ∷ fronts j (next ∷ parts))) none
              ∙ ap (λ r. and_read r (λ after. answer P shape (number + 1) after ([] ∷ []))) e ∙ refused;
          before = λ n le from. none_before P shape number at part (next ∷ parts) n (omega arith) from;
        }
    by (Ok after) e fitting behind =
        let goes_on : answer P shape (number + 1) after (next ∷ parts) ≡ Err fault = sym (ap (λ r. and_read r (λ x. answer P shape (number + 1) x (next ∷ parts))) e) ∙ is in
        let rest = behind after fitting.0 goes_on in
        let lower = rest.low in
        let one_less : k - number ≡ suc (k - (number + 1)) = omega arith in
        record {
          low = omega arith;
          here = ap (λ j. answer P shape number at (part ∷ fronts j (next ∷ parts))) one_less ∙ led_on after e (suc (k - (number + 1))) ∙ rest.here;
          before = earlier after e fitting.1 rest.before;
        }

-- ---- of a text

within_parts : (P : Network) (shape : Shape) (text : List ℕ) → length text ≤ 4294967296 → checked P shape text ≡ answer P shape 1 (at_start P) (slice_split is_line_feed text)
unfolding checked
within_parts P shape text within = answer-within P shape 4294967296 1 (at_start P) text within

front_parts : (P : Network) (shape : Shape) (n : ℕ) (text : List ℕ) → length text ≤ 4294967296
    → checked P shape (first_lines n text) ≡ answer P shape 1 (at_start P) (fronts n (slice_split is_line_feed text))
front_parts P shape n text within =
    within_parts P shape (first_lines n text) (omega (arith, first_lines-le n text))
    ∙ ap (answer P shape 1 (at_start P)) (split_fronts n text)

fault_is : (P : Network) (shape : Shape) (text : List ℕ) (fault : CheckFault) (k : ℕ) → IsAtFault P shape text fault k → IsFirstFault P shape 1 (at_start P) (slice_split is_line_feed text) fault k
fault_is P shape text fault k at =
    first_fault P shape 1 (at_start P) (slice_split is_line_feed text) fault k refl (split_long text) (sym (within_parts P shape text at.within) ∙ at.is) at.line

pub fault_here : (P : Network) (shape : Shape) (text : List ℕ) (fault : CheckFault) (k : ℕ) → IsAtFault P shape text fault k → checked P shape (first_lines k text) ≡ Err fault
fault_here P shape text fault k at =
    let first = fault_is P shape text fault k at in
    let low = first.low in
    let same : k ≡ suc (k - 1) = omega arith in
    front_parts P shape k text at.within ∙ ap (λ n. answer P shape 1 (at_start P) (fronts n (slice_split is_line_feed text))) same ∙ first.here

pub right_before : (P : Network) (shape : Shape) (text : List ℕ) (fault : CheckFault) (k n : ℕ) → IsAtFault P shape text fault k → 0 < n → n < k
    → (checked P shape (first_lines n text) ≡ Ok tt) ⊎ (checked P shape (first_lines n text) ≡ Err NotEnded)
right_before P shape text fault k n at some less =
    let first = fault_is P shape text fault k at in
    let right : IsRight (answer P shape 1 (at_start P) (fronts n (slice_split is_line_feed text))) = first.before n (omega arith) (inl some) in
    let P' : Result (Unit {0}) CheckFault → Type 0 = λ r. (r ≡ Ok tt) ⊎ (r ≡ Err NotEnded) in
    subst P' (sym (front_parts P shape n text at.within)) right

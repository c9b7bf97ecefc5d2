-- A text is accepted exactly where it is a refutation.
use Rattle.std.proofs.Common.{◌≡◌, ℕ, ◌+◌, ◌^◌, ◌<◌, ◌≤◌, nat_lt, nat_eq, Bool, true, false, cond, List, [], ◌∷◌, ◌++◌, length, take, Result, Ok, Err, refl, sym, ap, ◌∙◌, subst, arith, append_assoc, length-append}
use Rattle.std.specs.Bool.{beq}
use Rattle.std.specs.List.{slice_split, join_with_byte}
use Rattle.std.proofs.lemmas.Bool.{and_parts, and_from}
use Rattle.std.proofs.lemmas.Bool.Decides.{nat_tests}
use Rattle.std.proofs.lemmas.List.Splits.{join_with_byte-slice_split}
use Rattle.wfc_text.specs.Line.{is_line_feed}
use Rattle.wfc_problem.specs.Network.{Network, IsProblem, values, in_base}
use Rattle.wfc_proof.specs.Checker.{Point, and_on, line_step, line_steps}
use Rattle.wfc_proof.specs.Checker.Point.{going, closed, ended}
use Rattle.wfc_proof.specs.Heads.{format_of, format_text, head_numbers, numbers_text, shape_of, shape_text, IsShape}
use Rattle.wfc_proof.specs.ProofText.{IsOfFormat, AreOfFormat, head_in, IsProofText}
use Rattle.wfc_proof.specs.Telling.{text_of}
use Rattle.wfc_proof.specs.Text.{line_text}
use Rattle.wfc_proof.specs.declared.Line.{Line}
use Rattle.wfc_proof.specs.declared.Line.TheVariants.{End}
use Rattle.wfc_proof.specs.declared.Reject.{Reject}
use Rattle.wfc_proof.specs.declared.heads.Format.{Format}
use Rattle.wfc_proof.specs.declared.heads.Format.TheVariants.{One, Two}
use Rattle.wfc_proof.specs.declared.heads.HeadNumbers.{HeadNumbers}
use Rattle.wfc_proof.specs.declared.heads.Shape.{Shape}
use Rattle.wfc_proof.specs.declared.text.LineFault.{LineFault}
use Rattle.wfc_proof.proofs.Forests.{and_ok}
use Rattle.wfc_proof.proofs.ProofTextLemmas.{line_of-is, is-line_of, line_2_of-is, is-line_2_of, format_of-is, is-format_of, numbers_of-is, is-numbers_of, shape_of-is, is-shape_of, line_feedless, line_short, format_feedless, format_short, numbers_feedless, numbers_short, shape_feedless, shape_short}
use Rattle.wfc_check.specs.Checker.{progress_of, HasNone}
use Rattle.wfc_check.specs.Lines.{HasNoLineFeed}
use Rattle.wfc_check.specs.Text.{TextPlace, staged_place, at_start, after_first, are_of_problem, behind_numbers, after_numbers, are_one, after_shape, line_in, place_after_step, place_after_line, at_point, stage_answer, line_led, ended_at, and_read, answer_to_parts, answer_from, checked, IsRefutation}
use Rattle.wfc_check.specs.declared.fault.CheckFault.{CheckFault}
use Rattle.wfc_check.specs.declared.fault.CheckFault.TheVariants.{BadLine, HeaderDiffers, TooLong, OptionsDiffer}
use Rattle.wfc_check.specs.declared.reading.Stage.TheVariants.{First, Numbering, Shaping, Proving}
use Rattle.wfc_check.proofs.Proved.{ended_spells, spelled_none}
use Rattle.wfc_check.proofs.TextLemmas.{answer-feed, answer-within}

-- what goes on goes on from a place
and_read_ok : (read : Result TextPlace CheckFault) (next : TextPlace → Result (Unit {0}) CheckFault) → and_read read next ≡ Ok tt → (at : TextPlace) × (read ≡ Ok at) × (next at ≡ Ok tt)
and_read_ok (Ok at) next is = (at, refl, is)
and_read_ok (Err fault) next is = cc

-- a line that leads on isn't too long
led_staged : (P : Network) (shape : Shape) (number : ℕ) (at after : TextPlace) (line : List ℕ) → line_led P shape number at line ≡ Ok after → stage_answer P shape number at.stage at.point line ≡ Ok after
led_staged P shape number at after line is = by (nat_lt 64 (length line)) is
  where
    by : (test : Bool) → cond test (Err (BadLine number)) (stage_answer P shape number at.stage at.point line) ≡ Ok after → stage_answer P shape number at.stage at.point line ≡ Ok after
    by true is = cc
    by false is = is

-- ---- accepted texts are refutations

-- a line that leads on from a stage
record FirstLine (point : Point) (line : List ℕ) (after : TextPlace) : Type 0 where
  format : Format
  at : after ≡ staged_place (Numbering format) point
  text : line ≡ format_text format

first_line : (P : Network) (shape : Shape) (number : ℕ) (point : Point) (line : List ℕ) (after : TextPlace) → stage_answer P shape number First point line ≡ Ok after → FirstLine point line after
first_line P shape number point line after is = by (format_of line) refl is
  where
    by : (read : Result Format LineFault) → format_of line ≡ read → at_point point (after_first number read) ≡ Ok after → FirstLine point line after
    by (Ok format) e is = record { format = format; at = (let same : after ≡ staged_place (Numbering format) point = cc in same); text = format_of-is line format e }
    by (Err fault) e is = cc

-- numbers that pass are the problem's
passed : (P : Network) (numbers : HeadNumbers) → are_of_problem P numbers ≡ true → (numbers.cells ≡ P.cells) × (numbers.values ≡ values P)
passed P numbers is =
    let parts = and_parts (nat_eq numbers.cells P.cells) (nat_eq numbers.values (values P)) is in
    (grind (arith, nat_tests, parts.0), grind (arith, nat_tests, parts.1))

numbers_line : (P : Network) (shape : Shape) (number : ℕ) (format : Format) (point : Point) (line : List ℕ) (after : TextPlace) → stage_answer P shape number (Numbering format) point line ≡ Ok after
    → (after ≡ staged_place (behind_numbers format) point) × (line ≡ numbers_text P.cells (values P))
numbers_line P shape number format point line after is = by (head_numbers line) refl is
  where
    test : (numbers : HeadNumbers) (b : Bool) → are_of_problem P numbers ≡ b → head_numbers line ≡ Ok numbers
        → at_point point (cond b (Ok (behind_numbers format)) (Err (HeaderDiffers numbers.cells numbers.values))) ≡ Ok after
        → (after ≡ staged_place (behind_numbers format) point) × (line ≡ numbers_text P.cells (values P))
    test numbers true was e is =
        let same = passed P numbers was in
        let to : after ≡ staged_place (behind_numbers format) point = cc in
        (to, (numbers_of-is line numbers e).0 ∙ (λ i. numbers_text (same.0 i) (same.1 i)))
    test numbers false was e is = cc

    by : (read : Result HeadNumbers LineFault) → head_numbers line ≡ read → at_point point (after_numbers P format number read) ≡ Ok after
        → (after ≡ staged_place (behind_numbers format) point) × (line ≡ numbers_text P.cells (values P))
    by (Ok numbers) e is = test numbers (are_of_problem P numbers) refl e is
    by (Err fault) e is = cc

-- truth values that pass are the same
same_truth : (a b : Bool) → beq a b ≡ true → a ≡ b
same_truth true true is = refl
same_truth false false is = refl
same_truth true false is = cc
same_truth false true is = cc

same_number : (a b : ℕ) → nat_eq a b ≡ true → a ≡ b
same_number a b is = grind (arith, nat_tests)

-- shapes that pass are one
one_shape : (a b : Shape) → are_one a b ≡ true → a ≡ b
one_shape a b is =
    let n = and_parts _ _ is in
    let width = and_parts _ _ n.1 in
    let height = and_parts _ _ width.1 in
    let depth = and_parts _ _ height.1 in
    let symmetry = and_parts _ _ depth.1 in
    let wraps = and_parts _ _ symmetry.1 in
    λ i. record {
      n = same_number a.n b.n n.0 i;
      width = same_number a.width b.width width.0 i;
      height = same_number a.height b.height height.0 i;
      depth = same_number a.depth b.depth depth.0 i;
      symmetry = same_number a.symmetry b.symmetry symmetry.0 i;
      wrap_in = same_truth a.wrap_in b.wrap_in wraps.0 i;
      wrap_out = same_truth a.wrap_out b.wrap_out wraps.1 i;
    }

shape_line : (P : Network) (shape : Shape) (number : ℕ) (point : Point) (line : List ℕ) (after : TextPlace) → stage_answer P shape number Shaping point line ≡ Ok after
    → (after ≡ staged_place (Proving Two) point) × (line ≡ shape_text shape)
shape_line P shape number point line after is = by (shape_of line) refl is
  where
    test : (found : Shape) (b : Bool) → are_one found shape ≡ b → shape_of line ≡ Ok found → at_point point (cond b (Ok (Proving Two)) (Err (OptionsDiffer found))) ≡ Ok after
        → (after ≡ staged_place (Proving Two) point) × (line ≡ shape_text shape)
    test found true was e is =
        let to : after ≡ staged_place (Proving Two) point = cc in
        (to, (shape_of-is line found e).0 ∙ ap shape_text (one_shape found shape was))
    test found false was e is = cc

    by : (read : Result Shape LineFault) → shape_of line ≡ read → at_point point (after_shape shape number read) ≡ Ok after → (after ≡ staged_place (Proving Two) point) × (line ≡ shape_text shape)
    by (Ok found) e is = test found (are_one found shape) refl e is
    by (Err fault) e is = cc

-- a line that is read in the format is the text of one of the format
line_read : (format : Format) (bytes : List ℕ) (line : Line) → line_in format bytes ≡ Ok line → (bytes ≡ line_text line) × IsOfFormat format line
line_read One bytes line is = line_of-is bytes line is
line_read Two bytes line is = line_2_of-is bytes line is

record ProofLine (P : Network) (format : Format) (point : Point) (bytes : List ℕ) (after : TextPlace) : Type 0 where
  line : Line
  next : Point
  at : after ≡ staged_place (Proving format) next
  text : bytes ≡ line_text line
  formed : IsOfFormat format line
  led : line_step P point line ≡ Ok next

proof_line : (P : Network) (shape : Shape) (number : ℕ) (format : Format) (point : Point) (bytes : List ℕ) (after : TextPlace) → stage_answer P shape number (Proving format) point bytes ≡ Ok after
    → ProofLine P format point bytes after
proof_line P shape number format point bytes after is = by (line_in format bytes) refl is
  where
    step : (line : Line) (led : Result Point Reject) → line_in format bytes ≡ Ok line → line_step P point line ≡ led → place_after_step number format led ≡ Ok after → ProofLine P format point bytes after
    step line (Ok next) e led is =
        let read = line_read format bytes line e in
        record { line = line; next = next; at = (let same : after ≡ staged_place (Proving format) next = cc in same); text = read.0; formed = read.1; led = led }
    step line (Err reject) e led is = cc

    by : (read : Result Line LineFault) → line_in format bytes ≡ read → place_after_line P number format point read ≡ Ok after → ProofLine P format point bytes after
    by (Ok line) e is = step line (line_step P point line) e refl is
    by (Err fault) e is = cc

-- the parts are the texts of lines of the format, which lead to the end
record AreAccepted (P : Network) (format : Format) (point : Point) (parts : List (List ℕ)) : Type 0 where
  lines : List Line
  text : join_with_byte 10 parts ≡ text_of lines
  formed : AreOfFormat format lines
  led : line_steps P point lines ≡ Ok ended

-- the end is where the proof ended
ended_only : (point : Point) → ended_at (progress_of point) ≡ Ok tt → point ≡ ended
ended_only (going D waiting) is = cc
ended_only closed is = cc
ended_only ended is = refl

-- a line of the format before others
text_before : (bytes text : List ℕ) (line : Line) (lines : List Line) → bytes ≡ line_text line → text ≡ text_of lines → bytes ++ 10 ∷ text ≡ text_of (line ∷ lines)
text_before bytes text line lines one others = (λ i. one i ++ 10 ∷ others i) ∙ sym (append_assoc (line_text line) (10 ∷ []) (text_of lines))

steps_before : (P : Network) (point next : Point) (line : Line) (lines : List Line) (last : Point) → line_step P point line ≡ Ok next → line_steps P next lines ≡ Ok last → line_steps P point (line ∷ lines) ≡ Ok last
steps_before P point next line lines last one others = ap (λ (led : Result Point Reject). and_on led (λ q. line_steps P q lines)) one ∙ others

accepted : (P : Network) (shape : Shape) (format : Format) (number : ℕ) (point : Point) (parts : List (List ℕ)) → answer_to_parts P shape false number (staged_place (Proving format) point) parts ≡ Ok tt
    → AreAccepted P format point parts
accepted P shape format number point [] is = cc
accepted P shape format number point ([] ∷ []) is = record { lines = []; text = refl; formed = tt; led = ap (λ (q : Point). Ok q) (ended_only point is) }
accepted P shape format number point ((byte ∷ last) ∷ []) is = cc
accepted P shape format number point (bytes ∷ next ∷ parts) is =
    let at = staged_place (Proving format) point in
    let on = and_read_ok (line_led P shape number at bytes) (λ after. answer_to_parts P shape false (number + 1) after (next ∷ parts)) is in
    let one = proof_line P shape number format point bytes on.0 (led_staged P shape number at on.0 bytes on.1) in
    let rest = accepted P shape format (number + 1) one.next (next ∷ parts)
    (ap (λ after. answer_to_parts P shape false (number + 1) after (next ∷ parts)) (sym one.at) ∙ on.2) in
    record {
      lines = one.line ∷ rest.lines;
      text = text_before bytes (join_with_byte 10 (next ∷ parts)) one.line rest.lines one.text rest.text;
      formed = (one.formed, rest.formed);
      led = steps_before P point one.next one.line rest.lines ended one.led rest.led;
    }

-- what is behind a line of a head
record Behind (P : Network) (shape : Shape) (at : TextPlace) (number : ℕ) (line : List ℕ) (parts : List (List ℕ)) : Type 0 where
  after : TextPlace
  others : List (List ℕ)
  are : join_with_byte 10 parts ≡ line ++ 10 ∷ join_with_byte 10 others
  led : stage_answer P shape number at.stage at.point line ≡ Ok after
  rest : answer_to_parts P shape false (number + 1) after others ≡ Ok tt

-- the parts at a place where no text may end have a line
record HasLine (P : Network) (shape : Shape) (at : TextPlace) (number : ℕ) (parts : List (List ℕ)) : Type 0 where
  line : List ℕ
  behind : Behind P shape at number line parts

has_line : (P : Network) (shape : Shape) (number : ℕ) (at : TextPlace) (parts : List (List ℕ)) → (answer_to_parts P shape false number at ([] ∷ []) ≡ Ok tt → ⊥)
    → answer_to_parts P shape false number at parts ≡ Ok tt → HasLine P shape at number parts
has_line P shape number at [] no_end is = cc
has_line P shape number at ([] ∷ []) no_end is = absurd (no_end is)
has_line P shape number at ((byte ∷ last) ∷ []) no_end is = cc
has_line P shape number at (line ∷ next ∷ parts) no_end is =
    let on = and_read_ok (line_led P shape number at line) (λ after. answer_to_parts P shape false (number + 1) after (next ∷ parts)) is in
    record { line = line; behind = record { after = on.0; others = next ∷ parts; are = refl; led = led_staged P shape number at on.0 line on.1; rest = on.2 } }

-- lines before others, all of the format
formed_front : (format : Format) (before after : List Line) → AreOfFormat format (before ++ after) → AreOfFormat format before
formed_front format [] after formed = tt
formed_front format (line ∷ before) after formed = (formed.0, formed_front format before after formed.1)

-- lines behind a head that lead to the end
ended_text : (P : Network) → IsProblem P → (shape : Shape) (format : Format) (text : List ℕ) (lines : List Line) → text ≡ head_in format P shape ++ text_of lines → AreOfFormat format lines
    → line_steps P (going (in_base P) []) lines ≡ Ok ended → IsProofText P shape text
ended_text P p shape format text lines is formed led =
    let spelled = (ended_spells P p lines).0 led in
    record {
      format = format;
      proof = spelled.proof;
      is = record {
        closes = spelled.closes;
        lines = spelled.before;
        formed = formed_front format spelled.before (End ∷ []) (subst (AreOfFormat format) spelled.last formed);
        spells = spelled.spells;
        text = is ∙ ap (λ ls. head_in format P shape ++ text_of ls) spelled.last;
      };
    }

two_lines : (a b text : List ℕ) → a ++ 10 ∷ (b ++ 10 ∷ text) ≡ ((a ++ 10 ∷ []) ++ (b ++ 10 ∷ [])) ++ text
two_lines a b text = sym (simp append_assoc)

three_lines : (a b c text : List ℕ) → a ++ 10 ∷ (b ++ 10 ∷ (c ++ 10 ∷ text)) ≡ ((a ++ 10 ∷ []) ++ ((b ++ 10 ∷ []) ++ (c ++ 10 ∷ []))) ++ text
three_lines a b c text = sym (simp append_assoc)

-- behind the numbers
behind_head : (P : Network) → IsProblem P → (shape : Shape) (format : Format) (text : List ℕ) (parts : List (List ℕ)) → text ≡ format_text format ++ 10 ∷ (numbers_text P.cells (values P) ++ 10 ∷ join_with_byte 10 parts)
    → answer_to_parts P shape false 3 (staged_place (behind_numbers format) (going (in_base P) [])) parts ≡ Ok tt → IsProofText P shape text
behind_head P p shape One text parts is answer =
    let all = accepted P shape One 3 (going (in_base P) []) parts answer in
    ended_text P p shape One text all.lines
    (is ∙ ap (λ t. format_text One ++ 10 ∷ (numbers_text P.cells (values P) ++ 10 ∷ t)) all.text ∙ two_lines (format_text One) (numbers_text P.cells (values P)) (text_of all.lines)) all.formed all.led
behind_head P p shape Two text parts is answer =
    let third = has_line P shape 3 (staged_place Shaping (going (in_base P) [])) parts (λ e. cc) answer in
    let shaped = shape_line P shape 3 (going (in_base P) []) third.line third.behind.after third.behind.led in
    let all = accepted P shape Two 4 (going (in_base P) []) third.behind.others
    (ap (λ after. answer_to_parts P shape false 4 after third.behind.others) (sym shaped.0) ∙ third.behind.rest) in
    ended_text P p shape Two text all.lines
    (is ∙ ap (λ t. format_text Two ++ 10 ∷ (numbers_text P.cells (values P) ++ 10 ∷ t)) (third.behind.are ∙ (λ i. shaped.1 i ++ 10 ∷ all.text i))
    ∙ three_lines (format_text Two) (numbers_text P.cells (values P)) (shape_text shape) (text_of all.lines)) all.formed all.led

-- all parts
parts_proof : (P : Network) → IsProblem P → (shape : Shape) (text : List ℕ) (parts : List (List ℕ)) → text ≡ join_with_byte 10 parts → answer_to_parts P shape false 1 (at_start P) parts ≡ Ok tt → IsProofText P shape text
parts_proof P p shape text parts is answer =
    let start = going (in_base P) [] in
    let one = has_line P shape 1 (at_start P) parts (λ e. cc) answer in
    let format = first_line P shape 1 start one.line one.behind.after one.behind.led in
    let two = has_line P shape 2 (staged_place (Numbering format.format) start) one.behind.others (λ e. cc)
    (ap (λ after. answer_to_parts P shape false 2 after one.behind.others) (sym format.at) ∙ one.behind.rest) in
    let numbers = numbers_line P shape 2 format.format start two.line two.behind.after two.behind.led in
    behind_head P p shape format.format text two.behind.others
    (is ∙ one.behind.are ∙ (λ i. format.text i ++ 10 ∷ two.behind.are i) ∙ ap (λ n. format_text format.format ++ 10 ∷ (n ++ 10 ∷ join_with_byte 10 two.behind.others)) numbers.1)
    (ap (λ after. answer_to_parts P shape false 3 after two.behind.others) (sym numbers.0) ∙ two.behind.rest)

-- where more may be read the text isn't accepted
limit_refused : (P : Network) (shape : Shape) (number : ℕ) (at : TextPlace) (parts : List (List ℕ)) → answer_to_parts P shape true number at parts ≡ Ok tt → ⊥
limit_refused P shape number at [] is = cc
limit_refused P shape number at (last ∷ []) is = by (nat_lt 64 (length last)) is
  where
    by : (test : Bool) → (let r : Result (Unit {0}) CheckFault = cond test (Err (BadLine number)) (Err TooLong) in r) ≡ Ok tt → ⊥
    by true is = cc
    by false is = cc
limit_refused P shape number at (line ∷ next ∷ parts) is =
    let on = and_read_ok (line_led P shape number at line) (λ after. answer_to_parts P shape true (number + 1) after (next ∷ parts)) is in
    limit_refused P shape (number + 1) on.0 (next ∷ parts) on.2

accepted_most : (P : Network) → IsProblem P → (shape : Shape) (most : ℕ) (text : List ℕ) → answer_from P shape most 1 (at_start P) text ≡ Ok tt → (length text ≤ most) × IsProofText P shape text
accepted_most P p shape most text is = by (nat_lt most (length text)) refl is
  where
    by : (over : Bool) → nat_lt most (length text) ≡ over → answer_to_parts P shape over 1 (at_start P) (slice_split is_line_feed (take most text)) ≡ Ok tt → (length text ≤ most) × IsProofText P shape text
    by true was is = absurd (limit_refused P shape 1 (at_start P) (slice_split is_line_feed (take most text)) is)
    by false was answer =
        let within : length text ≤ most = grind (arith, nat_tests, was) in (
          within,
          parts_proof P p shape text (slice_split is_line_feed text) (sym (join_with_byte-slice_split 10 text)) (sym (answer-within P shape most 1 (at_start P) text within) ∙ is),
        )

pub accepted_refutation : (P : Network) → IsProblem P → (shape : Shape) (text : List ℕ) → checked P shape text ≡ Ok tt → IsRefutation P shape text
unfolding checked
accepted_refutation P p shape text is = let all = accepted_most P p shape 4294967296 text is in record { within = all.0; is = all.1 }

-- ---- and refutations are accepted

read_back : (format : Format) (line : Line) → IsOfFormat format line → line_in format (line_text line) ≡ Ok line
read_back One line formed = is-line_of (line_text line) line refl formed
read_back Two line formed = is-line_2_of (line_text line) line refl formed

-- a line that isn't too long leads where its stage says
led_short : (P : Network) (shape : Shape) (number : ℕ) (at : TextPlace) (line : List ℕ) → length line ≤ 64 → line_led P shape number at line ≡ stage_answer P shape number at.stage at.point line
led_short P shape number at line short =
    let fits : nat_lt 64 (length line) ≡ false = grind (arith, nat_tests, short) in
    ap (λ test. cond test (Err (BadLine number)) (stage_answer P shape number at.stage at.point line)) fits

-- a line that leads on, and the answer to the rest
on_from : (P : Network) (shape : Shape) (number : ℕ) (at after : TextPlace) (line text : List ℕ) → length line ≤ 64 → HasNoLineFeed line → stage_answer P shape number at.stage at.point line ≡ Ok after
    → answer_from P shape (length text) (number + 1) after text ≡ Ok tt → answer_from P shape (length (line ++ 10 ∷ text)) number at (line ++ 10 ∷ text) ≡ Ok tt
on_from P shape number at after line text short plain led rest =
    let long : length (line ++ 10 ∷ text) ≡ length text + (length line + 1) = omega (arith, length-append line (10 ∷ text)) in
    ap (λ n. answer_from P shape n number at (line ++ 10 ∷ text)) long ∙ answer-feed P shape (length text) number at line text plain
    ∙ ap (λ (r : Result TextPlace CheckFault). and_read r (λ next. answer_from P shape (length text) (number + 1) next text)) (led_short P shape number at line short ∙ led) ∙ rest

lines_accepted : (P : Network) (shape : Shape) (format : Format) (number : ℕ) (point : Point) (lines : List Line) → AreOfFormat format lines → line_steps P point lines ≡ Ok ended
    → answer_from P shape (length (text_of lines)) number (staged_place (Proving format) point) (text_of lines) ≡ Ok tt
lines_accepted P shape format number point [] formed led =
    let same : point ≡ ended = cc in
    ap (λ q. answer_from P shape 0 number (staged_place (Proving format) q) []) same
lines_accepted P shape format number point (line ∷ lines) formed led =
    let on = and_ok (line_step P point line) (λ next. line_steps P next lines) ended led in
    let at = staged_place (Proving format) point in
    let text : text_of (line ∷ lines) ≡ line_text line ++ 10 ∷ text_of lines = append_assoc (line_text line) (10 ∷ []) (text_of lines) in
    let step : stage_answer P shape number (Proving format) point (line_text line) ≡ Ok (staged_place (Proving format) on.0) =
    ap (place_after_line P number format point) (read_back format line formed.0) ∙ ap (place_after_step number format) on.1 in
    ap (λ t. answer_from P shape (length t) number at t) text
    ∙ on_from P shape number at (staged_place (Proving format) on.0) (line_text line) (text_of lines) (line_short format line formed.0) (line_feedless format line formed.0) step
    (lines_accepted P shape format (number + 1) on.0 lines formed.1 on.2)

is_same : (n : ℕ) → nat_eq n n ≡ true
is_same n = grind (arith, nat_tests)

own_numbers : (P : Network) → are_of_problem P (record { cells = P.cells; values = values P }) ≡ true
own_numbers P = and_from _ _ (is_same P.cells) (is_same (values P))

own_truth : (b : Bool) → beq b b ≡ true
own_truth true = refl
own_truth false = refl

own_shape : (shape : Shape) → are_one shape shape ≡ true
own_shape shape =
    and_from _ _ (is_same shape.n) (and_from _ _ (is_same shape.width) (and_from _ _ (is_same shape.height) (and_from _ _ (is_same shape.depth)
    (and_from _ _ (is_same shape.symmetry) (and_from _ _ (own_truth shape.wrap_in) (own_truth shape.wrap_out))))))

-- the lines of a head lead on
format_led : (P : Network) (shape : Shape) (number : ℕ) (format : Format) (point : Point) → stage_answer P shape number First point (format_text format) ≡ Ok (staged_place (Numbering format) point)
format_led P shape number format point = ap (λ (read : Result Format LineFault). at_point point (after_first number read)) (is-format_of (format_text format) format refl)

numbers_led : (P : Network) (shape : Shape) (number : ℕ) (format : Format) (point : Point) → P.cells < 2 ^ 32 → values P < 2 ^ 32
    → stage_answer P shape number (Numbering format) point (numbers_text P.cells (values P)) ≡ Ok (staged_place (behind_numbers format) point)
numbers_led P shape number format point cells few =
    let own : HeadNumbers = record { cells = P.cells; values = values P } in
    ap (λ (read : Result HeadNumbers LineFault). at_point point (after_numbers P format number read)) (is-numbers_of (numbers_text P.cells (values P)) own refl (cells, few))
    ∙ ap (λ test. at_point point (cond test (Ok (behind_numbers format)) (Err (HeaderDiffers P.cells (values P))))) (own_numbers P)

shape_led : (P : Network) (shape : Shape) (number : ℕ) (point : Point) → IsShape shape → stage_answer P shape number Shaping point (shape_text shape) ≡ Ok (staged_place (Proving Two) point)
shape_led P shape number point keeps =
    ap (λ (read : Result Shape LineFault). at_point point (after_shape shape number read)) (is-shape_of (shape_text shape) shape refl keeps)
    ∙ ap (λ test. at_point point (cond test (Ok (Proving Two)) (Err (OptionsDiffer shape)))) (own_shape shape)

-- the first two lines of a head, and then the rest
head_accepted : (P : Network) → IsProblem P → (shape : Shape) (format : Format) (text : List ℕ) → answer_from P shape (length text) 3 (staged_place (behind_numbers format) (going (in_base P) [])) text ≡ Ok tt
    → (let all : List ℕ = format_text format ++ 10 ∷ (numbers_text P.cells (values P) ++ 10 ∷ text) in answer_from P shape (length all) 1 (at_start P) all ≡ Ok tt)
head_accepted P p shape format text rest =
    let start = going (in_base P) [] in
    let cells : P.cells < 2 ^ 32 = omega (arith, p.sized.few_cells) in
    let few : values P < 2 ^ 32 = omega (arith, p.sized.few_values) in
    let second = numbers_text P.cells (values P) in
    on_from P shape 1 (at_start P) (staged_place (Numbering format) start) (format_text format) (second ++ 10 ∷ text) (format_short format) (format_feedless format) (format_led P shape 1 format start)
    (on_from P shape 2 (staged_place (Numbering format) start) (staged_place (behind_numbers format) start) second text (numbers_short P.cells (values P) cells few) (numbers_feedless P.cells (values P) cells few)
    (numbers_led P shape 2 format start cells few) rest)

-- a whole text
text_accepted : (P : Network) → IsProblem P → (shape : Shape) → IsShape shape → (format : Format) (lines : List Line) → AreOfFormat format lines → line_steps P (going (in_base P) []) lines ≡ Ok ended
    → (let all : List ℕ = head_in format P shape ++ text_of lines in answer_from P shape (length all) 1 (at_start P) all ≡ Ok tt)
text_accepted P p shape keeps One lines formed led =
    ap (λ text. answer_from P shape (length text) 1 (at_start P) text) (sym (two_lines (format_text One) (numbers_text P.cells (values P)) (text_of lines)))
    ∙ head_accepted P p shape One (text_of lines) (lines_accepted P shape One 3 (going (in_base P) []) lines formed led)
text_accepted P p shape keeps Two lines formed led =
    let start = going (in_base P) [] in
    ap (λ text. answer_from P shape (length text) 1 (at_start P) text) (sym (three_lines (format_text Two) (numbers_text P.cells (values P)) (shape_text shape) (text_of lines)))
    ∙ head_accepted P p shape Two (shape_text shape ++ 10 ∷ text_of lines)
    (on_from P shape 3 (staged_place Shaping start) (staged_place (Proving Two) start) (shape_text shape) (text_of lines) (shape_short shape keeps) (shape_feedless shape keeps) (shape_led P shape 3 start keeps)
    (lines_accepted P shape Two 4 start lines formed led))

formed_all : (format : Format) (before : List Line) (last : Line) → AreOfFormat format before → IsOfFormat format last → AreOfFormat format (before ++ last ∷ [])
formed_all format [] last formed one = (one, tt)
formed_all format (line ∷ before) last formed one = (formed.0, formed_all format before last formed.1 one)

end_formed : (format : Format) → IsOfFormat format End
end_formed One = tt
end_formed Two = tt

pub refutation_accepted : (P : Network) → IsProblem P → (shape : Shape) → IsShape shape → (text : List ℕ) → IsRefutation P shape text → checked P shape text ≡ Ok tt
unfolding checked
refutation_accepted P p shape keeps text is =
    let of = is.is.is in
    let lines = of.lines ++ End ∷ [] in
    let led = (ended_spells P p lines).1 (record { before = of.lines; last = refl; proof = is.is.proof; closes = of.closes; spells = of.spells }) in
    answer-within P shape 4294967296 1 (at_start P) text is.within
    ∙ sym (answer-within P shape (length text) 1 (at_start P) text (omega arith))
    ∙ ap (λ t. answer_from P shape (length t) 1 (at_start P) t) of.text
    ∙ text_accepted P p shape keeps is.is.format lines (formed_all is.is.format of.lines End of.formed (end_formed is.is.format)) led

-- a refutation shows that there is no legal assignment
pub refutation_none : (P : Network) → IsProblem P → (shape : Shape) (text : List ℕ) → IsRefutation P shape text → HasNone P
refutation_none P p shape text is =
    let of = is.is in
    spelled_none P p (of.is.lines ++ End ∷ []) (record { before = of.is.lines; last = refl; proof = of.proof; closes = of.is.closes; spells = of.is.spells })

-- and so does a text that is accepted
pub accepted_none : (P : Network) → IsProblem P → (shape : Shape) (text : List ℕ) → checked P shape text ≡ Ok tt → HasNone P
accepted_none P p shape text is = refutation_none P p shape text (accepted_refutation P p shape text is)

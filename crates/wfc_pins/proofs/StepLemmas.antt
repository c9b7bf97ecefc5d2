-- The steps of a text, read line by line with a count of what stands.
use Rattle.std.proofs.Common.{◌≡◌, ℕ, ◌+◌, ◌≤◌, ◌==◌, Bool, true, false, not, List, [], ◌∷◌, ◌++◌, length, count_by, Option, Some, None, if◌then◌else◌, Result, Ok, Err, refl, sym, ap, ◌∙◌, subst, arith, add-zero, append_assoc, append-nil, eq-eqb}
use Rattle.std.proofs.lemmas.Bool.{ne_eqb}
use Rattle.std.proofs.lemmas.Bool.Decides.{nat_tests}
use Rattle.std.proofs.lemmas.List.Elements.{filter-append}
use Rattle.std.proofs.lemmas.List.Splits.{length-slice_split}
use Rattle.std.proofs.lemmas.List.Sums.{sum_by-append, count_by-le-length}
use Rattle.std.specs.List.{slice_split}
use Rattle.wfc_lists.specs.Counts.{one_if}
use Rattle.wfc_lists.proofs.Counts.{count_by-cons}
use Rattle.wfc_text.specs.Line.{LineView, is_line_feed, last_line, lines_of_parts, lines_of}
use Rattle.wfc_pins.specs.Words.{is_skipped, read_among}
use Rattle.wfc_pins.specs.declared.steps.Step.{Step}
use Rattle.wfc_pins.specs.declared.steps.Step.TheVariants.{Assume, Undo}
use Rattle.wfc_pins.specs.declared.steps.StepLine.{StepLine}
use Rattle.wfc_pins.specs.declared.steps.StepFault.{StepFault}
use Rattle.wfc_pins.specs.declared.steps.StepFault.TheVariants.{BadLine, NothingToUndo}
use Rattle.wfc_pins.specs.InOrder.{and_rest}
use Rattle.wfc_pins.specs.Steps.{step_of_line, is_assumption, is_undo, assumptions, undos, step_of, step_behind, steps_behind, steps_of, IsRightStep}
use Rattle.wfc_pins.proofs.InOrderLemmas.{behind, behind-and_rest, behind-none}

-- ---- how many lines there are

length-last_line : (n : ℕ) (text : List ℕ) → length (last_line n text) ≤ 1
length-last_line n [] = omega arith
length-last_line n (byte ∷ text) = omega arith

length-lines_of_parts : (n : ℕ) (parts : List (List ℕ)) → length (lines_of_parts n parts) ≤ length parts
length-lines_of_parts n [] = omega arith
length-lines_of_parts n (part ∷ []) = length-last_line n part
length-lines_of_parts n (part ∷ next ∷ parts) = omega (arith, length-lines_of_parts (n + 1) (next ∷ parts))

-- a text has at most one line more than bytes
pub length-lines_of : (text : List ℕ) → length (lines_of text) ≤ length text + 1
length-lines_of text = omega (arith, length-lines_of_parts 1 (slice_split is_line_feed text), length-slice_split is_line_feed text, count_by-le-length is_line_feed text)

-- ---- the lines that are read

-- one more line that is read
read-one : (line : LineView) (lines : List LineView) → is_skipped line.bytes ≡ false → read_among (line ∷ lines) ≡ line ∷ read_among lines
read-one line lines read = ap (λ b. if not b then line ∷ read_among lines else read_among lines) read

-- and behind others
pub read_more : (lines : List LineView) (line : LineView) → is_skipped line.bytes ≡ false → read_among (lines ++ line ∷ []) ≡ read_among lines ++ line ∷ []
read_more lines line read = filter-append (λ (l : LineView). not (is_skipped l.bytes)) lines (line ∷ []) ∙ ap (λ one. read_among lines ++ one) (read-one line [] read)

-- ---- one step

-- the words of a line with a step say this step
said_is : (n : ℕ) (spent : Bool) (o : Option Step) (step : StepLine) → step_of n spent o ≡ Ok step → o ≡ Some step.step
said_is n spent None step is = absurd (cc)
said_is n spent (Some (Assume literal)) step is = cc
said_is n true (Some Undo) step is = absurd (cc)
said_is n false (Some Undo) step is = cc

-- as many undo as assume exactly where none stands
spent_is : (standing u a : ℕ) → standing + u ≡ a → (standing == 0) ≡ (u == a)
spent_is standing u a level = grind (arith, nat_tests)

-- the step of a line, by the count of what stands
pub step_behind-by : (before : List LineView) (line : LineView) (standing : ℕ) → standing + undos before ≡ assumptions before → step_of line.number (standing == 0) (step_of_line line) ≡ step_behind before line
step_behind-by before line standing level = ap (λ spent. step_of line.number spent (step_of_line line)) (spent_is standing (undos before) (assumptions before) level)

-- how often a test passes with one more line behind
count-more : (p : LineView → Bool) (lines : List LineView) (line : LineView) → count_by p (lines ++ line ∷ []) ≡ count_by p lines + one_if (p line)
count-more p lines line = sum_by-append (λ l. one_if (p l)) lines (line ∷ []) ∙ ap (λ n. count_by p lines + n) (count_by-cons p line [] ∙ add-zero (one_if (p line)))

-- at most one more stands after a step
pub one_more : (undone made : Bool) (after standing : ℕ) → after + one_if undone ≡ standing + one_if made → after ≤ standing + 1
one_more undone true after standing is = omega arith
one_more undone false after standing is = omega arith

-- what stands after a step
pub level_after : (before : List LineView) (line : LineView) (standing after : ℕ) (step : StepLine) → standing + undos before ≡ assumptions before
    → step_of line.number (standing == 0) (step_of_line line) ≡ Ok step → after + one_if (is_undo (Some step.step)) ≡ standing + one_if (is_assumption (Some step.step))
    → after + undos (before ++ line ∷ []) ≡ assumptions (before ++ line ∷ [])
level_after before line standing after step level is counted =
    let says = said_is line.number (standing == 0) (step_of_line line) step is in
    let undone : undos (before ++ line ∷ []) ≡ undos before + one_if (is_undo (Some step.step)) = subst (λ o. undos (before ++ line ∷ []) ≡ undos before + one_if (is_undo o)) says (count-more (λ l. is_undo (step_of_line l)) before line) in
    let made : assumptions (before ++ line ∷ []) ≡ assumptions before + one_if (is_assumption (Some step.step)) = subst (λ o. assumptions (before ++ line ∷ []) ≡ assumptions before + one_if (is_assumption o)) says (count-more (λ l. is_assumption (step_of_line l)) before line) in
    omega arith

-- the steps that are left, with one more in front of them
pub steps_after : (steps : List StepLine) (before lines : List LineView) (line : LineView) (step : StepLine) → step_behind before line ≡ Ok step
    → behind steps (steps_behind before (line ∷ lines)) ≡ behind (steps ++ step ∷ []) (steps_behind (before ++ line ∷ []) lines)
steps_after steps before lines line step is =
    ap (λ answer. behind steps (and_rest answer (steps_behind (before ++ line ∷ []) lines))) is
    ∙ behind-and_rest steps step (steps_behind (before ++ line ∷ []) lines)

-- a fault ends them
pub steps_end : (steps : List StepLine) (before lines : List LineView) (line : LineView) (fault : StepFault) → step_behind before line ≡ Err fault
    → behind steps (steps_behind before (line ∷ lines)) ≡ Err fault
steps_end steps before lines line fault is = ap (λ answer. behind steps (and_rest answer (steps_behind (before ++ line ∷ []) lines))) is

-- ---- the loop

-- the whole answer is what is read so far and what is left, and the count says what stands
pub record IsReading (all : Result (List StepLine) StepFault) (read left : List LineView) (steps : List StepLine) (standing : ℕ) : Type 0 where
  pub whole : behind steps (steps_behind (read_among read) (read_among left)) ≡ all
  pub level : standing + undos (read_among read) ≡ assumptions (read_among read)

-- before the first line
pub reading_begins : (text : List ℕ) → IsReading (steps_of text) [] (lines_of text) [] 0
reading_begins text = record { whole = behind-none (steps_of text); level = refl }

-- after one more step
pub reading_on : (whole : Result (List StepLine) StepFault) (read left : List LineView) (steps : List StepLine) (standing after : ℕ) (line : LineView) (step : StepLine) → IsReading whole read (line ∷ left) steps standing
    → is_skipped line.bytes ≡ false → step_of line.number (standing == 0) (step_of_line line) ≡ Ok step
    → after + one_if (is_undo (Some step.step)) ≡ standing + one_if (is_assumption (Some step.step)) → IsReading whole (read ++ line ∷ []) left (steps ++ step ∷ []) after
reading_on whole read left steps standing after line step so_far skipped is counted =
    let more = read_more read line skipped in
    let same = sym (step_behind-by (read_among read) line standing so_far.level) ∙ is in
    record {
      whole = subst (λ before. behind (steps ++ step ∷ []) (steps_behind before (read_among left)) ≡ whole) (sym more)
          (sym (steps_after steps (read_among read) (read_among left) line step same)
          ∙ (ap (λ lines. behind steps (steps_behind (read_among read) lines)) (sym (read-one line left skipped)) ∙ so_far.whole));
      level = subst (λ before. after + undos before ≡ assumptions before) (sym more) (level_after (read_among read) line standing after step so_far.level is counted);
    }

-- at a fault
pub reading_ends : (whole : Result (List StepLine) StepFault) (read left : List LineView) (steps : List StepLine) (standing : ℕ) (line : LineView) (fault : StepFault) → IsReading whole read (line ∷ left) steps standing
    → is_skipped line.bytes ≡ false → step_of line.number (standing == 0) (step_of_line line) ≡ Err fault → Err fault ≡ whole
reading_ends whole read left steps standing line fault so_far skipped is =
    sym (steps_end steps (read_among read) (read_among left) line fault (sym (step_behind-by (read_among read) line standing so_far.level) ∙ is))
    ∙ (ap (λ lines. behind steps (steps_behind (read_among read) lines)) (sym (read-one line left skipped)) ∙ so_far.whole)

-- ---- lines behind others

-- what an answer and those behind it are made of, where there is no fault
both_ok : (answer : Result StepLine StepFault) (rest : Result (List StepLine) StepFault) (steps : List StepLine) → and_rest answer rest ≡ Ok steps
    → (step : StepLine) × (others : List StepLine) × (answer ≡ Ok step) × (rest ≡ Ok others) × (steps ≡ step ∷ others)
both_ok (Err fault) rest steps is = absurd (cc)
both_ok (Ok step) (Err fault) steps is = absurd (cc)
both_ok (Ok step) (Ok others) steps is = let same : steps ≡ step ∷ others = cc in (step, others, refl, refl, same)

-- two in front
behind-behind : (a b : List StepLine) (answers : Result (List StepLine) StepFault) → behind a (behind b answers) ≡ behind (a ++ b) answers
behind-behind a b (Ok xs) = ap Ok (sym (append_assoc a b xs))
behind-behind a b (Err fault) = refl

-- lines without a fault, and more behind them
pub steps_past : (front lines rest : List LineView) (steps : List StepLine) → steps_behind front lines ≡ Ok steps → steps_behind front (lines ++ rest) ≡ behind steps (steps_behind (front ++ lines) rest)
steps_past front [] rest steps is =
    let none : [] ≡ steps = cc in
    sym (ap (λ s. behind s (steps_behind (front ++ []) rest)) (sym none) ∙ behind-none (steps_behind (front ++ []) rest) ∙ ap (λ f. steps_behind f rest) (append-nil front))
steps_past front (line ∷ lines) rest steps is =
    let parts = both_ok (step_behind front line) (steps_behind (front ++ line ∷ []) lines) steps is in
    ap (λ answer. and_rest answer (steps_behind (front ++ line ∷ []) (lines ++ rest))) parts.2
    ∙ ap (λ answers. and_rest (Ok parts.0) answers) (steps_past (front ++ line ∷ []) lines rest parts.1 parts.3)
    ∙ behind-behind (parts.0 ∷ []) parts.1 (steps_behind ((front ++ line ∷ []) ++ lines) rest)
    ∙ ap (λ f. behind (parts.0 ∷ parts.1) (steps_behind f rest)) (append_assoc front (line ∷ []) lines)
    ∙ ap (λ s. behind s (steps_behind (front ++ line ∷ lines) rest)) (sym parts.4)

-- the first fault
pub fault_of_steps : (before : List LineView) (line : LineView) (after : List LineView) (steps : List StepLine) (fault : StepFault) → steps_behind [] before ≡ Ok steps → step_behind before line ≡ Err fault → steps_behind [] (before ++ line ∷ after) ≡ Err fault
fault_of_steps before line after steps fault right is = steps_past [] before (line ∷ after) steps right ∙ steps_end steps before after line fault is

-- a line that says nothing
pub bad_line : (before : List LineView) (line : LineView) → step_of_line line ≡ None → step_behind before line ≡ Err (BadLine line.number)
bad_line before line is = ap (step_of line.number (undos before == assumptions before)) is

-- an `undo` where nothing stands
pub nothing_to_undo : (before : List LineView) (line : LineView) → step_of_line line ≡ Some Undo → undos before ≡ assumptions before → step_behind before line ≡ Err (NothingToUndo line.number)
nothing_to_undo before line is level =
    ap (step_of line.number (undos before == assumptions before)) is ∙ ap (λ spent. step_of line.number spent (Some Undo)) (eq-eqb (undos before) (assumptions before) level)

-- a line that says a step, and isn't an `undo` where nothing stands
pub right_line : (before : List LineView) (line : LineView) (step : Step) → IsRightStep before line step → step_behind before line ≡ Ok record { line = line.number; step = step }
right_line before line (Assume literal) right = ap (step_of line.number (undos before == assumptions before)) right.0
right_line before line Undo right =
    ap (step_of line.number (undos before == assumptions before)) right.0
    ∙ ap (λ spent. step_of line.number spent (Some Undo)) (ne_eqb (undos before) (assumptions before) (λ level. right.1 (right.0, level)))

-- it is one step more behind those before it
pub one_step_more : (before : List LineView) (line : LineView) (steps : List StepLine) (step : StepLine) → steps_behind [] before ≡ Ok steps
    → step_behind before line ≡ Ok step → steps_behind [] (before ++ line ∷ []) ≡ Ok (steps ++ step ∷ [])
one_step_more before line steps step right is =
    steps_past [] before (line ∷ []) steps right ∙ steps_after steps before [] line step is ∙ ap Ok (append-nil (steps ++ step ∷ []))

-- How many steps a file has.
use Rattle.std.proofs.Common.{Err, List, Ok, Result, [], ap, arith, length, not, refl, sym, ℕ, ◌++◌, ◌+◌, ◌∷◌, ◌≡◌, ◌≤◌}
use Rattle.std.proofs.lemmas.List.Sums.{count_by-le-length, length-filter}
use Rattle.wfc_pins.proofs.StepLemmas.{length-lines_of}
use Rattle.wfc_pins.specs.InOrder.{and_rest}
use Rattle.wfc_pins.specs.Steps.{step_behind, steps_behind, steps_of}
use Rattle.wfc_pins.specs.Words.{is_skipped, read_lines}
use Rattle.wfc_pins.specs.declared.steps.StepFault.{StepFault}
use Rattle.wfc_pins.specs.declared.steps.StepLine.{StepLine}
use Rattle.wfc_text.specs.Line.{LineView, lines_of}

-- a step for each line
length-steps_behind : (before lines : List LineView) (steps : List StepLine) → steps_behind before lines ≡ Ok steps → length steps ≡ length lines
length-steps_behind before [] steps is = let same : [] ≡ steps = cc in sym (ap length same)
length-steps_behind before (line ∷ lines) steps is = by_first (step_behind before line) (steps_behind (before ++ line ∷ []) lines) (length-steps_behind (before ++ line ∷ []) lines) is
  where
    by_first : (first : Result StepLine StepFault) (rest : Result (List StepLine) StepFault) → ((steps : List StepLine) → rest ≡ Ok steps → length steps ≡ length lines) → and_rest first rest ≡ Ok steps
        → length steps ≡ length (line ∷ lines)
    by_first (Err fault) rest counted is = absurd (cc)
    by_first (Ok step) (Err fault) counted is = absurd (cc)
    by_first (Ok step) (Ok more) counted is = let same : (step ∷ more) ≡ steps = cc in omega (arith, counted more refl, ap length same)

-- a text has no more steps than one for each byte, and one
pub few_steps : (text : List ℕ) (steps : List StepLine) → steps_of text ≡ Ok steps → length steps ≤ length text + 1
few_steps text steps is =
    omega (arith, length-steps_behind [] (read_lines text) steps is, length-filter (λ (l : LineView). not (is_skipped l.bytes)) (lines_of text), count_by-le-length (λ (l : LineView). not (is_skipped l.bytes)) (lines_of text), length-lines_of text)

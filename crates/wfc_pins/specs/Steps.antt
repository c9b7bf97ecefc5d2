-- The steps that a text writes, a line each, and whether they fit a problem.
use Rattle.std.specs.Prelude.{◌≡◌, ℕ, ◌==◌, ◌&&◌, ◌++◌, nat_lt, Bool, true, false, not, List, [], ◌∷◌, count_by, Option}
use Rattle.std.specs.Prelude.{None, Some, Result, Ok, Err, codes, if◌then◌else◌}
use Rattle.std.specs.List.{find}
use Rattle.std.specs.Option.{option_map}
use Rattle.std.specs.Str.{bytes_eq}
use Rattle.wfc_text.specs.Line.{LineView}
use Rattle.wfc_problem.specs.Domains.{IsLiteralIn}
use Rattle.wfc_problem.specs.Network.{Network, values}
use Rattle.wfc_problem.specs.declared.Literal.TheVariants.{Is, Not}
use Rattle.wfc_pins.specs.InOrder.{IsFirstWith, and_rest}
use Rattle.wfc_pins.specs.Words.{words_of, read_lines, number32, number16}
use Rattle.wfc_pins.specs.declared.steps.Step.{Step}
use Rattle.wfc_pins.specs.declared.steps.Step.TheVariants.{Assume, Undo}
use Rattle.wfc_pins.specs.declared.steps.StepLine.{StepLine}
use Rattle.wfc_pins.specs.declared.steps.StepFault.{StepFault}
use Rattle.wfc_pins.specs.declared.steps.StepFault.TheVariants.{BadLine, NothingToUndo}
use Rattle.wfc_pins.specs.declared.steps.RangeFault.{RangeFault}
use Rattle.wfc_pins.specs.declared.steps.RangeFault.TheVariants.{OutOfRange}

-- what is assumed of a cell and a value, if both are there: `choose` says that the cell has it,
-- `forbid` that it doesn't
abbrev pub assumed_step : List ℕ → Option ℕ → Option ℕ → Option Step
assumed_step word (Some cell) (Some value) =
    if bytes_eq word (codes "choose") then Some (Assume (Is value cell))
    else (if bytes_eq word (codes "forbid") then Some (Assume (Not value cell)) else None)
assumed_step word _ _ = None

-- what the words of a line say: `choose` or `forbid`, a cell and a value; or `undo` alone
abbrev pub step_of_words : List (List ℕ) → Option Step
step_of_words (word ∷ []) = if bytes_eq word (codes "undo") then Some Undo else None
step_of_words (word ∷ cell ∷ value ∷ []) = assumed_step word (number32 cell) (number16 value)
step_of_words _ = None

-- the same of a line
abbrev pub step_of_line : LineView → Option Step
step_of_line line = step_of_words (words_of line.bytes)

-- whether a line assumes
abbrev pub is_assumption : Option Step → Bool
is_assumption (Some (Assume literal)) = true
is_assumption _ = false

-- whether a line takes an assumption back
abbrev pub is_undo : Option Step → Bool
is_undo (Some Undo) = true
is_undo _ = false

-- how many lines assume
abbrev pub assumptions : List LineView → ℕ
assumptions lines = count_by (λ line. is_assumption (step_of_line line)) lines

-- how many lines take an assumption back
abbrev pub undos : List LineView → ℕ
undos lines = count_by (λ line. is_undo (step_of_line line)) lines

-- the step of a line, or its fault: it says no step, or it is an `undo` where nothing stands to be undone
abbrev pub step_of : ℕ → Bool → Option Step → Result StepLine StepFault
step_of line spent None = Err (BadLine line)
step_of line spent (Some (Assume literal)) = Ok record { line = line; step = Assume literal }
step_of line spent (Some Undo) = if spent then Err (NothingToUndo line) else Ok record { line = line; step = Undo }

-- nothing stands to be undone where as many lines before undo as assume
abbrev pub step_behind : List LineView → LineView → Result StepLine StepFault
step_behind before line = step_of line.number (undos before == assumptions before) (step_of_line line)

-- the steps of lines behind others, or the first fault
abbrev pub steps_behind : List LineView → List LineView → Result (List StepLine) StepFault
steps_behind before [] = Ok []
steps_behind before (line ∷ lines) = and_rest (step_behind before line) (steps_behind (before ++ line ∷ []) lines)

-- lines say these steps, and none of them is at fault
abbrev pub AreSteps : List LineView → List StepLine → Type 0
AreSteps lines steps = steps_behind [] lines ≡ Ok steps

-- of these lines the one in the middle is the first at fault: it says no step
abbrev pub IsNoStep : List LineView → LineView → List LineView → Type 0
IsNoStep before line after = steps_behind [] (before ++ line ∷ after) ≡ Err (BadLine line.number)

-- a line undoes, behind as many lines that undo as assume
abbrev pub IsSpentUndo : List LineView → LineView → Type 0
IsSpentUndo before line = (step_of_line line ≡ Some Undo) × (undos before ≡ assumptions before)

-- a line says this step, and doesn't undo behind as many lines that undo as assume
abbrev pub IsRightStep : List LineView → LineView → Step → Type 0
IsRightStep before line step = (step_of_line line ≡ Some step) × (IsSpentUndo before line → ⊥)

-- lines and one more say these steps and one more, with the number of its line
abbrev pub IsOneMore : List LineView → LineView → List StepLine → Step → Type 0
IsOneMore before line steps step =
    AreSteps (before ++ line ∷ []) (steps ++ record { line = line.number; step = step } ∷ [])

-- of these lines the one in the middle is the first at fault: it undoes where nothing stands to be undone
abbrev pub IsUndoTooMany : List LineView → LineView → List LineView → Type 0
IsUndoTooMany before line after = steps_behind [] (before ++ line ∷ after) ≡ Err (NothingToUndo line.number)

-- the steps of a text, or the first line at fault
abbrev pub steps_of : List ℕ → Result (List StepLine) StepFault
steps_of text = steps_behind [] (read_lines text)

-- whether the cell and the value of a step are in a problem
abbrev pub step_fits : Network → Step → Bool
step_fits P (Assume (Is value cell)) = nat_lt cell P.cells && nat_lt value (values P)
step_fits P (Assume (Not value cell)) = nat_lt cell P.cells && nat_lt value (values P)
step_fits P Undo = true

-- the same as a fact: what is assumed speaks of a cell and a value of the problem
abbrev pub IsStepIn : Network → Step → Type 0
IsStepIn P (Assume literal) = IsLiteralIn P literal
IsStepIn P Undo = Unit {0}

-- the first line whose step doesn't fit a problem, if there is one
abbrev pub range_fault : Network → List StepLine → Option RangeFault
range_fault P steps =
    option_map (λ (line : StepLine). OutOfRange line.line)
    (find (λ (line : StepLine). not (step_fits P line.step)) steps)

-- the first step that speaks of no cell and value of a problem stands in this line
abbrev pub HasFirstPast : Network → List StepLine → ℕ → Type 0
HasFirstPast P steps n =
    (line : StepLine) × (line.line ≡ n) × IsFirstWith (λ (l : StepLine). IsStepIn P l.step → ⊥) steps line

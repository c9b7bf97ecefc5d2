-- The steps of a steps file, with their first fault.
use Rattle.std.specs.Prelude.{Err, List, None, Ok, Option, Result, Some, ℕ}
use Rattle.wfc_pins.specs.Steps.{range_fault, steps_of}
use Rattle.wfc_pins.specs.declared.steps.RangeFault.{RangeFault}
use Rattle.wfc_pins.specs.declared.steps.StepLine.{StepLine}
use Rattle.wfc_plan.specs.Plan.{or_refuse}
use Rattle.wfc_plan.specs.declared.fault.Refusal.{Refusal}
use Rattle.wfc_plan.specs.declared.fault.Refusal.TheVariants.{Range, Steps}
use Rattle.wfc_problem.specs.Network.{Network}

-- the steps that a file has
abbrev pub steps_in : List ℕ → Result (List StepLine) Refusal
steps_in text = or_refuse Steps (steps_of text)

-- the steps, unless this is the fault of one
abbrev pub unless_out : List StepLine → Option RangeFault → Result (List StepLine) Refusal
unless_out steps None = Ok steps
unless_out steps (Some fault) = Err (Range fault)

-- steps that are all in the problem
abbrev pub fitting_steps : Network → List StepLine → Result (List StepLine) Refusal
fitting_steps P steps = unless_out steps (range_fault P steps)

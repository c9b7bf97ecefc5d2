-- What is read and refused of a steps file, in order.
use Rattle.std.specs.Prelude.{List, None, Option, Some, [], ℕ}
use Rattle.wfc_map_commands.specs.Stepping.{fitting_steps, steps_in}
use Rattle.wfc_pins.specs.declared.steps.StepLine.{StepLine}
use Rattle.wfc_plan.specs.Files.{file_plan}
use Rattle.wfc_plan.specs.Plan.{Plan, and_then, done, step}
use Rattle.wfc_plan.specs.declared.fault.Source.TheVariants.{Steps}
use Rattle.wfc_problem.specs.Network.{Network}

-- the steps file of this name is read, and then each step is looked up in the problem
abbrev pub steps_file_plan : List ℕ → Network → Plan (List StepLine)
steps_file_plan name P =
    and_then (file_plan Steps name) (λ bytes.
    and_then (step (steps_in bytes)) (λ steps.
    step (fitting_steps P steps)))

-- the steps file is read, if one is named; else there are no steps
abbrev pub steps_plan : Option (List ℕ) → Network → Plan (List StepLine)
steps_plan None P = done []
steps_plan (Some name) P = steps_file_plan name P

-- The stages of the steps behind a problem, each with the faults that it may have, over files that are told.
use Rattle.std.specs.Prelude.{List, None, Option, Some, ℕ, ◌≡◌}
use Rattle.wfc_map_commands.specs.DomainsGiven.{HoldsSteps}
use Rattle.wfc_outside.specs.Folder.{File}
use Rattle.wfc_pins.specs.Steps.{range_fault, steps_of}
use Rattle.wfc_pins.specs.declared.steps.RangeFault.{RangeFault}
use Rattle.wfc_pins.specs.declared.steps.StepLine.{StepLine}
use Rattle.wfc_plan.specs.Files.{IsFile}
use Rattle.wfc_plan.specs.Stages.{IsRefusal, TaskStage}
use Rattle.wfc_plan.specs.declared.fault.Fault.{Fault}
use Rattle.wfc_plan.specs.declared.fault.Fault.TheVariants.{Refused}
use Rattle.wfc_plan.specs.declared.fault.Refusal.TheVariants as refusals
use Rattle.wfc_problem.specs.Network.{Network}
use Rattle.wfc_task.specs.Posed.{Posed}
use Rattle.wfc_words.specs.RequestView.{RequestView}

-- ---- steps

-- a line of the steps file is none of steps; there is no fault where no file is named
abbrev pub IsStepsFault : List File → Option (List ℕ) → TaskStage
IsStepsFault files None fault = ⊥
IsStepsFault files (Some name) fault =
    (bytes : List ℕ) × IsFile files name bytes × IsRefusal refusals.Steps (steps_of bytes) fault

-- one of these steps isn't in the problem
pub record IsStepOutside (P : Network) (steps : List StepLine) (fault : Fault) : Type 0 where
  pub why : RangeFault
  pub outside : range_fault P steps ≡ Some why
  pub is : fault ≡ Refused (refusals.Range why)

-- one of the steps of the file isn't in the problem
abbrev pub IsOutsideOf : List File → Option (List ℕ) → Network → TaskStage
IsOutsideOf files name P fault =
    (steps : List StepLine) × HoldsSteps files name steps × IsStepOutside P steps fault

-- one of the steps isn't in the problem of the request
abbrev pub IsRangeFault : RequestView → List File → TaskStage
IsRangeFault asked files fault =
    (P : Network) × Posed asked files P × IsOutsideOf files asked.steps P fault

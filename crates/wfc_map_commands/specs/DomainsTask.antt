-- The task of `domains`: what is read and refused, in order, and what it comes to.
use Rattle.std.specs.Prelude.{Err, List, Ok, Result}
use Rattle.wfc_map_commands.specs.StepPlans.{steps_plan}
use Rattle.wfc_map_commands.specs.declared.stepping.Stepping.{Stepping}
use Rattle.wfc_pins.specs.declared.steps.StepLine.{StepLine}
use Rattle.wfc_plan.specs.Plan.{Plan, and_then, done}
use Rattle.wfc_plan.specs.declared.fault.Fault.{Fault}
use Rattle.wfc_problem.specs.Network.{Network}
use Rattle.wfc_task.specs.Posed.{posed_plan}
use Rattle.wfc_words.specs.RequestView.{RequestView}

-- what `domains` works on
pub data DomainsTask : Type 0 where
  domains : Network → List StepLine → DomainsTask

-- what `domains` comes to
abbrev pub domains_plan : RequestView → Plan DomainsTask
domains_plan asked =
    and_then (posed_plan asked) (λ P.
    and_then (steps_plan asked.steps P) (λ steps.
    done (domains P steps)))

-- what the code makes for `domains`, as its task, or the fault
abbrev pub domains_made : Result Stepping Fault → Result DomainsTask Fault
domains_made (Ok made) = Ok (domains made.problem made.steps.items)
domains_made (Err fault) = Err fault

-- The task of `check`: what is read and refused, in order, and what it comes to.
use Rattle.std.specs.Prelude.{Err, Ok, Option, Result}
use Rattle.wfc_check.specs.declared.fault.CheckFault.{CheckFault}
use Rattle.wfc_plan.specs.Plan.{Plan, and_then, done}
use Rattle.wfc_plan.specs.declared.fault.Fault.{Fault}
use Rattle.wfc_proof_commands.specs.Checking.{refutation_plan}
use Rattle.wfc_proof_commands.specs.ProofKind.{ProofKind}
use Rattle.wfc_words.specs.RequestView.{RequestView}

-- what `check` works on: the first fault of the refutation, if it has one
pub data CheckTask : Type 0 where
  check : Option CheckFault → CheckTask

-- what `check` comes to: the refutation is read once there is a problem
abbrev pub check_plan : ProofKind → RequestView → Plan CheckTask
check_plan space asked =
    and_then (space.plan asked) (λ P.
    and_then (refutation_plan (space.shape_of asked) asked P) (λ found.
    done (check found)))

-- what the code finds in a refutation, as the task of `check`, or the fault
abbrev pub check_made : Result (Option CheckFault) Fault → Result CheckTask Fault
check_made (Ok found) = Ok (check found)
check_made (Err fault) = Err fault

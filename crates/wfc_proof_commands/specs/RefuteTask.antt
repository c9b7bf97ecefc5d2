-- The task of `refute`: what is read and refused, in order, and what it comes to.
use Rattle.std.specs.Prelude.{Err, List, Ok, Result}
use Rattle.wfc_choose.specs.declared.RuleKind.{RuleKind}
use Rattle.wfc_plan.specs.Kinds.{enough}
use Rattle.wfc_plan.specs.Plan.{Plan, and_then, done, step}
use Rattle.wfc_plan.specs.declared.fault.Fault.{Fault}
use Rattle.wfc_problem.specs.Network.{Network}
use Rattle.wfc_proof_commands.specs.ProofKind.{ProofKind}
use Rattle.wfc_words.specs.RequestView.{RequestView}

-- what `refute` works on
pub data RefuteTask : Type 0 where
  refute : Network → RefuteTask

-- what `refute` comes to: the chooser is looked for before anything is read
abbrev pub refute_plan : ProofKind → List RuleKind → RequestView → Plan RefuteTask
refute_plan space kinds asked =
    and_then (step (enough 1 kinds asked.rule)) (λ _.
    and_then (space.plan asked) (λ P.
    done (refute P)))

-- the problem that the code makes, as the task of `refute`, or the fault
abbrev pub refute_made : Result Network Fault → Result RefuteTask Fault
refute_made (Ok P) = Ok (refute P)
refute_made (Err fault) = Err fault

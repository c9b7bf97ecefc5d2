-- The problem that the lines of its pins make of a stuck block.
use Rattle.std.proofs.Common.{Err, List, Ok, Result, ap, inl, inr, subst, sym, ℕ, ◌∙◌, ◌≡◌}
use Rattle.wfc_choose.specs.Pick.{Rule}
use Rattle.wfc_grow_command.specs.Growing.{GivesProblem}
use Rattle.wfc_outside.specs.Sink.{SinkView}
use Rattle.wfc_pins.specs.declared.fault.BuildFault.{BuildFault}
use Rattle.wfc_plan.proofs.CallerLemmas.{IsStepEnd, step_is}
use Rattle.wfc_plan.specs.Fault.{status_of}
use Rattle.wfc_plan.specs.Plan.{or_refuse}
use Rattle.wfc_plan.specs.declared.fault.Fault.{Fault}
use Rattle.wfc_plan.specs.declared.fault.Fault.TheVariants.{Refused}
use Rattle.wfc_plan.specs.declared.fault.Refusal.{Refusal}
use Rattle.wfc_plan.specs.declared.fault.Refusal.TheVariants.{Build, NoMemory}
use Rattle.wfc_problem.specs.Network.{Network}
use Rattle.wfc_reply.specs.Putting.{PutsBehind}
use Rattle.wfc_reply.specs.declared.putting.RunWriting.{RunWriting}
use Rattle.wfc_reply.specs.declared.reply.Stop.{Stop}
use Rattle.wfc_search.specs.declared.Outcome.{Outcome}

-- what is given of a problem that there is: it, or want of memory
pub problem_given : (wanted : Result Network BuildFault) (P made : Network) → wanted ≡ Ok P → GivesProblem wanted (Ok made) → made ≡ P
problem_given (Ok Q) P made is gives = let same : Q ≡ P = cc (is) in gives ∙ same
problem_given (Err why) P made is gives = absurd (cc (is))

pub problem_short : (wanted : Result Network BuildFault) (P : Network) (fault : Fault) → wanted ≡ Ok P → GivesProblem wanted (Err fault) → status_of fault ≡ 6
problem_short (Ok Q) P fault is six = six
problem_short (Err why) P fault is six = absurd (cc (is))

-- what a step gives of it
pub step_gives : (wanted : Result Network BuildFault) (made : Network) → IsStepEnd (or_refuse Build wanted) (Ok made) → GivesProblem wanted (Ok made)
step_gives (Ok P) made gives = let is : P ≡ made = cc (step_is (or_refuse Build (Ok P)) made gives) in sym is
step_gives (Err why) made gives = absurd (cc (step_is (or_refuse Build (Err why)) made gives))

pub step_fails : (wanted : Result Network BuildFault) (refusal : Refusal) → IsStepEnd (or_refuse Build wanted) (Err refusal) → GivesProblem wanted (Err (Refused refusal))
step_fails (Err why) refusal (inl is) = let same : refusal ≡ Build why = cc (is) in inl (ap Refused same)
step_fails (Err why) refusal (inr short) =
    let same : refusal ≡ NoMemory = cc (short) in inr (ap (λ (r : Refusal). status_of (Refused r)) same)
step_fails (Ok P) refusal (inl is) = absurd (cc (is))
step_fails (Ok P) refusal (inr short) = let same : refusal ≡ NoMemory = cc (short) in ap (λ (r : Refusal). status_of (Refused r)) same

-- what was put, of what it is
pub put_as : (bytes text : List ℕ) (rule : Rule) (made writing : RunWriting) (Q P : Network) (old new : SinkView) (ended : Result Outcome Stop) → bytes ≡ text → made ≡ writing → Q ≡ P → PutsBehind bytes rule made Q old new ended
    → PutsBehind text rule writing P old new ended
put_as bytes text rule made writing Q P old new ended of_text of_writing of_problem put =
    subst (λ (R : Network). PutsBehind text rule writing R old new ended) of_problem
    (subst (λ (w : RunWriting). PutsBehind text rule w Q old new ended) of_writing (subst (λ (b : List ℕ). PutsBehind b rule made Q old new ended) of_text put))

-- What is taken, and what is left.
use Rattle.wfc_reply.proofs.TakingLemmas.{IsTaken}
use Rattle.wfc_reply.proofs.choosers.first_many.Given as goal

abbrev pub invariant-loop-made : goal.invariant-loop-made
invariant-loop-made g l =
    IsTaken (λ chooser. ((goal.Chooser-dyn g (chooser.vtable, chooser.value)).told chooser.value).rule) l.kind l.many l.fn.choosers.items l.choosers.items l.taken.items l.made

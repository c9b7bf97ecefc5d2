-- The kinds so far.
use Rattle.std.proofs.Common.{map, take, ◌≡◌}
use Rattle.wfc_reply.proofs.choosers.kinds.Given as goal
use Rattle.wfc_reply.specs.Choosers.{kinds_of}

abbrev pub invariant-loop-chooser : goal.invariant-loop-chooser
invariant-loop-chooser g l = l.kinds.items ≡ kinds_of (map (λ chooser. ((goal.Chooser-dyn g (chooser.vtable, chooser.value)).told chooser.value).rule) (take l.chooser-index l.choosers))

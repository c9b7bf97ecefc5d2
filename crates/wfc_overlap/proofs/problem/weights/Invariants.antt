use Rattle.std.proofs.Common.{◌≡◌, take}
use Rattle.wfc_overlap.proofs.problem.weights.Given as goal

abbrev pub invariant-loop-p : goal.invariant-loop-p
invariant-loop-p l = l.weights.items ≡ take l.p l.patterns.weights

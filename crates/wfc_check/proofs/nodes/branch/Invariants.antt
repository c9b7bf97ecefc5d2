use Rattle.wfc_check.proofs.Branches.{IsCutting}
use Rattle.wfc_check.proofs.nodes.branch.Given as goal

abbrev pub invariant-loop-other : goal.invariant-loop-other
invariant-loop-other l = IsCutting l.fn.trail l.trail l.cell l.value l.other

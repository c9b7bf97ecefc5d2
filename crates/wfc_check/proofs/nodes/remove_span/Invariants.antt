use Rattle.wfc_check.proofs.Taken.{IsSpanning}
use Rattle.wfc_check.proofs.nodes.remove_span.Given as goal

abbrev pub invariant-loop-value : goal.invariant-loop-value
invariant-loop-value l = IsSpanning l.fn.trail l.trail l.cell l.first l.value l.last l.dir

use Rattle.wfc_problem.specs.HopsMade.{AreKinds}
use Rattle.wfc_problem.proofs.hops.kinds_of.Given as goal

abbrev pub invariant-loop-cell : goal.invariant-loop-cell
invariant-loop-cell l = AreKinds l.dirs l.table l.cell l.kinds.items l.rows.items

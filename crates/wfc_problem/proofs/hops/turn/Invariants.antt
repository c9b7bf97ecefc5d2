use Rattle.wfc_problem.specs.HopsMade.{AreTurned}
use Rattle.wfc_problem.proofs.hops.turn.Given as goal

abbrev pub invariant-loop-cell : goal.invariant-loop-cell
invariant-loop-cell l = AreTurned l.fn.table l.table l.dirs l.cell

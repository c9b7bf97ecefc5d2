use Rattle.wfc_problem.specs.HopsMade.{AreHopsAt}
use Rattle.wfc_problem.proofs.hops.turn_row.Given as goal

abbrev pub invariant-loop-dir : goal.invariant-loop-dir
invariant-loop-dir l = AreHopsAt l.fn.table l.table l.start l.dir l.cell

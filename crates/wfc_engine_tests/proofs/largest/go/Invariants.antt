use Rattle.std.proofs.Common.{◌≡◌}
use Rattle.wfc_engine_tests.proofs.largest.go.Given as goal

abbrev pub invariant-loop-cell : goal.invariant-loop-cell
invariant-loop-cell g l = l.engine.problem ≡ l.problem

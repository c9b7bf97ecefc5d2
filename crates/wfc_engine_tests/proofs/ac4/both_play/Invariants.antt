use Rattle.std.proofs.Common.{◌≡◌}
use Rattle.wfc_engine_tests.proofs.ac4.both_play.Given as goal

abbrev pub invariant-loop-turn : goal.invariant-loop-turn
invariant-loop-turn g l = record {
  engine : l.engine.problem ≡ l.problem;
  plain : l.plain.problem ≡ l.problem;
}

use Rattle.std.proofs.Common.{◌≡◌}
use Rattle.wfc_problem.proofs.hops.find_kind.Given as goal

abbrev pub invariant-loop-kind : goal.invariant-loop-kind
invariant-loop-kind l = l.rows.items ≡ l.fn.rows.items

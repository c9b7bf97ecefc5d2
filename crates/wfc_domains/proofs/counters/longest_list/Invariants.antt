use Rattle.std.proofs.Common.{ℕ, ◌<◌, ◌≤◌, length}
use Rattle.wfc_problem.specs.Network.{supports_of}
use Rattle.wfc_domains.proofs.counters.longest_list.Given as goal

abbrev pub invariant-loop-value : goal.invariant-loop-value
invariant-loop-value l = (v d : ℕ) → v < l.value → length (supports_of l.problem v d) ≤ l.longest

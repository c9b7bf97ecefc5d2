use Rattle.std.proofs.Common.{ℕ, ◌<◌, ◌≤◌, length}
use Rattle.wfc_problem.specs.Network.{supports_of}
use Rattle.wfc_domains.proofs.counters.longest_side.Given as goal

abbrev pub invariant-loop-dir : goal.invariant-loop-dir
invariant-loop-dir l = (d : ℕ) → d < l.dir → length (supports_of l.problem l.value d) ≤ l.longest

use Rattle.std.proofs.Common.{◌≡◌, ℕ, ◌<◌, None}
use Rattle.wfc_problem.specs.Fault.{first_failing, leads_back}
use Rattle.wfc_problem.proofs.checks.check_ways_back.Given as goal

abbrev pub invariant-loop-cell : goal.invariant-loop-cell
invariant-loop-cell l = (k : ℕ) → k < l.cell → first_failing (leads_back l.parts k) l.parts.dirs ≡ None

use Rattle.std.proofs.Common.{◌≡◌, drop}
use Rattle.wfc_problem.specs.Fault.{rises}
use Rattle.wfc_problem.proofs.checks.rises_below.Given as goal

abbrev pub invariant-loop-number : goal.invariant-loop-number
invariant-loop-number l = rises 0 l.limit l.numbers ≡ rises l.low l.limit (drop l.number-index l.numbers)

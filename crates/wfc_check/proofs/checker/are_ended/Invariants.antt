use Rattle.wfc_check.proofs.Proved.{IsFollowing}
use Rattle.wfc_check.proofs.checker.are_ended.Given as goal

abbrev pub invariant-loop-line : goal.invariant-loop-line
invariant-loop-line l = IsFollowing l.problem l.checker l.progress l.lines l.line-index

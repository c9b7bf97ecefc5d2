use Rattle.std.proofs.Common.{◌≡◌, ◌*◌, ◌<◌, ◌≤◌, false}
use Rattle.wfc_problem.specs.Fault.{is_mutual}
use Rattle.wfc_problem.specs.Symmetry.{ArePassed, HaveReached}
use Rattle.wfc_problem.proofs.symmetry.end_of_mutual.Given as goal

abbrev pub invariant-loop-block : goal.invariant-loop-block
invariant-loop-block l = record {
  few : l.found ≤ l.end;
  fails : l.found < l.end → is_mutual l.parts l.found l.dir ≡ false;
  all : ArePassed l.parts l.dir l.passed;
  reached : HaveReached l.parts l.dir (l.block * 128) l.found l.passed;
}

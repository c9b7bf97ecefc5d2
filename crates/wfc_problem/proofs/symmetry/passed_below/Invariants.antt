use Rattle.std.proofs.Common.{◌-◌, length}
use Rattle.wfc_problem.specs.Symmetry.{AreBefore, IsPassed}
use Rattle.wfc_problem.proofs.symmetry.passed_below.Given as goal

abbrev pub invariant-loop-at : goal.invariant-loop-at
invariant-loop-at l = record {
  all : IsPassed l.parts l.dir l.value l.at;
  before : AreBefore l.parts l.back l.value l.places;
}

abbrev pub decreases-loop-at : goal.decreases-loop-at
decreases-loop-at l = length l.list - l.at

use Rattle.wfc_model.specs.Direction.{opposite}
use Rattle.wfc_problem.specs.Symmetry.{AreBefore, ArePassed, HaveReached}
use Rattle.wfc_problem.proofs.symmetry.end_of_block.Given as goal

abbrev pub invariant-loop-value : goal.invariant-loop-value
invariant-loop-value l = record {
  all : ArePassed l.parts l.dir l.passed;
  reached : HaveReached l.parts l.dir l.high l.value l.passed;
  before : AreBefore l.parts (opposite l.dir) l.value l.places;
}

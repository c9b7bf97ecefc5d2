use Rattle.std.proofs.Common.{◌≡◌, length}
use Rattle.wfc_problem.proofs.StrideLemmas.{AreSidesOfRows}
use Rattle.wfc_problem.proofs.strides.Strides.new.Given as goal

-- the rows so far have their sides
abbrev pub invariant-loop-kind : goal.invariant-loop-kind
invariant-loop-kind l = record {
  so_many : length l.sides.items ≡ l.kind;
  sides : AreSidesOfRows l.fn.dirs l.fn.rows l.fn.row_len l.sides.items;
}

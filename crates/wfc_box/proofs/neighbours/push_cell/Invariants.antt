use Rattle.std.proofs.Common.{◌≡◌, ◌++◌, map}
use Rattle.std.specs.List.{range_with_len}
use Rattle.wfc_box.specs.BoxProblem.{beside_in_box}
use Rattle.wfc_box.proofs.neighbours.push_cell.Given as goal

abbrev pub invariant-loop-dir : goal.invariant-loop-dir
invariant-loop-dir l = l.table.items ≡ l.initial.table.items ++ map (beside_in_box l.frame l.cell) (range_with_len 0 l.dir)

use Rattle.std.proofs.Common.{◌≡◌}
use Rattle.std.specs.List.{flat_map, range_with_len}
use Rattle.wfc_box.specs.BoxProblem.{all_beside_in_box}
use Rattle.wfc_box.proofs.neighbours.neighbours.Given as goal

abbrev pub invariant-loop-cell : goal.invariant-loop-cell
invariant-loop-cell l = l.table.items ≡ flat_map (all_beside_in_box l.frame) (range_with_len 0 l.cell)

use Rattle.std.proofs.Common.{◌≡◌, ◌+◌, map}
use Rattle.std.specs.List.{flat_map, range_with_len}
use Rattle.wfc_model.specs.Image.{cell_at}
use Rattle.wfc_overlap.proofs.groups.part.Given as goal

abbrev pub invariant-loop-row : goal.invariant-loop-row
invariant-loop-row l = l.numbers.items ≡ flat_map (λ j. map (λ i. cell_at l.n l.window (l.left + i) (l.top + j)) (range_with_len 0 l.columns)) (range_with_len 0 l.row)

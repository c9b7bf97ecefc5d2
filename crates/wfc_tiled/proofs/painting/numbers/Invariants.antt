use Rattle.std.proofs.Common.{◌≡◌, map}
use Rattle.std.specs.List.{range_with_len}
use Rattle.wfc_tiled.specs.Mask.{cell_number}
use Rattle.wfc_tiled.specs.Maps.{number_of_cell}
use Rattle.wfc_tiled.proofs.painting.numbers.Given as goal

abbrev pub invariant-loop-place : goal.invariant-loop-place
invariant-loop-place l = l.numbers.items ≡ map (λ n. number_of_cell l.assignment (cell_number l.mask n)) (range_with_len 0 l.place)

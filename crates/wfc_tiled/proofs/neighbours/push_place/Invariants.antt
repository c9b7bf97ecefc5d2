use Rattle.std.proofs.Common.{◌≡◌, ◌++◌, ◌/◌, ◌%◌, map}
use Rattle.std.specs.List.{range_with_len}
use Rattle.wfc_tiled.specs.Tiles.{tile_beside}
use Rattle.wfc_tiled.proofs.neighbours.push_place.Given as goal

abbrev pub invariant-loop-dir : goal.invariant-loop-dir
invariant-loop-dir l = l.table.items ≡ l.initial.table.items ++ map (λ d. tile_beside l.mask l.wrap (l.place % l.mask.width) (l.place / l.mask.width) d) (range_with_len 0 l.dir)

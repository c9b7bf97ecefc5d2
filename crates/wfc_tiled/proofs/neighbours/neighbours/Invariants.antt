use Rattle.std.proofs.Common.{◌≡◌, take}
use Rattle.std.specs.List.{flat_map}
use Rattle.wfc_tiled.specs.Tiles.{tiles_beside}
use Rattle.wfc_tiled.proofs.neighbours.neighbours.Given as goal

abbrev pub invariant-loop-place : goal.invariant-loop-place
invariant-loop-place l = l.table.items ≡ flat_map (λ n. tiles_beside l.mask l.wrap n) (take l.place-index l.mask.places)

use Rattle.std.proofs.Common.{◌≡◌, map}
use Rattle.std.specs.List.{range_with_len}
use Rattle.wfc_tileset.specs.Tiles.{tile_at, variant_at}
use Rattle.wfc_tiled.proofs.supports.weights.Given as goal

abbrev pub invariant-loop-v : goal.invariant-loop-v
invariant-loop-v l = l.weights.items ≡ map (λ v. (tile_at l.tiles.tiles (variant_at l.tiles.tiles v).0).weight) (range_with_len 0 l.v)

use Rattle.std.proofs.Common.{◌≡◌, map, take}
use Rattle.std.specs.List.{range_with_len}
use Rattle.wfc_tileset.specs.Tiles.{variants}
use Rattle.wfc_tileset.specs.Numbers.{tile_start}
use Rattle.wfc_tileset.proofs.variants.Variants.new.Given as goal

abbrev pub invariant-loop-tile : goal.invariant-loop-tile
invariant-loop-tile l =
    (l.list.items ≡ variants (take l.tile-index l.tile-items)) × (l.first.items ≡ map (tile_start l.tile-items) (range_with_len 0 l.tile-index))

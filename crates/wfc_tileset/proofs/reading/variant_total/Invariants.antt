use Rattle.std.proofs.Common.{◌≡◌, ◌≤◌, ◌*◌, take}
use Rattle.wfc_tileset.specs.Tiles.{variant_total}
use Rattle.wfc_tileset.proofs.reading.variant_total.Given as goal

abbrev pub invariant-loop-tile : goal.invariant-loop-tile
invariant-loop-tile l = record {
  so_far : l.count ≡ variant_total (take l.tile-index l.tiles);
  few : l.count ≤ 8 * l.tile-index;
}

use Rattle.std.proofs.Common.{◌≡◌, [], length, drop, All}
use Rattle.toml.specs.View.{items_view}
use Rattle.wfc_tileset.specs.Tiles.{HasWeight}
use Rattle.wfc_tileset.specs.TileSets.{AreAlike}
use Rattle.wfc_tileset.specs.Document.{tiles_from}
use Rattle.wfc_tileset.specs.Names.{AreNames}
use Rattle.wfc_tileset.proofs.tiles.tiles_from.Given as goal

abbrev pub invariant-loop-element : goal.invariant-loop-element
invariant-loop-element l = record {
  so_far : tiles_from l.tiles.items (items_view (drop l.element-index l.elements)) ≡ tiles_from [] (items_view l.elements);
  counted : length l.tiles.items ≡ l.element-index;
  weighed : All HasWeight l.tiles.items;
  alike : AreAlike l.tiles.items;
  names : AreNames l.names l.tiles.items;
}

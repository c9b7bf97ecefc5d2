use Rattle.std.proofs.Common.{◌≡◌, [], length, drop, All}
use Rattle.toml.specs.View.{items_view}
use Rattle.wfc_tileset.specs.Allowed.{IsPair}
use Rattle.wfc_tileset.specs.Document.{pairs_from}
use Rattle.wfc_tileset.proofs.pairs.pairs_from.Given as goal

abbrev pub invariant-loop-element : goal.invariant-loop-element
invariant-loop-element l = record {
  so_far : pairs_from l.tiles l.pairs.items (items_view (drop l.element-index l.elements)) ≡ pairs_from l.tiles [] (items_view l.elements);
  counted : length l.pairs.items ≡ l.element-index;
  pairs : All (IsPair l.tiles) l.pairs.items;
}

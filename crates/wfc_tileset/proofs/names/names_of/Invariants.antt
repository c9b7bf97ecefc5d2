use Rattle.std.proofs.Common.{◌≡◌, take}
use Rattle.wfc_tileset.specs.Names.{AreNames}
use Rattle.wfc_tileset.proofs.names.names_of.Given as goal

abbrev pub invariant-loop-tile : goal.invariant-loop-tile
invariant-loop-tile l = record {
  names : AreNames l.names (take l.tile-index l.tiles);
  counted : l.number ≡ l.tile-index;
}

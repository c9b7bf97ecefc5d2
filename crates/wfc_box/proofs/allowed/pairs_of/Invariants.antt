use Rattle.std.proofs.Common.{◌≡◌, take}
use Rattle.std.specs.List.{flat_map}
use Rattle.wfc_tileset.specs.Tiles.{variant_total}
use Rattle.wfc_box.specs.StackTable.{AreVariantPairs}
use Rattle.wfc_box.specs.Stacks.{stacked_of}
use Rattle.wfc_box.proofs.allowed.pairs_of.Given as goal

abbrev pub invariant-loop-stack : goal.invariant-loop-stack
invariant-loop-stack l = record {
  so_far : l.pairs.items ≡ flat_map (stacked_of l.tiles.tiles) (take l.stack-index l.stacks);
  within : AreVariantPairs (variant_total l.tiles.tiles) l.pairs.items;
}

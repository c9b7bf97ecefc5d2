use Rattle.std.proofs.Common.{◌≡◌, ◌++◌, map}
use Rattle.std.specs.List.{range_with_len}
use Rattle.wfc_tileset.specs.Tiles.{variant_total}
use Rattle.wfc_box.specs.StackTable.{AreVariantPairs}
use Rattle.wfc_box.specs.Stacks.{turned_stack}
use Rattle.wfc_box.proofs.allowed.push_turned.Given as goal

abbrev pub invariant-loop-k : goal.invariant-loop-k
invariant-loop-k l = record {
  so_far : l.pairs.items ≡ l.initial.pairs.items ++ map (turned_stack l.tiles.tiles l.stack) (range_with_len 0 l.k);
  within : AreVariantPairs (variant_total l.tiles.tiles) l.pairs.items;
}

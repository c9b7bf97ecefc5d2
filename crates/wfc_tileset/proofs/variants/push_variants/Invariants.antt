use Rattle.std.proofs.Common.{◌≡◌, ◌++◌, map}
use Rattle.std.specs.List.{range_with_len}
use Rattle.wfc_tileset.specs.Tiles.{Variant}
use Rattle.wfc_tileset.proofs.variants.push_variants.Given as goal

abbrev pub invariant-loop-index : goal.invariant-loop-index
invariant-loop-index l = l.list.items ≡ l.initial.list.items ++ map (λ i. let p : Variant = (l.tile, i) in p) (range_with_len 0 l.index)

use Rattle.std.proofs.Common.{◌≡◌, map}
use Rattle.std.specs.List.{flat_map, range_with_len}
use Rattle.wfc_tiled.specs.Tiles.{all_fitting}
use Rattle.wfc_tiled.proofs.supports.supports.Given as goal

abbrev pub invariant-loop-v : goal.invariant-loop-v
invariant-loop-v l = map (λ list. list.items) l.lists.items ≡ flat_map (λ v. all_fitting l.tiles v) (range_with_len 0 l.v)

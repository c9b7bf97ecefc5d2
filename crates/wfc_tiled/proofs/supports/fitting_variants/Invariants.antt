use Rattle.std.proofs.Common.{◌≡◌, filter}
use Rattle.std.specs.List.{range_with_len}
use Rattle.wfc_tiled.specs.Tiles.{variants_fit}
use Rattle.wfc_tiled.proofs.supports.fitting_variants.Given as goal

abbrev pub invariant-loop-w : goal.invariant-loop-w
invariant-loop-w l = l.list.items ≡ filter (λ w. variants_fit l.tiles l.dir l.v w) (range_with_len 0 l.w)

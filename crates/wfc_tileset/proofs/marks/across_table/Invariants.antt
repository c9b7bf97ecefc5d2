use Rattle.std.proofs.Common.{◌≡◌, take}
use Rattle.std.specs.List.{flat_map}
use Rattle.wfc_tileset.specs.Allowed.{beside_by}
use Rattle.wfc_tileset.specs.Numbers.{pair_table}
use Rattle.wfc_tileset.proofs.marks.across_table.Given as goal

abbrev pub invariant-loop-pair : goal.invariant-loop-pair
invariant-loop-pair l = l.flags.items ≡ pair_table l.variants (flat_map (beside_by l.variants) (take l.pair-index l.pairs))

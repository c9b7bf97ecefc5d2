use Rattle.std.proofs.Common.{length, take}
use Rattle.wfc_tileset.specs.Tiles.{variant_total}
use Rattle.wfc_places.specs.Flags.{HasFlags}
use Rattle.wfc_tiled.specs.Cut.{meets_at}
use Rattle.wfc_tiled.proofs.base.cut_all.Given as goal

abbrev pub invariant-loop-mark : goal.invariant-loop-mark
invariant-loop-mark l = HasFlags (variant_total l.tiles.tiles) (length l.mask.places) l.flags (meets_at l.mask (take l.mark-index l.marks))

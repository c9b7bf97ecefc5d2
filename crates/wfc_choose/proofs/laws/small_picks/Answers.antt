use Rattle.std.proofs.Common.{refl}
use Rattle.wfc_choose.specs.Pick.{picked_cell}
use Rattle.wfc_choose.proofs.laws.small_picks.Goals as goal

pub returns : goal.returns
unfolding picked_cell
returns c = record { scanline = refl; fewest = refl; ranked = refl; level = refl; unranked = refl; none = refl; empty = refl }

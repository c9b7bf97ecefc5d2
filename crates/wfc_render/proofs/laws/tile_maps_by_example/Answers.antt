use Rattle.std.proofs.Common.{refl}
use Rattle.std.specs.Fmt.{digits}
use Rattle.wfc_render.proofs.laws.tile_maps_by_example.Goals as goal

pub returns : goal.returns
unfolding digits
returns c = record { grid = refl; cells = refl; plain = refl }

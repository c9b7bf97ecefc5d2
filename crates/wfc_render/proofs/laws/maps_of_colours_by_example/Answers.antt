use Rattle.std.proofs.Common.{refl}
use Rattle.std.specs.Fmt.{digits}
use Rattle.wfc_render.proofs.laws.maps_of_colours_by_example.Goals as goal

pub returns : goal.returns
unfolding digits
returns c = record { raw = refl; wide = refl; plain = refl }

use Rattle.std.proofs.Common.{refl}
use Rattle.std.specs.Fmt.{digits}
use Rattle.wfc_render.proofs.laws.pairs_by_example.Goals as goal

pub returns : goal.returns
unfolding digits
returns c = record { across = refl; down = refl; line = refl }

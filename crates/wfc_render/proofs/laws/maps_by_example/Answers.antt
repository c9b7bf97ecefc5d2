use Rattle.std.proofs.Common.{refl}
use Rattle.std.specs.Fmt.{digits}
use Rattle.wfc_render.proofs.laws.maps_by_example.Goals as goal

pub returns-clause-cells : goal.returns-clause-cells
unfolding digits
returns-clause-cells c = refl

pub returns-clause-numbers : goal.returns-clause-numbers
unfolding digits
returns-clause-numbers c = refl

pub returns-clause-one : goal.returns-clause-one
unfolding digits
returns-clause-one c = refl

use Rattle.std.proofs.Common.{refl}
use Rattle.std.specs.Fmt.{digits}
use Rattle.wfc_cli.proofs.laws.refusals_are_told_by_example.Goals as goal

pub returns-clause-grid : goal.returns-clause-grid
unfolding digits
returns-clause-grid c = refl

pub returns-clause-mask : goal.returns-clause-mask
unfolding digits
returns-clause-mask c = refl

pub returns-clause-pins : goal.returns-clause-pins
unfolding digits
returns-clause-pins c = refl

pub returns-clause-pin : goal.returns-clause-pin
unfolding digits
returns-clause-pin c = refl

pub returns-clause-range : goal.returns-clause-range
unfolding digits
returns-clause-range c = refl

pub returns-clause-ppm : goal.returns-clause-ppm
unfolding digits
returns-clause-ppm c = refl

pub returns-clause-colours : goal.returns-clause-colours
unfolding digits
returns-clause-colours c = refl

pub returns-clause-steps : goal.returns-clause-steps
unfolding digits
returns-clause-steps c = refl

pub returns-clause-race : goal.returns-clause-race
unfolding digits
returns-clause-race c = refl

pub returns-clause-many_pins : goal.returns-clause-many_pins
unfolding digits
returns-clause-many_pins c = refl

pub returns-clause-blocks : goal.returns-clause-blocks
unfolding digits
returns-clause-blocks c = refl

pub returns-clause-tiles : goal.returns-clause-tiles
unfolding digits
returns-clause-tiles c = refl

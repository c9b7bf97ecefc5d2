use Rattle.std.proofs.Common.{refl}
use Rattle.std.specs.Fmt.{digits}
use Rattle.wfc_lines.proofs.laws.texts_of_inputs_by_example.Goals as goal

pub returns-clause-ragged : goal.returns-clause-ragged
unfolding digits
returns-clause-ragged c = refl

pub returns-clause-colours : goal.returns-clause-colours
unfolding digits
returns-clause-colours c = refl

pub returns-clause-many : goal.returns-clause-many
unfolding digits
returns-clause-many c = refl

pub returns-clause-pin : goal.returns-clause-pin
unfolding digits
returns-clause-pin c = refl

pub returns-clause-step : goal.returns-clause-step
unfolding digits
returns-clause-step c = refl

pub returns-clause-range : goal.returns-clause-range
unfolding digits
returns-clause-range c = refl

pub returns-clause-pairs : goal.returns-clause-pairs
unfolding digits
returns-clause-pairs c = refl

pub returns-clause-outside : goal.returns-clause-outside
unfolding digits
returns-clause-outside c = refl

pub returns-clause-symbol : goal.returns-clause-symbol
unfolding digits
returns-clause-symbol c = refl

pub returns-clause-pixels : goal.returns-clause-pixels
unfolding digits
returns-clause-pixels c = refl

pub returns-clause-hole : goal.returns-clause-hole
unfolding digits
returns-clause-hole c = refl

pub returns-clause-pin_count : goal.returns-clause-pin_count
unfolding digits
returns-clause-pin_count c = refl

pub returns-clause-no_step : goal.returns-clause-no_step
unfolding digits
returns-clause-no_step c = refl

use Rattle.std.proofs.Common.{◌<◌, arith, lit<}
use Rattle.wfc_model.specs.Legal.{kept_pin}
use Rattle.wfc_overlap.proofs.examples.pins_inside.Goals as goal

pub returns-clause-column : goal.returns-clause-column
returns-clause-column c = λ h. let past : 3 < 3 = (h 0 (kept_pin 0 0 0) (lit< tt)).0 in omega arith

pub returns-clause-row : goal.returns-clause-row
returns-clause-row c = λ h. let past : 2 < 2 = (h 0 (kept_pin 0 0 0) (lit< tt)).1 in omega arith

pub returns-clause-later : goal.returns-clause-later
returns-clause-later c = λ h. let past : 2 < 2 = (h 1 (kept_pin 0 0 0) (lit< tt)).1 in omega arith

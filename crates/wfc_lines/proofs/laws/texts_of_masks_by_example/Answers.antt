use Rattle.std.proofs.Common.{refl}
use Rattle.std.specs.Fmt.{digits}
use Rattle.wfc_lines.proofs.laws.texts_of_masks_by_example.Goals as goal

pub returns-clause-ragged : goal.returns-clause-ragged
unfolding digits
returns-clause-ragged c = refl

pub returns-clause-byte : goal.returns-clause-byte
unfolding digits
returns-clause-byte c = refl

pub returns-clause-sides : goal.returns-clause-sides
unfolding digits
returns-clause-sides c = refl

pub returns-clause-symbol : goal.returns-clause-symbol
unfolding digits
returns-clause-symbol c = refl

use Rattle.std.proofs.Common.{refl}
use Rattle.std.specs.Fmt.{digits}
use Rattle.wfc_picture.proofs.laws.texts_of_symbols.Goals as goal

pub returns-clause-colour : goal.returns-clause-colour
unfolding digits
returns-clause-colour c = refl

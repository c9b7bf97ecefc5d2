use Rattle.std.proofs.Common.{refl}
use Rattle.wfc_picture.proofs.WordLemmas.{one_symbol}
use Rattle.wfc_picture.proofs.laws.words_spell_symbols.Goals as goal

pub returns-clause-one : goal.returns-clause-one
returns-clause-one c word a b first second = one_symbol word a b first second

pub returns-clause-spelled : goal.returns-clause-spelled
returns-clause-spelled c symbol shown = record { shown = shown; text = refl }

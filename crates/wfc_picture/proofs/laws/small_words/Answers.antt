use Rattle.std.proofs.Common.{refl, ap, arith}
use Rattle.std.specs.Fmt.{digits}
use Rattle.std.specs.List.{slice_index_or}
use Rattle.wfc_picture.proofs.laws.small_words.Goals as goal

pub returns-clause-colour : goal.returns-clause-colour
unfolding digits
returns-clause-colour c = record { shown = refl; text = refl }

pub returns-clause-exchanged : goal.returns-clause-exchanged
unfolding digits
returns-clause-exchanged c spells = omega (arith, ap (λ t. slice_index_or t 0 0) spells.text)

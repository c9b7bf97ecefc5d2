use Rattle.std.proofs.Common.{refl, ap, arith, length, get_or}
use Rattle.std.proofs.lemmas.Bool.{false≢true}
use Rattle.std.specs.Fmt.{digits}
use Rattle.wfc_picture.specs.declared.symbol.Symbol.TheVariants.{Char}
use Rattle.wfc_picture.specs.Small.{rgb}
use Rattle.wfc_picture.proofs.WordLemmas.{spells-none, spells-no_other}
use Rattle.wfc_picture.proofs.laws.words_that_spell_nothing.Goals as goal

pub returns-clause-none : goal.returns-clause-none
returns-clause-none c = spells-none _ refl

pub returns-clause-blank : goal.returns-clause-blank
returns-clause-blank c = spells-no_other _ (Char 32) refl (λ spells. omega (arith, ap length spells.text))

pub returns-clause-tabulator : goal.returns-clause-tabulator
returns-clause-tabulator c = spells-no_other _ (Char 9) refl (λ spells. false≢true spells.shown)

pub returns-clause-other_escape : goal.returns-clause-other_escape
returns-clause-other_escape c = spells-no_other _ (Char 32) refl (λ spells. omega (arith, ap (λ t. get_or t 1 0) spells.text))

pub returns-clause-zero_first : goal.returns-clause-zero_first
unfolding digits
returns-clause-zero_first c = spells-no_other _ (rgb 1 0 0) refl (λ spells. omega (arith, ap length spells.text))

pub returns-clause-two_parts : goal.returns-clause-two_parts
returns-clause-two_parts c = spells-none _ refl

pub returns-clause-four_parts : goal.returns-clause-four_parts
returns-clause-four_parts c = spells-none _ refl

pub returns-clause-empty_part : goal.returns-clause-empty_part
unfolding digits
returns-clause-empty_part c = spells-no_other _ (rgb 1 0 33) refl (λ spells. omega (arith, ap length spells.text))

pub returns-clause-too_large : goal.returns-clause-too_large
returns-clause-too_large c = spells-no_other _ (rgb 0 65536 0) refl (λ spells. false≢true spells.shown)

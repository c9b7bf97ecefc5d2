use Rattle.std.proofs.Common.{refl}
use Rattle.std.specs.Fmt.{digits}
use Rattle.wfc_lines.proofs.laws.texts_of_checks_by_example.Goals as goal

pub returns-clause-value : goal.returns-clause-value
unfolding digits
returns-clause-value c = refl

pub returns-clause-name : goal.returns-clause-name
unfolding digits
returns-clause-name c = refl

pub returns-clause-bad_line : goal.returns-clause-bad_line
unfolding digits
returns-clause-bad_line c = refl

pub returns-clause-header : goal.returns-clause-header
unfolding digits
returns-clause-header c = refl

pub returns-clause-options : goal.returns-clause-options
unfolding digits
returns-clause-options c = refl

pub returns-clause-not_standing : goal.returns-clause-not_standing
unfolding digits
returns-clause-not_standing c = refl

pub returns-clause-support : goal.returns-clause-support
unfolding digits
returns-clause-support c = refl

pub returns-clause-no_neighbour : goal.returns-clause-no_neighbour
unfolding digits
returns-clause-no_neighbour c = refl

pub returns-clause-after_end : goal.returns-clause-after_end
unfolding digits
returns-clause-after_end c = refl

pub returns-clause-index : goal.returns-clause-index
unfolding digits
returns-clause-index c = refl

pub returns-clause-only_value : goal.returns-clause-only_value
unfolding digits
returns-clause-only_value c = refl

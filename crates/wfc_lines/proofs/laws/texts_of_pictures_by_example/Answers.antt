use Rattle.std.proofs.Common.{refl}
use Rattle.std.specs.Fmt.{digits}
use Rattle.wfc_lines.proofs.laws.texts_of_pictures_by_example.Goals as goal

pub returns-clause-header : goal.returns-clause-header
unfolding digits
returns-clause-header c = refl

pub returns-clause-maxval : goal.returns-clause-maxval
unfolding digits
returns-clause-maxval c = refl

pub returns-clause-truncated : goal.returns-clause-truncated
unfolding digits
returns-clause-truncated c = refl

pub returns-clause-above : goal.returns-clause-above
unfolding digits
returns-clause-above c = refl

pub returns-clause-sample : goal.returns-clause-sample
unfolding digits
returns-clause-sample c = refl

pub returns-clause-trailing : goal.returns-clause-trailing
unfolding digits
returns-clause-trailing c = refl

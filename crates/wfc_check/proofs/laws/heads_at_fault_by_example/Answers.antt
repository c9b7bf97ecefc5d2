use Rattle.std.proofs.Common.{refl}
use Rattle.std.specs.Fmt.{digits}
use Rattle.wfc_check.proofs.laws.heads_at_fault_by_example.Goals as goal

pub returns-clause-zero_first : goal.returns-clause-zero_first
unfolding digits
returns-clause-zero_first c = refl

pub returns-clause-numbers : goal.returns-clause-numbers
unfolding digits
returns-clause-numbers c = refl

pub returns-clause-window : goal.returns-clause-window
unfolding digits
returns-clause-window c = refl

pub returns-clause-shape : goal.returns-clause-shape
unfolding digits
returns-clause-shape c = refl

pub returns-clause-other_format : goal.returns-clause-other_format
unfolding digits
returns-clause-other_format c = refl

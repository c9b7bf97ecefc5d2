use Rattle.std.proofs.Common.{refl}
use Rattle.std.specs.Fmt.{digits}
use Rattle.wfc_check.proofs.laws.proofs_at_fault_by_example.Goals as goal

pub returns-clause-not_empty : goal.returns-clause-not_empty
unfolding digits
returns-clause-not_empty c = refl

pub returns-clause-waiting : goal.returns-clause-waiting
unfolding digits
returns-clause-waiting c = refl

pub returns-clause-behind : goal.returns-clause-behind
unfolding digits
returns-clause-behind c = refl

pub returns-clause-behind_none : goal.returns-clause-behind_none
unfolding digits
returns-clause-behind_none c = refl

pub returns-clause-not_ended : goal.returns-clause-not_ended
unfolding digits
returns-clause-not_ended c = refl

pub returns-clause-no_feed : goal.returns-clause-no_feed
unfolding digits
returns-clause-no_feed c = refl

use Rattle.std.proofs.Common.{refl}
use Rattle.std.specs.Fmt.{digits}
use Rattle.wfc_check.proofs.laws.accepted_by_example.Goals as goal

pub returns-clause-removals : goal.returns-clause-removals
unfolding digits
returns-clause-removals c = refl

pub returns-clause-span : goal.returns-clause-span
unfolding digits
returns-clause-span c = refl

pub returns-clause-branches : goal.returns-clause-branches
unfolding digits
returns-clause-branches c = refl

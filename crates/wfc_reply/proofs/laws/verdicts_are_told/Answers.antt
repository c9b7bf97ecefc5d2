use Rattle.std.proofs.Common.{refl}
use Rattle.std.specs.Fmt.{digits}
use Rattle.wfc_reply.proofs.laws.verdicts_are_told.Goals as goal

pub returns-clause-spent : goal.returns-clause-spent
unfolding digits
returns-clause-spent c asked = refl

pub returns-clause-unaccepted : goal.returns-clause-unaccepted
unfolding digits
returns-clause-unaccepted c = refl

pub returns-clause-stuck : goal.returns-clause-stuck
unfolding digits
returns-clause-stuck c asked = refl

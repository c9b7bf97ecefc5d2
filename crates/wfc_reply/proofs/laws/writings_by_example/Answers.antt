use Rattle.std.proofs.Common.{refl}
use Rattle.std.specs.Fmt.{digits}
use Rattle.wfc_reply.proofs.laws.writings_by_example.Goals as goal

pub returns-clause-plain : goal.returns-clause-plain
unfolding digits
returns-clause-plain c = refl

pub returns-clause-joined : goal.returns-clause-joined
unfolding digits
returns-clause-joined c = refl

use Rattle.std.proofs.Common.{refl}
use Rattle.wfc_reply.proofs.laws.replies_are_left_whole.Goals as goal

pub returns-clause-whole : goal.returns-clause-whole
returns-clause-whole c text old = (refl, refl)

pub returns-clause-verdict : goal.returns-clause-verdict
returns-clause-verdict c text old new leaves = absurd (cc (leaves.0))

pub returns-clause-put : goal.returns-clause-put
returns-clause-put c text old new leaves = leaves.1

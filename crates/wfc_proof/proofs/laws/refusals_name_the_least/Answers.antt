use Rattle.wfc_proof.proofs.Least.{support_least, value_least}
use Rattle.wfc_proof.proofs.laws.refusals_name_the_least.Goals as goal

pub returns : goal.returns
returns c = record { support = support_least; value = value_least }

use Rattle.wfc_choose.proofs.ShareLemmas.{drawn_share}
use Rattle.wfc_choose.proofs.laws.draws_are_by_weight.Goals as goal

pub returns : goal.returns
returns c = record { share = drawn_share }

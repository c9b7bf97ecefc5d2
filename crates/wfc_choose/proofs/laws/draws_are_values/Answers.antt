use Rattle.wfc_choose.proofs.DrawLemmas.{drawn_one}
use Rattle.wfc_choose.proofs.laws.draws_are_values.Goals as goal

pub returns : goal.returns
returns c = record { one = drawn_one }

use Rattle.wfc_choose.proofs.PickLemmas.{none_single}
use Rattle.wfc_choose.proofs.laws.none_picked_means_single.Goals as goal

pub returns : goal.returns
returns c = record { single = none_single }

use Rattle.wfc_choose.proofs.PickLemmas.{picked_open, picked_none, picked_least, picked_first}
use Rattle.wfc_choose.proofs.laws.picks_are_open.Goals as goal

pub returns : goal.returns
returns c = record {
  is_open = picked_open;
  none = picked_none;
  least = λ rule sizes c other is o. picked_least rule sizes c other is o.0 o.1;
  first = λ rule sizes c other is o. picked_first rule sizes c other is o.0 o.1;
}

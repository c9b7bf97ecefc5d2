use Rattle.wfc_proof.proofs.Nodes.{accepted_removal, removal_accepted, accepted_split, split_accepted, accepted_empty, empty_accepted}
use Rattle.wfc_proof.proofs.laws.right_nodes_are_accepted.Goals as goal

pub returns : goal.returns
returns c = record {
  removals = λ P p D within x v d. (accepted_removal P D x v d, removal_accepted P p D within x v d);
  splits = λ P p D within x v. (accepted_split P D x v, split_accepted P p D within x v);
  empties = λ P p D within x. (accepted_empty P p D within x, (λ h. empty_accepted P D x h.0 h.1));
}

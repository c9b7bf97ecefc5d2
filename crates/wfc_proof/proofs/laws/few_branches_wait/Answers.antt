use Rattle.wfc_proof.proofs.Waiting.{waiting_few}
use Rattle.wfc_proof.proofs.laws.few_branches_wait.Goals as goal

pub returns : goal.returns
returns c = record { within = λ P p lines E waiting is. (waiting_few P p lines E waiting is).0; few = λ P p lines E waiting is. (waiting_few P p lines E waiting is).1 }

use Rattle.wfc_runs.proofs.AlikeLemmas.{plain_alike, rules_alike}
use Rattle.wfc_runs.proofs.laws.kinds_pick_alike.Goals as goal

pub returns : goal.returns
returns c = record { two = plain_alike; all = rules_alike }

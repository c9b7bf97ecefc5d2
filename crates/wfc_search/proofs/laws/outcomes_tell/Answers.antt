use Rattle.wfc_search.proofs.Runs.{outcome_map, outcome_none, outcome_spent}
use Rattle.wfc_search.proofs.laws.outcomes_tell.Goals as goal

pub returns : goal.returns
returns c = record { map = outcome_map; no_map = outcome_none; spent = λ P p rule budget words s is. (outcome_spent P p rule budget words s is).0 }

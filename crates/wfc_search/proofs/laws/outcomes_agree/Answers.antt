use Rattle.wfc_search.proofs.Runs.{outcomes_agree}
use Rattle.wfc_search.proofs.laws.outcomes_agree.Goals as goal

pub returns : goal.returns
returns c = record {
  agree = λ P p rule budget words s map other most more t none. outcomes_agree P p rule other budget most words more s t map none;
}

use Rattle.wfc_model.specs.Learned.{arising}
use Rattle.wfc_pattern.proofs.LearningLemmas.{sum-weights}
use Rattle.wfc_pattern.proofs.laws.weights_add_up.Goals as goal

pub returns : goal.returns
returns c = record { sum = λ sample n s wrap. sum-weights (arising sample n s wrap) }

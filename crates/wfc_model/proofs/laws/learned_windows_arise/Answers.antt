use Rattle.wfc_model.proofs.LearnedLemmas.{learned-arising, arising-learned}
use Rattle.wfc_model.proofs.laws.learned_windows_arise.Goals as goal

pub returns : goal.returns
returns c = record { learned = λ sample n s wrap w. (learned-arising sample n s wrap w, arising-learned sample n s wrap w) }

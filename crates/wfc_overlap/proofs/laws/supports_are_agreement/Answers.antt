use Rattle.wfc_overlap.proofs.SubjectLemmas.{support-agreement}
use Rattle.wfc_overlap.proofs.laws.supports_are_agreement.Goals as goal

pub returns : goal.returns
returns c = record { exactly = λ s. support-agreement s.patterns s.output s.pins }

use Rattle.wfc_problem.proofs.Cuts.{legal_base}
use Rattle.wfc_problem.proofs.laws.legal_lies_in_base.Goals as goal

pub returns : goal.returns
returns c = record { base = legal_base }

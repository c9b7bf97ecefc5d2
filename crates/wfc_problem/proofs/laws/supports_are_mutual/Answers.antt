use Rattle.wfc_problem.proofs.Supports.{ok_both}
use Rattle.wfc_problem.proofs.laws.supports_are_mutual.Goals as goal

pub returns : goal.returns
returns c = record { both = ok_both }

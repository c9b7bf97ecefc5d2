use Rattle.wfc_problem.proofs.Cuts.{lies_either, lies_is_exact, lies_not_exact}
use Rattle.wfc_problem.proofs.laws.one_literal_holds.Goals as goal

pub returns : goal.returns
returns c = record { either = λ D a. lies_either a D; is_exact = λ D a. lies_is_exact a D; not_exact = λ D a. lies_not_exact a D }

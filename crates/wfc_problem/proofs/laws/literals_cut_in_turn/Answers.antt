use Rattle.wfc_problem.proofs.Cuts.{base_with_none, base_with_more}
use Rattle.wfc_problem.proofs.laws.literals_cut_in_turn.Goals as goal

pub returns : goal.returns
returns c = record { none = base_with_none; more = base_with_more }

use Rattle.wfc_problem.proofs.Rounds.{depth_greatest, greatest_is}
use Rattle.wfc_problem.proofs.laws.rounds_give_the_greatest.Goals as goal

pub returns-clause-rounds : goal.returns-clause-rounds
returns-clause-rounds c = depth_greatest

pub returns-clause-greatest : goal.returns-clause-greatest
returns-clause-greatest c = greatest_is

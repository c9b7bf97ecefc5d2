use Rattle.wfc_problem.proofs.Corners.{corner_problem}
use Rattle.wfc_problem.proofs.examples.faults_are_named.Goals as goal

pub returns-clause-problem : goal.returns-clause-problem
returns-clause-problem c = corner_problem

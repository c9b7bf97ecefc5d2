use Rattle.wfc_problem.proofs.Domains.{only_legal, only_lies}
use Rattle.wfc_problem.proofs.laws.single_values_are_legal.Goals as goal

pub returns-clause-legal : goal.returns-clause-legal
returns-clause-legal c = only_legal

pub returns-clause-within : goal.returns-clause-within
returns-clause-within c = only_lies

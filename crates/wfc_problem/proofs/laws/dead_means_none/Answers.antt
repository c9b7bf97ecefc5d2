use Rattle.wfc_problem.proofs.Domains.{dead_none}
use Rattle.wfc_problem.proofs.laws.dead_means_none.Goals as goal

pub returns : goal.returns
returns c = record { none = dead_none }

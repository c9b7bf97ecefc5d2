use Rattle.wfc_problem.proofs.Domains.{assignment_stands}
use Rattle.wfc_problem.proofs.laws.assignments_stand.Goals as goal

pub returns : goal.returns
returns c = record { stands = assignment_stands }

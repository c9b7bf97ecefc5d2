use Rattle.wfc_check.proofs.FrontLemmas.{fault_here, right_before}
use Rattle.wfc_check.proofs.laws.faults_are_at_the_first_line.Goals as goal

pub returns : goal.returns
returns c = record { here = fault_here; before = right_before }

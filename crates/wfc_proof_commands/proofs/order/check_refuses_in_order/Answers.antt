use Rattle.wfc_plan.proofs.CallerLemmas.{made_in_order}
use Rattle.wfc_proof_commands.proofs.FlatLemmas.{faults_check}
use Rattle.wfc_proof_commands.proofs.order.check_refuses_in_order.Goals as goal
use Rattle.wfc_proof_commands.specs.Checking.{flat_proofs}
use Rattle.wfc_proof_commands.specs.CheckOrder.{check_order}
use Rattle.wfc_proof_commands.specs.CheckTask.{check_plan}

pub returns-clause-refused : goal.returns-clause-refused
returns-clause-refused c = faults_check

pub returns-clause-made : goal.returns-clause-made
returns-clause-made c = λ asked files. made_in_order (check_plan flat_proofs asked) files (check_order flat_proofs asked files) (faults_check asked files)

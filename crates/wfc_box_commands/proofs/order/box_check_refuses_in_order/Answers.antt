use Rattle.wfc_box_commands.proofs.BoxPromiseLemmas.{faults_box_check}
use Rattle.wfc_box_commands.proofs.order.box_check_refuses_in_order.Goals as goal
use Rattle.wfc_box_commands.specs.BoxProofs.{box_proofs}
use Rattle.wfc_proof_commands.specs.CheckOrder.{check_order}
use Rattle.wfc_proof_commands.specs.CheckTask.{check_plan}
use Rattle.wfc_plan.proofs.CallerLemmas.{made_in_order}

pub returns-clause-refused : goal.returns-clause-refused
returns-clause-refused c = faults_box_check

pub returns-clause-made : goal.returns-clause-made
returns-clause-made c = λ asked files. made_in_order (check_plan box_proofs asked) files (check_order box_proofs asked files) (faults_box_check asked files)

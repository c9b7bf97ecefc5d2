use Rattle.wfc_box_commands.proofs.BoxPromiseLemmas.{faults_box_refute}
use Rattle.wfc_box_commands.proofs.order.box_refute_refuses_in_order.Goals as goal
use Rattle.wfc_box_commands.specs.BoxProofs.{box_proofs}
use Rattle.wfc_proof_commands.specs.RefuteOrder.{refute_order}
use Rattle.wfc_proof_commands.specs.RefuteTask.{refute_plan}
use Rattle.wfc_plan.proofs.CallerLemmas.{made_in_order}

pub returns-clause-refused : goal.returns-clause-refused
returns-clause-refused c = faults_box_refute

pub returns-clause-made : goal.returns-clause-made
returns-clause-made c = λ kinds asked files. made_in_order (refute_plan box_proofs kinds asked) files (refute_order box_proofs kinds asked files) (faults_box_refute kinds asked files)

use Rattle.wfc_plan.proofs.CallerLemmas.{made_in_order}
use Rattle.wfc_proof_commands.proofs.FlatLemmas.{faults_refute}
use Rattle.wfc_proof_commands.proofs.order.refute_refuses_in_order.Goals as goal
use Rattle.wfc_proof_commands.specs.Checking.{flat_proofs}
use Rattle.wfc_proof_commands.specs.RefuteOrder.{refute_order}
use Rattle.wfc_proof_commands.specs.RefuteTask.{refute_plan}

pub returns-clause-refused : goal.returns-clause-refused
returns-clause-refused c = faults_refute

pub returns-clause-made : goal.returns-clause-made
returns-clause-made c = λ kinds asked files. made_in_order (refute_plan flat_proofs kinds asked) files (refute_order flat_proofs kinds asked files) (faults_refute kinds asked files)

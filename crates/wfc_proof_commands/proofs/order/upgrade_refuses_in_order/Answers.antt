use Rattle.wfc_plan.proofs.CallerLemmas.{made_in_order}
use Rattle.wfc_proof_commands.proofs.UpgradeOrderLemmas.{faults_upgrade}
use Rattle.wfc_proof_commands.proofs.order.upgrade_refuses_in_order.Goals as goal
use Rattle.wfc_proof_commands.specs.UpgradeOrder.{upgrade_order}
use Rattle.wfc_proof_commands.specs.UpgradeTask.{upgrade_plan}

pub returns-clause-refused : goal.returns-clause-refused
returns-clause-refused c = faults_upgrade

pub returns-clause-made : goal.returns-clause-made
returns-clause-made c = λ asked files. made_in_order (upgrade_plan asked) files (upgrade_order asked files) (faults_upgrade asked files)

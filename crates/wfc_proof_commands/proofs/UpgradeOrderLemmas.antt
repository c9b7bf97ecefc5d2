-- The first faults of `upgrade`.
use Rattle.std.proofs.Common.{List, [], ◌∷◌}
use Rattle.wfc_outside.specs.Folder.{File}
use Rattle.wfc_plan.proofs.CallerLemmas.{Faults, faults_first, faults_group, faults_none, faults_reading}
use Rattle.wfc_plan.specs.Order.{IsFirstFault}
use Rattle.wfc_plan.specs.Plan.{Plan, done}
use Rattle.wfc_plan.specs.Stages.{IsReadingFault}
use Rattle.wfc_plan.specs.declared.fault.Source.TheVariants.{Refutation}
use Rattle.wfc_proof_commands.proofs.UpgradingLemmas.{behind_upgraded_problem}
use Rattle.wfc_proof_commands.specs.Checking.{refutation_name}
use Rattle.wfc_proof_commands.specs.UpgradeOrder.{upgrade_order}
use Rattle.wfc_proof_commands.specs.UpgradeTask.{UpgradeTask, refutation_file_plan, upgrade, upgrade_plan}
use Rattle.wfc_task.proofs.CallerLemmas.{faults_posed}
use Rattle.wfc_task.specs.Posed.{posed_plan}
use Rattle.wfc_task.specs.PosedOrder.{posed_order}
use Rattle.wfc_words.specs.RequestView.{RequestView}

pub faults_upgrade : (asked : RequestView) (files : List File) → Faults (upgrade_plan asked) files (IsFirstFault (upgrade_order asked files))
faults_upgrade asked files =
    faults_group (posed_plan asked) (behind_upgraded_problem asked) files (posed_order asked files) (IsReadingFault Refutation files (refutation_name asked) ∷ []) (faults_posed asked files)
    (λ P was. faults_first (refutation_file_plan asked) (λ bytes. let end : Plan UpgradeTask = done (upgrade P bytes) in end) files (IsReadingFault Refutation files (refutation_name asked)) []
    (faults_reading Refutation files (refutation_name asked)) (λ bytes read. faults_none (upgrade P bytes) files))

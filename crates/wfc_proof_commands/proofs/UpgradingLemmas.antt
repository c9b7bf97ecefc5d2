-- What `upgrade` comes to.
use Rattle.std.proofs.Common.{List, Ok, ℕ, ◌∙◌, ◌≡◌}
use Rattle.wfc_outside.specs.Folder.{File}
use Rattle.wfc_plan.proofs.CallerLemmas.{done_is, file_given, given_file, outcome_on, outcome_parts}
use Rattle.wfc_plan.specs.Plan.{Plan, and_then, done, outcome}
use Rattle.wfc_plan.specs.declared.fault.Source.TheVariants.{Refutation}
use Rattle.wfc_problem.specs.Network.{Network}
use Rattle.wfc_proof_commands.specs.Checking.{refutation_name}
use Rattle.wfc_proof_commands.specs.UpgradeGiven.{IsUpgradeTask}
use Rattle.wfc_proof_commands.specs.UpgradeTask.{UpgradeTask, refutation_file_plan, upgrade, upgrade_plan}
use Rattle.wfc_task.proofs.CallerLemmas.{given_posed, posed_given}
use Rattle.wfc_task.specs.Posed.{posed_plan}
use Rattle.wfc_words.specs.RequestView.{RequestView}

-- what follows a problem in `upgrade`
abbrev pub behind_upgraded_problem : RequestView → Network → Plan UpgradeTask
behind_upgraded_problem asked P = and_then (refutation_file_plan asked) (λ bytes. done (upgrade P bytes))

pub upgrade_given : (asked : RequestView) (files : List File) (task : UpgradeTask) → outcome (upgrade_plan asked) files ≡ Ok task
    → (P : Network) × (bytes : List ℕ) × (upgrade P bytes ≡ task) × IsUpgradeTask asked files P bytes
upgrade_given asked files task is =
    let made = outcome_parts (posed_plan asked) (behind_upgraded_problem asked) files task is in
    let said = outcome_parts (refutation_file_plan asked) (λ bytes. let end : Plan UpgradeTask = done (upgrade made.0 bytes) in end) files task made.2 in
    (made.0, said.0, done_is _ task files said.2, record { posed = posed_given asked files made.0 made.1; file = file_given Refutation (refutation_name asked) files said.0 said.1 })

pub given_upgrade : (asked : RequestView) (files : List File) (P : Network) (bytes : List ℕ) → IsUpgradeTask asked files P bytes → outcome (upgrade_plan asked) files ≡ Ok (upgrade P bytes)
given_upgrade asked files P bytes task =
    outcome_on (posed_plan asked) (behind_upgraded_problem asked) files P (given_posed asked files P task.posed)
    ∙ outcome_on (refutation_file_plan asked) (λ bytes. let end : Plan UpgradeTask = done (upgrade P bytes) in end) files bytes (given_file Refutation (refutation_name asked) files bytes task.file)

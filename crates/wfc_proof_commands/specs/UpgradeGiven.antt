-- The task of `upgrade` over files that are told, in the subject's words.
use Rattle.std.specs.Prelude.{List, Ok, ℕ, ◌↔◌, ◌≡◌}
use Rattle.wfc_outside.specs.Folder.{File}
use Rattle.wfc_plan.specs.Files.{IsFile}
use Rattle.wfc_plan.specs.Plan.{outcome}
use Rattle.wfc_problem.specs.Network.{Network}
use Rattle.wfc_proof_commands.specs.Checking.{refutation_name}
use Rattle.wfc_proof_commands.specs.UpgradeTask.{upgrade, upgrade_plan}
use Rattle.wfc_task.specs.Posed.{Posed}
use Rattle.wfc_words.specs.RequestView.{RequestView}

-- the problem is that of the request, and the refutation has these bytes, which are no more than a file may have
pub record IsUpgradeTask (asked : RequestView) (files : List File) (P : Network) (bytes : List ℕ) : Type 0 where
  pub posed : Posed asked files P
  pub file : IsFile files (refutation_name asked) bytes

-- over any files `upgrade` comes to a problem and the bytes of a refutation exactly where they are given so
abbrev pub IsUpgradeMade : RequestView → Type 0
IsUpgradeMade asked =
    (files : List File) (P : Network) (bytes : List ℕ)
    → (outcome (upgrade_plan asked) files ≡ Ok (upgrade P bytes)) ↔ IsUpgradeTask asked files P bytes

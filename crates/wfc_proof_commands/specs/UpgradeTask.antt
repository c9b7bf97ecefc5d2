-- The task of `upgrade`: what is read and refused, in order, and what it comes to.
use Rattle.std.specs.Prelude.{Err, List, Ok, Result, ℕ}
use Rattle.wfc_plan.specs.Files.{file_plan}
use Rattle.wfc_plan.specs.Plan.{Plan, and_then, done}
use Rattle.wfc_plan.specs.declared.fault.Fault.{Fault}
use Rattle.wfc_plan.specs.declared.fault.Source.TheVariants.{Refutation}
use Rattle.wfc_problem.specs.Network.{Network}
use Rattle.wfc_proof_commands.specs.Checking.{refutation_name}
use Rattle.wfc_proof_commands.specs.declared.upgrading.Upgrading.{Upgrading}
use Rattle.wfc_task.specs.Posed.{posed_plan}
use Rattle.wfc_words.specs.RequestView.{RequestView}

-- what `upgrade` works on
pub data UpgradeTask : Type 0 where
  upgrade : Network → List ℕ → UpgradeTask

-- the refutation is read whole
abbrev pub refutation_file_plan : RequestView → Plan (List ℕ)
refutation_file_plan asked = file_plan Refutation (refutation_name asked)

-- what `upgrade` comes to: the refutation is read whole once there is a problem
abbrev pub upgrade_plan : RequestView → Plan UpgradeTask
upgrade_plan asked =
    and_then (posed_plan asked) (λ P.
    and_then (refutation_file_plan asked) (λ bytes.
    done (upgrade P bytes)))

-- what the code makes for `upgrade`, as its task, or the fault
abbrev pub upgrade_made : Result Upgrading Fault → Result UpgradeTask Fault
upgrade_made (Ok made) = Ok (upgrade made.problem made.refutation.items)
upgrade_made (Err fault) = Err fault

-- What is looked at for `race`, in which order.
use Rattle.std.specs.Prelude.{List, [], ℕ, ◌++◌, ◌<◌, ◌∷◌, ◌≡◌}
use Rattle.wfc_choose.specs.declared.RuleKind.{RuleKind}
use Rattle.wfc_outside.specs.Folder.{File}
use Rattle.wfc_plan.specs.Stages.{IsChooserFault, TaskStage}
use Rattle.wfc_plan.specs.declared.fault.Fault.{Fault}
use Rattle.wfc_plan.specs.declared.fault.Fault.TheVariants.{Refused}
use Rattle.wfc_plan.specs.declared.fault.Refusal.TheVariants as refusals
use Rattle.wfc_problem.specs.Network.{Network}
use Rattle.wfc_run_commands.specs.RaceTask.{race_product}
use Rattle.wfc_run_commands.specs.declared.racing.TheConstants.{MAX_RACE}
use Rattle.wfc_task.specs.Posed.{Posed}
use Rattle.wfc_task.specs.PosedOrder.{posed_order}
use Rattle.wfc_words.specs.RequestView.{RequestView}

-- a race of so many over this problem is too large
pub record IsLargeFault (many : ℕ) (P : Network) (fault : Fault) : Type 0 where
  pub large : MAX_RACE < race_product many P
  pub is : fault ≡ Refused (refusals.RaceTooLarge (race_product many P))

-- so it is with the race over the problem of the request
abbrev pub IsRaceFault : RequestView → List File → TaskStage
IsRaceFault asked files fault = (P : Network) × Posed asked files P × IsLargeFault asked.seeds P fault

-- for `race` a chooser for each seed, and then the problem, and then its measure
abbrev pub race_order : List RuleKind → RequestView → List File → List TaskStage
race_order kinds asked files =
    IsChooserFault asked.seeds kinds asked.rule ∷ (posed_order asked files ++ (IsRaceFault asked files ∷ []))

-- What is looked at for `domains`, in which order.
use Rattle.std.specs.Prelude.{List, [], ◌++◌, ◌∷◌}
use Rattle.wfc_map_commands.specs.StepStages.{IsRangeFault, IsStepsFault}
use Rattle.wfc_outside.specs.Folder.{File}
use Rattle.wfc_plan.specs.Stages.{IsNamedFault, TaskStage}
use Rattle.wfc_plan.specs.declared.fault.Source.TheVariants.{Steps}
use Rattle.wfc_task.specs.PosedOrder.{posed_order}
use Rattle.wfc_words.specs.RequestView.{RequestView}

-- for `domains` the problem, and then the steps
abbrev pub domains_order : RequestView → List File → List TaskStage
domains_order asked files =
    posed_order asked files
    ++ (IsNamedFault Steps files asked.steps
    ∷ IsStepsFault files asked.steps
    ∷ IsRangeFault asked files
    ∷ [])

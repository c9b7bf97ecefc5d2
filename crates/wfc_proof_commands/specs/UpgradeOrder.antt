-- What is looked at for `upgrade`, in which order.
use Rattle.std.specs.Prelude.{List, [], ◌++◌, ◌∷◌}
use Rattle.wfc_outside.specs.Folder.{File}
use Rattle.wfc_plan.specs.Stages.{IsReadingFault, TaskStage}
use Rattle.wfc_plan.specs.declared.fault.Source.TheVariants.{Refutation}
use Rattle.wfc_proof_commands.specs.Checking.{refutation_name}
use Rattle.wfc_task.specs.PosedOrder.{posed_order}
use Rattle.wfc_words.specs.RequestView.{RequestView}

-- for `upgrade` the problem, and then the file of the refutation, which is read whole
abbrev pub upgrade_order : RequestView → List File → List TaskStage
upgrade_order asked files =
    posed_order asked files ++ (IsReadingFault Refutation files (refutation_name asked) ∷ [])

-- What is looked at for `check`, in which order.
use Rattle.std.specs.Prelude.{List, [], ◌++◌, ◌∷◌}
use Rattle.wfc_outside.specs.Folder.{File}
use Rattle.wfc_plan.specs.Stages.{IsMissingFault, TaskStage}
use Rattle.wfc_plan.specs.declared.fault.Source.TheVariants.{Refutation}
use Rattle.wfc_proof_commands.specs.Checking.{refutation_name}
use Rattle.wfc_proof_commands.specs.TextStages.{IsTextFault}
use Rattle.wfc_proof_commands.specs.ProofKind.{ProofKind}
use Rattle.wfc_words.specs.RequestView.{RequestView}

-- for `check` the problem, and then the refutation, whose length is looked at behind its lines
abbrev pub check_order : ProofKind → RequestView → List File → List TaskStage
check_order space asked files =
    space.order asked files
    ++ (IsMissingFault Refutation files (refutation_name asked) ∷ IsTextFault space asked files ∷ [])

-- What is looked at for `refute`, in which order.
use Rattle.std.specs.Prelude.{List, ◌∷◌}
use Rattle.wfc_choose.specs.declared.RuleKind.{RuleKind}
use Rattle.wfc_outside.specs.Folder.{File}
use Rattle.wfc_plan.specs.Stages.{IsChooserFault, TaskStage}
use Rattle.wfc_proof_commands.specs.ProofKind.{ProofKind}
use Rattle.wfc_words.specs.RequestView.{RequestView}

-- for `refute` the chooser, and then the problem
abbrev pub refute_order : ProofKind → List RuleKind → RequestView → List File → List TaskStage
refute_order space kinds asked files = IsChooserFault 1 kinds asked.rule ∷ space.order asked files

-- What is looked at for `demo`.
use Rattle.std.specs.Prelude.{List, [], ◌∷◌}
use Rattle.wfc_choose.specs.declared.RuleKind.{RuleKind}
use Rattle.wfc_choose.specs.declared.RuleKind.TheVariants.{Fewest}
use Rattle.wfc_plan.specs.Stages.{IsChooserFault, TaskStage}

-- for `demo` the chooser alone
abbrev pub demo_order : List RuleKind → List TaskStage
demo_order kinds = IsChooserFault 1 kinds Fewest ∷ []

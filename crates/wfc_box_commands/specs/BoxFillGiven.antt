-- The task of `box-fill` over files that are told, in the subject's words.
use Rattle.std.specs.Prelude.{List, ◌≡◌}
use Rattle.wfc_box_commands.specs.BoxFillTask.{BoxFillTask, box_fill}
use Rattle.wfc_box_commands.specs.BoxMaps.{IsBoxLaid, OfBox}
use Rattle.wfc_choose.specs.declared.RuleKind.{RuleKind}
use Rattle.wfc_outside.specs.Folder.{File}
use Rattle.wfc_plan.specs.Kinds.{HasChoosers}
use Rattle.wfc_problem.specs.Network.{Network}
use Rattle.wfc_render.specs.declared.form.Form.{Form}
use Rattle.wfc_words.specs.RequestView.{RequestView}

-- a chooser goes by the rule, the tile set and the problem are those of the request, and the form is that of its box
pub record IsBoxFillTask (kinds : List RuleKind) (asked : RequestView) (files : List File)
    (task : BoxFillTask) : Type 0 where
  pub chooser : HasChoosers 1 kinds asked.rule
  pub P : Network
  pub posed : OfBox asked files P
  pub form : Form
  pub laid : IsBoxLaid asked files P posed form
  pub is : box_fill posed.made.0 form P ≡ task

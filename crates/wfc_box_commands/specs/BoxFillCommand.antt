-- The command `box-fill`.
use Rattle.std.specs.Prelude.{List, Some, ◌≡◌}
use Rattle.wfc_box_commands.specs.BoxFillAnswer.{layers_text}
use Rattle.wfc_box_commands.specs.BoxFillTask.{BoxFillTask, box_fill, box_fill_plan}
use Rattle.wfc_box_commands.specs.BoxOrder.{box_fill_order}
use Rattle.wfc_choose.specs.Pick.{Rule}
use Rattle.wfc_lines.specs.Outcome.{no_map_text}
use Rattle.wfc_map_commands.specs.FillAnswer.{fill_by}
use Rattle.wfc_reply.specs.Command.{Command}
use Rattle.wfc_reply.specs.Reply.{Answered}
use Rattle.wfc_words.specs.RequestView.{RequestView}

-- an answer of `box-fill`, by the rules of the choosers: that of `fill`, with the text of a box
abbrev pub BoxFillAnswers : List Rule → RequestView → BoxFillTask → Answered → Type 0
BoxFillAnswers rules asked (box_fill set form P) answered =
    fill_by rules asked (layers_text asked set form) P ≡ Some answered

-- the answer is no where there is no box
abbrev pub box_fill_command : Command
box_fill_command = record {
  Task = BoxFillTask;
  plan = box_fill_plan;
  order = box_fill_order;
  Answers = BoxFillAnswers;
  IsNo = λ rules asked files text. text ≡ no_map_text;
  budget = λ asked. asked.budget;
}

-- The command `fill`.
use Rattle.std.specs.Prelude.{List, Some, ◌≡◌}
use Rattle.wfc_choose.specs.Pick.{Rule}
use Rattle.wfc_lines.specs.Outcome.{no_map_text}
use Rattle.wfc_map_commands.specs.FillAnswer.{fill_by, picture_text, tiles_text}
use Rattle.wfc_map_commands.specs.FillOrder.{fill_order}
use Rattle.wfc_map_commands.specs.FillTask.{FillTask, fill, fill_plan, fill_tiles}
use Rattle.wfc_reply.specs.Command.{Command}
use Rattle.wfc_reply.specs.Reply.{Answered}
use Rattle.wfc_words.specs.RequestView.{RequestView}

-- an answer of `fill`, by the rules of the choosers
abbrev pub FillAnswers : List Rule → RequestView → FillTask → Answered → Type 0
FillAnswers rules asked (fill patterns palette layout P) answered =
    fill_by rules asked (picture_text asked patterns palette layout) P ≡ Some answered
FillAnswers rules asked (fill_tiles set mask layout P) answered =
    fill_by rules asked (tiles_text set mask layout) P ≡ Some answered

-- the answer is no where there is no map
abbrev pub fill_command : Command
fill_command = record {
  Task = FillTask;
  plan = fill_plan;
  order = fill_order;
  Answers = FillAnswers;
  IsNo = λ rules asked files text. text ≡ no_map_text;
  budget = λ asked. asked.budget;
}

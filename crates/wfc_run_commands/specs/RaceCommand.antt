-- The command `race`.
use Rattle.std.specs.Prelude.{List, Some, ◌≡◌}
use Rattle.wfc_choose.specs.Pick.{Rule}
use Rattle.wfc_lines.specs.Outcome.{no_map_text}
use Rattle.wfc_reply.specs.Command.{Command}
use Rattle.wfc_reply.specs.Reply.{Answered}
use Rattle.wfc_run_commands.specs.RaceOrder.{race_order}
use Rattle.wfc_run_commands.specs.RaceTask.{RaceTask, race, race_plan}
use Rattle.wfc_run_commands.specs.Racing.{race_answer, race_end}
use Rattle.wfc_words.specs.RequestView.{RequestView}

-- an answer of `race`, by the rules of the choosers
abbrev pub RaceAnswers : List Rule → RequestView → RaceTask → Answered → Type 0
RaceAnswers rules asked (race P) answered = race_answer asked (race_end rules asked P) ≡ Some answered

-- the answer is no where there is no map
abbrev pub race_command : Command
race_command = record {
  Task = RaceTask;
  plan = race_plan;
  order = race_order;
  Answers = RaceAnswers;
  IsNo = λ rules asked files text. text ≡ no_map_text;
  budget = λ asked. asked.budget;
}

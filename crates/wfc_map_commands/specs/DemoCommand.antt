-- The command `demo`.
use Rattle.std.specs.Prelude.{List, Some, ◌≡◌}
use Rattle.wfc_choose.specs.Pick.{Rule}
use Rattle.wfc_choose.specs.declared.RuleKind.TheVariants.{Fewest}
use Rattle.wfc_lines.specs.Outcome.{no_map_text}
use Rattle.wfc_map_commands.specs.DemoAnswer.{demo_answer, demo_budget}
use Rattle.wfc_map_commands.specs.DemoOrder.{demo_order}
use Rattle.wfc_map_commands.specs.DemoTask.{DemoTask, demo, demo_plan}
use Rattle.wfc_reply.specs.Command.{Command}
use Rattle.wfc_reply.specs.Reply.{Answered}
use Rattle.wfc_reply.specs.RunEnds.{end_of}
use Rattle.wfc_words.specs.RequestView.{RequestView}

-- an answer of `demo`, by the rules of the choosers
abbrev pub DemoAnswers : List Rule → RequestView → DemoTask → Answered → Type 0
DemoAnswers rules asked (demo patterns P) answered =
    demo_answer patterns P (end_of rules Fewest P demo_budget asked.number) ≡ Some answered

-- it is no where there is no map; its run has a budget of its own
abbrev pub demo_command : Command
demo_command = record {
  Task = DemoTask;
  plan = demo_plan;
  order = λ kinds asked files. demo_order kinds;
  Answers = DemoAnswers;
  IsNo = λ rules asked files text. text ≡ no_map_text;
  budget = λ asked. demo_budget;
}

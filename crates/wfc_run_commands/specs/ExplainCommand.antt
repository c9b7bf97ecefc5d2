-- The command `explain`.
use Rattle.std.specs.Prelude.{List, Some, ◌≡◌}
use Rattle.wfc_choose.specs.Pick.{Rule}
use Rattle.wfc_lines.specs.Outcome.{map_exists_text}
use Rattle.wfc_outside.specs.Folder.{FolderView}
use Rattle.wfc_plan.specs.Plan.{Plan}
use Rattle.wfc_reply.specs.Choosers.{first_rule}
use Rattle.wfc_reply.specs.Command.{Command}
use Rattle.wfc_reply.specs.Ends.{MayReply}
use Rattle.wfc_reply.specs.Reply.{Answered, Reply}
use Rattle.wfc_run_commands.specs.ExplainAnswer.{explain_answer, asked_explanation}
use Rattle.wfc_run_commands.specs.ExplainOrder.{explain_order}
use Rattle.wfc_run_commands.specs.ExplainTask.{ExplainTask, explain, explain_plan}
use Rattle.wfc_words.specs.RequestView.{RequestView}

-- an answer of `explain`, by the rules of the choosers
abbrev pub ExplainAnswers : List Rule → RequestView → ExplainTask → Answered → Type 0
ExplainAnswers rules asked (explain v numbers) answered =
    explain_answer asked numbers (asked_explanation (first_rule asked.rule rules) asked v) ≡ Some answered

-- the code behind the choosers may reply so, where what it reads goes by this plan
abbrev pub ExplainsBy : (RequestView → Plan ExplainTask) → List Rule → RequestView → FolderView → FolderView → Reply
    → Type 0
ExplainsBy plan rules asked before after reply = MayReply (plan asked) (ExplainAnswers rules asked) before after reply

-- the answer is no where a map exists
abbrev pub explain_command : Command
explain_command = record {
  Task = ExplainTask;
  plan = explain_plan;
  order = explain_order;
  Answers = ExplainAnswers;
  IsNo = λ rules asked files text. text ≡ map_exists_text;
  budget = λ asked. asked.budget;
}

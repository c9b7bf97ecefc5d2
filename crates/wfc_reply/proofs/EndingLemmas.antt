-- How a command may end that came to an answer.
use Rattle.std.proofs.Common.{Bool, List, Option, Some, false, true, ℕ, ◌≡◌}
use Rattle.wfc_choose.specs.Pick.{Rule}
use Rattle.wfc_outside.specs.Folder.{File}
use Rattle.wfc_outside.specs.Sink.{SinkView}
use Rattle.wfc_reply.proofs.CameLemmas.{HasAnswered}
use Rattle.wfc_reply.specs.Asking.{IsCommand}
use Rattle.wfc_reply.specs.Call.{Call}
use Rattle.wfc_reply.specs.Command.{Command}
use Rattle.wfc_reply.specs.Reply.{IsNoStatus, Answered, TakesWhole, verdict_status, verdict_text}
use Rattle.wfc_reply.specs.declared.reply.CommandVerdict.{CommandVerdict}
use Rattle.wfc_reply.specs.declared.reply.CommandVerdict.TheVariants as verdict
use Rattle.wfc_words.specs.RequestView.{RequestView}
use Rattle.wfc_words.specs.declared.kinds.CommandKind.{CommandKind}

-- a verdict of this command: it is done, its answer is no, or its budget is spent
pub data IsEnding (command : Command) (rules : List Rule) (asked : RequestView) (files : List File) (said : CommandVerdict) : Type 0 where
  as_asked : said ≡ verdict.Done → IsEnding command rules asked files said
  as_no : (text : List ℕ) → verdict_text asked said ≡ Some text → IsNoStatus (verdict_status said) → command.IsNo rules asked files text → IsEnding command rules asked files said
  as_spent : said ≡ verdict.Spent (command.budget asked) → IsEnding command rules asked files said

-- what is taken whole is whole
pub front_taken : (whole : Bool) (text : Option (List ℕ)) (old new : SinkView) → whole ≡ false → TakesWhole whole text old new → ⊥
front_taken true text old new is takes = absurd (cc (is))
front_taken false text old new is takes = takes

-- what a call of this command may end with
abbrev pub EndsSo : CommandKind → Command → Type 0
EndsSo kind command =
    (call : Call) (asked : RequestView) (files : List File) (answered : Answered) → IsCommand kind call asked files → HasAnswered command call.rules asked files answered
    → TakesWhole answered.whole answered.text call.before.out call.after.out → IsEnding command call.rules asked files answered.verdict

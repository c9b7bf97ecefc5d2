-- How a command ends in the code: what it put itself, and what is still to be told.
use Rattle.std.specs.Prelude.{Err, List, Ok, Result, ◌≡◌}
use Rattle.wfc_choose.specs.Pick.{Rule}
use Rattle.wfc_outside.specs.Folder.{FolderView}
use Rattle.wfc_outside.specs.Sink.{SinkView}
use Rattle.wfc_plan.specs.Plan.{Plan}
use Rattle.wfc_reply.specs.Choosers.{kinds_of}
use Rattle.wfc_reply.specs.Command.{Command}
use Rattle.wfc_reply.specs.Ends.{MayReply}
use Rattle.wfc_reply.specs.Reply.{Answered, CutsOff, Reply, TakesWhole}
use Rattle.wfc_reply.specs.declared.reply.Stop.{Stop}
use Rattle.wfc_reply.specs.declared.reply.Stop.TheVariants.{Cut, Unanswered}
use Rattle.wfc_reply.specs.declared.reply.CommandVerdict.{CommandVerdict}
use Rattle.wfc_words.specs.RequestView.{RequestView}

-- what a reply does to the sink of the answer, where the code ends so: with its verdict the whole
-- text, else a front of it, and without an answer nothing
abbrev pub Leaves : Reply → SinkView → SinkView → Result CommandVerdict Stop → Type 0
Leaves (Ok answered) old new (Ok verdict) =
    (verdict ≡ answered.verdict) × TakesWhole answered.whole answered.text old new
Leaves (Ok answered) old new (Err Cut) = CutsOff answered.text old new
Leaves (Err fault) old new (Err (Unanswered other)) = (other ≡ fault) × (new ≡ old)
Leaves _ _ _ _ = ⊥

-- a command with this plan and these answers may end so over this folder and sink
pub record EndsPut {T : Type 0} (plan : Plan T) (Answers : T → Answered → Type 0) (before after : FolderView)
    (old new : SinkView) (ended : Result CommandVerdict Stop) : Type 0 where
  pub reply : Reply
  pub ends : MayReply plan Answers before after reply
  pub leaves : Leaves reply old new ended

-- this command may end so, for this request
abbrev pub EndsAs : Command → List Rule → RequestView → FolderView → FolderView → SinkView → SinkView
    → Result CommandVerdict Stop → Type 0
EndsAs command rules asked before after old new ended =
    EndsPut (command.plan (kinds_of rules) asked) (command.Answers rules asked) before after old new ended

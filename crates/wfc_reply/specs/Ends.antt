-- What a command may reply to its task, and where its plan ended with a fault.
use Rattle.std.specs.Prelude.{Err, List, Ok, Result, ◌≡◌}
use Rattle.wfc_choose.specs.Pick.{Rule}
use Rattle.wfc_outside.specs.Folder.{FolderView}
use Rattle.wfc_plan.specs.Fault.{status_of}
use Rattle.wfc_plan.specs.Plan.{Goes, Plan}
use Rattle.wfc_plan.specs.declared.fault.Fault.{Fault}
use Rattle.wfc_reply.specs.Choosers.{kinds_of}
use Rattle.wfc_reply.specs.Command.{Command}
use Rattle.wfc_reply.specs.Reply.{Answered, Reply}
use Rattle.wfc_words.specs.RequestView.{RequestView}

-- what a command with these answers may reply to its task: an answer, or want of memory
abbrev pub Replies : {T : Type 0} → (T → Answered → Type 0) → T → Reply → Type 0
Replies Answers task (Ok answered) = Answers task answered
Replies Answers task (Err fault) = status_of fault ≡ 6

-- what it may reply where its plan ended so: the fault, or a reply to the task
abbrev pub Replied : {T : Type 0} → (T → Answered → Type 0) → Result T Fault → Reply → Type 0
Replied Answers (Ok task) reply = Replies Answers task reply
Replied Answers (Err fault) reply = reply ≡ Err fault

-- what a command with this plan and these answers may reply over this folder
pub record MayReply {T : Type 0} (plan : Plan T) (Answers : T → Answered → Type 0) (before after : FolderView)
    (reply : Reply) : Type 0 where
  pub ended : Result T Fault
  pub goes : Goes plan before after ended
  pub replied : Replied Answers ended reply

-- what this command may reply over this folder, for this request
abbrev pub EndsBy : Command → List Rule → RequestView → FolderView → FolderView → Reply → Type 0
EndsBy command rules asked before after reply =
    MayReply (command.plan (kinds_of rules) asked) (command.Answers rules asked) before after reply

-- What a command is.
use Rattle.std.specs.Prelude.{List, ℕ}
use Rattle.wfc_choose.specs.Pick.{Rule}
use Rattle.wfc_choose.specs.declared.RuleKind.{RuleKind}
use Rattle.wfc_outside.specs.Folder.{File}
use Rattle.wfc_plan.specs.Plan.{Plan}
use Rattle.wfc_plan.specs.Refusing.{IsMadeInOrder, IsRefusedInOrder}
use Rattle.wfc_plan.specs.Stages.{TaskStage}
use Rattle.wfc_reply.specs.Reply.{Answered}
use Rattle.wfc_words.specs.RequestView.{RequestView}

-- a command: what it comes to, and by which plan, where these are the kinds of the choosers; what is looked
-- at for it over files that are told, in which order; what it may
-- answer, where these are their rules; the text of its line where the answer is no; and the budget of its run
pub record Command : Type 1 where
  pub Task : Type 0
  pub plan : List RuleKind → RequestView → Plan Task
  pub order : List RuleKind → RequestView → List File → List TaskStage
  pub Answers : List Rule → RequestView → Task → Answered → Type 0
  pub IsNo : List Rule → RequestView → List File → List ℕ → Type 0
  pub budget : RequestView → ℕ

-- by its plan the command has a fault exactly where it is that of the first stage of its order that has one
abbrev pub IsRefusedByOrder : Command → Type 0
IsRefusedByOrder command =
    (kinds : List RuleKind) (asked : RequestView) (files : List File)
    → IsRefusedInOrder (command.plan kinds asked) files (command.order kinds asked files)

-- by its plan the command comes to something exactly where none of the stages of its order has a fault
abbrev pub IsMadeByOrder : Command → Type 0
IsMadeByOrder command =
    (kinds : List RuleKind) (asked : RequestView) (files : List File)
    → IsMadeInOrder (command.plan kinds asked) files (command.order kinds asked files)

-- How a command ends after its plan.
use Rattle.std.proofs.Common.{Bool, Err, List, Ok, Option, Result, inr, refl, subst, true, ℕ, ◌≡◌}
use Rattle.wfc_choose.specs.Pick.{Rule}
use Rattle.wfc_choose.specs.declared.RuleKind.{RuleKind}
use Rattle.wfc_outside.specs.Folder.{FolderView}
use Rattle.wfc_outside.specs.Sink.{SinkView}
use Rattle.wfc_plan.specs.Fault.{status_of}
use Rattle.wfc_plan.specs.Plan.{Goes, Plan}
use Rattle.wfc_plan.specs.declared.fault.Fault.{Fault}
use Rattle.wfc_reply.specs.Choosers.{kinds_of}
use Rattle.wfc_reply.specs.Ending.{EndsPut, Leaves}
use Rattle.wfc_reply.specs.Ends.{MayReply, Replied}
use Rattle.wfc_reply.specs.Reply.{Answered, CutsOff, Reply, Takes}
use Rattle.wfc_reply.specs.declared.reply.Stop.{Stop}
use Rattle.wfc_reply.specs.declared.reply.Stop.TheVariants.{Cut, Unanswered}
use Rattle.wfc_reply.specs.declared.reply.CommandVerdict.{CommandVerdict}

-- a command ends as its plan does, and then with its reply
pub ends_by : {T : Type 0} (plan : Plan T) (Answers : T → Answered → Type 0) (before after : FolderView) (ended : Result T Fault) (reply : Reply)
    → Goes plan before after ended → Replied Answers ended reply → MayReply plan Answers before after reply
ends_by plan Answers before after ended reply goes replied = record { ended = ended; goes = goes; replied = replied }

-- the same of a command that was given the kinds of its choosers
pub ends_with : {T : Type 0} (rules : List Rule) (kinds : List RuleKind) (plan : List RuleKind → Plan T) (Answers : List Rule → T → Answered → Type 0) (before after : FolderView) (ended : Result T Fault) (reply : Reply)
    → kinds ≡ kinds_of rules → Goes (plan kinds) before after ended → Replied (Answers rules) ended reply → MayReply (plan (kinds_of rules)) (Answers rules) before after reply
ends_with rules kinds plan Answers before after ended reply same goes replied =
    record { ended = ended; goes = subst (λ ks. Goes (plan ks) before after ended) same goes; replied = replied }

-- a command for which there is no memory
pub ends_short : {T : Type 0} (plan : Plan T) (Answers : T → Answered → Type 0) (folder : FolderView) (fault : Fault) → status_of fault ≡ 6 → MayReply plan Answers folder folder (Err fault)
ends_short plan Answers folder fault six = record { ended = Err fault; goes = inr (refl, (fault, six, refl)); replied = refl }

-- ---- a command that was given the kinds of its choosers

-- its plan ended with a fault
pub ends_fault : {T : Type 0} (rules : List Rule) (kinds : List RuleKind) (plan : List RuleKind → Plan T) (Answers : List Rule → T → Answered → Type 0) (before after : FolderView) (fault : Fault)
    → kinds ≡ kinds_of rules → Goes (plan kinds) before after (Err fault) → MayReply (plan (kinds_of rules)) (Answers rules) before after (Err fault)
ends_fault rules kinds plan Answers before after fault same goes = ends_with rules kinds plan Answers before after (Err fault) (Err fault) same goes refl

-- it came to its task, and answered
pub ends_answered : {T : Type 0} (rules : List Rule) (kinds : List RuleKind) (plan : List RuleKind → Plan T) (Answers : List Rule → T → Answered → Type 0) (before after : FolderView) (task : T) (answered : Answered)
    → kinds ≡ kinds_of rules → Goes (plan kinds) before after (Ok task) → Answers rules task answered → MayReply (plan (kinds_of rules)) (Answers rules) before after (Ok answered)
ends_answered rules kinds plan Answers before after task answered same goes answers = ends_with rules kinds plan Answers before after (Ok task) (Ok answered) same goes answers

-- it came to its task, and memory ran out over the answer
pub ends_exhausted : {T : Type 0} (rules : List Rule) (kinds : List RuleKind) (plan : List RuleKind → Plan T) (Answers : List Rule → T → Answered → Type 0) (before after : FolderView) (task : T) (fault : Fault)
    → kinds ≡ kinds_of rules → Goes (plan kinds) before after (Ok task) → status_of fault ≡ 6 → MayReply (plan (kinds_of rules)) (Answers rules) before after (Err fault)
ends_exhausted rules kinds plan Answers before after task fault same goes six = ends_with rules kinds plan Answers before after (Ok task) (Err fault) same goes six

-- ---- a command that puts its text itself

-- the same of one that puts its text itself
pub put_exhausted : {T : Type 0} (plan : Plan T) (Answers : T → Answered → Type 0) (folder : FolderView) (sink : SinkView) (fault : Fault) → status_of fault ≡ 6
    → EndsPut plan Answers folder folder sink sink (Err (Unanswered fault))
put_exhausted plan Answers folder sink fault six = record { reply = Err fault; ends = ends_short plan Answers folder fault six; leaves = (refl, refl) }

-- a command whose reply is put behind it
pub put_reply : {T : Type 0} (plan : Plan T) (Answers : T → Answered → Type 0) (before after : FolderView) (old new : SinkView) (reply : Reply) (ended : Result CommandVerdict Stop)
    → MayReply plan Answers before after reply → Leaves reply old new ended → EndsPut plan Answers before after old new ended
put_reply plan Answers before after old new reply ended ends leaves = record { reply = reply; ends = ends; leaves = leaves }

-- a command that puts its text itself: its plan ended with a fault, and nothing was put
pub put_none : {T : Type 0} (plan : Plan T) (Answers : T → Answered → Type 0) (before after : FolderView) (sink : SinkView) (fault : Fault)
    → Goes plan before after (Err fault) → EndsPut plan Answers before after sink sink (Err (Unanswered fault))
put_none plan Answers before after sink fault goes =
    record { reply = Err fault; ends = ends_by plan Answers before after (Err fault) (Err fault) goes refl; leaves = (refl, refl) }

-- its plan came to a task, and then memory ran out before anything was put
pub put_short : {T : Type 0} (plan : Plan T) (Answers : T → Answered → Type 0) (before after : FolderView) (sink : SinkView) (task : T) (fault : Fault)
    → Goes plan before after (Ok task) → status_of fault ≡ 6 → EndsPut plan Answers before after sink sink (Err (Unanswered fault))
put_short plan Answers before after sink task fault goes short =
    record { reply = Err fault; ends = ends_by plan Answers before after (Ok task) (Err fault) goes short; leaves = (refl, refl) }

-- the whole text of an answer was put
pub put_whole : {T : Type 0} (plan : Plan T) (Answers : T → Answered → Type 0) (before after : FolderView) (old new : SinkView) (task : T) (verdict : CommandVerdict) (text : Option (List ℕ))
    → Goes plan before after (Ok task) → Answers task (record { verdict = verdict; text = text; whole = true }) → Takes text old new → EndsPut plan Answers before after old new (Ok verdict)
put_whole plan Answers before after old new task verdict text goes answers takes =
    record {
      reply = Ok (record { verdict = verdict; text = text; whole = true });
      ends = ends_by plan Answers before after (Ok task) (Ok (record { verdict = verdict; text = text; whole = true })) goes answers;
      leaves = (refl, takes);
    }

-- a front of it was put
pub put_cut : {T : Type 0} (plan : Plan T) (Answers : T → Answered → Type 0) (before after : FolderView) (old new : SinkView) (task : T) (verdict : CommandVerdict) (text : Option (List ℕ)) (whole : Bool)
    → Goes plan before after (Ok task) → Answers task (record { verdict = verdict; text = text; whole = whole }) → CutsOff text old new → EndsPut plan Answers before after old new (Err Cut)
put_cut plan Answers before after old new task verdict text whole goes answers cut =
    record {
      reply = Ok (record { verdict = verdict; text = text; whole = whole });
      ends = ends_by plan Answers before after (Ok task) (Ok (record { verdict = verdict; text = text; whole = whole })) goes answers;
      leaves = cut;
    }

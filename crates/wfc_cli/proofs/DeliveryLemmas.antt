-- A call that ended so is an answer to its request.
use Rattle.std.proofs.Common.{Err, List, Ok, Result, Some, ap, inl, inr, subst, sym, ◌∙◌, ◌≡◌, ◌⊎◌}
use Rattle.wfc_choose.specs.Pick.{Rule}
use Rattle.wfc_cli.specs.Answer.{AnswersAsked, IsAnswer, IsRefusedCall}
use Rattle.wfc_cli.specs.Commands.{asked_command, command_of}
use Rattle.wfc_cli.specs.Delivery.{Delivers, Says, Tells, said_of}
use Rattle.wfc_cli.specs.ErrorLine.{command_status, fault_text}
use Rattle.wfc_lines.specs.Command.{text_of_command}
use Rattle.wfc_outside.specs.Folder.{FolderView}
use Rattle.wfc_outside.specs.Sink.{SinkView}
use Rattle.wfc_plan.specs.Fault.{status_of}
use Rattle.wfc_reply.specs.Call.{Call}
use Rattle.wfc_reply.specs.Ending.{EndsAs, Leaves}
use Rattle.wfc_reply.specs.Reply.{Reply, verdict_status, verdict_text}
use Rattle.wfc_reply.specs.declared.reply.Stop.{Stop}
use Rattle.wfc_reply.specs.declared.reply.Stop.TheVariants.{Cut, Unanswered}
use Rattle.wfc_reply.specs.declared.reply.CommandVerdict.{CommandVerdict}
use Rattle.wfc_words.specs.Request.{request_of}
use Rattle.wfc_words.specs.RequestView.{RequestView}
use Rattle.wfc_words.specs.declared.fault.CommandFault.{CommandFault}
use Rattle.wfc_words.specs.declared.fault.CommandFault.TheVariants.{NoMemory}
use Rattle.wfc_words.specs.declared.kinds.CommandKind.{CommandKind}

-- the command of a request ends so where that of its kind does
pub ends_of : (rules : List Rule) (asked : RequestView) (kind : CommandKind) (before after : FolderView) (old new : SinkView) (ended : Result CommandVerdict Stop) → asked.command ≡ kind
    → EndsAs (command_of kind) rules asked before after old new ended → EndsAs (asked_command asked) rules asked before after old new ended
ends_of rules asked kind before after old new ended is ends =
    subst (λ (k : CommandKind). EndsAs (command_of k) rules asked before after old new ended) (sym is) ends

-- ---- the call

-- a call for a request that ended so, and said so
pub answered : (call : Call) (asked : RequestView) (ended : Result CommandVerdict Stop) → request_of call.words ≡ Ok asked
    → EndsAs (asked_command asked) call.rules asked call.before.folder call.after.folder call.before.out call.after.out ended
    → Says asked ended call.before.err call.after.err call.status → IsAnswer call
answered call asked ended spelled put says = record {
  answers = inl (subst (λ request. AnswersAsked call request) (sym spelled) (record { reply = put.reply; ends = put.ends; delivers = by_reply put.reply ended put.leaves says }));
}
  where
    by_reply : (reply : Reply) (ended : Result CommandVerdict Stop) → Leaves reply call.before.out call.after.out ended → Says asked ended call.before.err call.after.err call.status → Delivers (said_of asked reply) call
    by_reply (Ok answer) (Ok verdict) leaves says = inl (record {
      taken = leaves.1;
      told = subst (λ v. Tells (verdict_text asked v) call.before.err call.after.err) leaves.0 says.0;
      same_status = says.1 ∙ ap verdict_status leaves.0;
    })
    by_reply (Ok answer) (Err Cut) leaves says = inr (record { front = leaves; told = says.0; five = says.1 })
    by_reply (Err fault) (Err (Unanswered other)) leaves says = inl (record {
      taken = leaves.1;
      told = subst (λ f. Tells (Some (fault_text asked f)) call.before.err call.after.err) leaves.0 says.0;
      same_status = says.1 ∙ ap status_of leaves.0;
    })
    by_reply (Ok answer) (Err (Unanswered other)) leaves says = absurd leaves
    by_reply (Err fault) (Ok verdict) leaves says = absurd leaves
    by_reply (Err fault) (Err Cut) leaves says = absurd leaves

-- a call whose words were read as no request
pub unanswered : (call : Call) (fault : CommandFault) → call.after.folder ≡ call.before.folder → call.after.out ≡ call.before.out
    → (request_of call.words ≡ Err fault) ⊎ (fault ≡ NoMemory) → call.status ≡ command_status fault
    → Tells (Some (text_of_command fault)) call.before.err call.after.err → IsAnswer call
unanswered call fault folder out why same told = by_why why
  where
    denied : (fault : CommandFault) → call.status ≡ command_status fault → Tells (Some (text_of_command fault)) call.before.err call.after.err → IsRefusedCall fault call
    denied fault same told = record { folder = folder; delivers = inl (record { taken = out; told = told; same_status = same }) }

    by_why : (request_of call.words ≡ Err fault) ⊎ (fault ≡ NoMemory) → IsAnswer call
    by_why (inl is) = record { answers = inl (subst (λ request. AnswersAsked call request) (sym is) (denied fault same told)) }
    by_why (inr short) = record { answers = inr (denied NoMemory (same ∙ ap command_status short) (subst (λ f. Tells (Some (text_of_command f)) call.before.err call.after.err) short told)) }

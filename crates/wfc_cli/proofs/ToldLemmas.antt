-- What the end of a call tells of its reply: the fault of its plan or of its task, and what it is where the files are told.
use Rattle.std.proofs.Common.{Err, List, None, Ok, Option, Result, Some, inl, inr, refl, subst, ℕ, ◌≡◌, ◌⊎◌}
use Rattle.wfc_cli.specs.Answer.{AnswersAsked, IsAnswer, IsAnswerTo, IsRefusedCall}
use Rattle.wfc_cli.specs.Commands.{AnswersTask, asked_command, plan_of, task_of}
use Rattle.wfc_cli.specs.Delivery.{Delivers, said_of}
use Rattle.wfc_cli.specs.ErrorLine.{command_status}
use Rattle.wfc_outside.specs.Count.{HasRisen}
use Rattle.wfc_outside.specs.Folder.{File}
use Rattle.wfc_outside.specs.Sink.{SinkView}
use Rattle.wfc_outside.specs.declared.whole.ReadFault.TheVariants as reading
use Rattle.wfc_plan.proofs.CallerLemmas.{IsStopped, goes_stopped}
use Rattle.wfc_plan.specs.Fault.{status_of}
use Rattle.wfc_plan.specs.Plan.{Goes, IsShort}
use Rattle.wfc_plan.specs.declared.fault.Fault.{Fault}
use Rattle.wfc_plan.specs.declared.fault.Fault.TheVariants.{Unread}
use Rattle.wfc_reply.specs.Asking.{IsGiven}
use Rattle.wfc_reply.specs.Call.{Call}
use Rattle.wfc_reply.specs.Ends.{MayReply, Replied, Replies}
use Rattle.wfc_reply.specs.Reply.{Answered, CutsOff, Reply}
use Rattle.wfc_words.specs.Request.{request_of}
use Rattle.wfc_words.specs.RequestView.{RequestView}
use Rattle.wfc_words.specs.declared.fault.CommandFault.{CommandFault}
use Rattle.wfc_words.specs.declared.fault.CommandFault.TheVariants as words_fault

-- the status of words that are no request is 3 or 6
pub command_between : (fault : CommandFault) → (command_status fault ≡ 3) ⊎ (command_status fault ≡ 6)
command_between words_fault.Refused = inl refl
command_between (words_fault.Value name) = inl refl
command_between words_fault.NoMemory = inr refl

-- a command that was given its task has no other fault than want of memory
pub replied_short : {T : Type 0} (AnswersTask : T → Answered → Type 0) (task : T) (fault : Fault) → Replies AnswersTask task (Err fault) → status_of fault ≡ 6
replied_short AnswersTask task fault replied = replied

-- a reply to a plan that ended with a fault is that fault
pub replied_fault : {T : Type 0} (AnswersTask : T → Answered → Type 0) (ended : Result T Fault) (reply : Reply) (fault : Fault) → ended ≡ Err fault → Replied AnswersTask ended reply → reply ≡ Err fault
replied_fault AnswersTask ended reply fault is replied = subst (λ e. Replied AnswersTask e reply) is replied

-- the fault of a reply to a task is want of memory, and else it is that of the plan
pub data FaultOf (call : Call) (asked : RequestView) (fault : Fault) : Type 0 where
  of_plan : Goes (plan_of call.rules asked) call.before.folder call.after.folder (Err fault) → FaultOf call asked fault
  of_task : status_of fault ≡ 6 → FaultOf call asked fault

pub fault_from : (call : Call) (asked : RequestView) (fault : Fault) → MayReply (plan_of call.rules asked) (AnswersTask call.rules asked) call.before.folder call.after.folder (Err fault) → FaultOf call asked fault
fault_from call asked fault ends = by_end ends.ended ends.goes ends.replied
  where
    by_end : (ended : Result (asked_command asked).Task Fault) → Goes (plan_of call.rules asked) call.before.folder call.after.folder ended → Replied (AnswersTask call.rules asked) ended (Err fault) → FaultOf call asked fault
    by_end (Ok task) goes replied = of_task (replied_short (AnswersTask call.rules asked) task fault replied)
    by_end (Err other) goes replied =
        let same : other ≡ fault = cc (replied) in
        of_plan (subst (λ f. let ended : Result (asked_command asked).Task Fault = Err f in Goes (plan_of call.rules asked) call.before.folder call.after.folder ended) same goes)

-- what a call with words that are no request does to its status
pub refused_status : (fault : CommandFault) (call : Call) → IsRefusedCall fault call → (call.status ≡ command_status fault) × (call.after.out ≡ call.before.out)
refused_status fault call denied = elim (denied.delivers) [ inl delivered ↦ (delivered.same_status, delivered.taken) | inr cut ↦ absurd (cut.front) ]

-- a cut text leaves a counted fault
pub cut_counted : (text : Option (List ℕ)) (old new : SinkView) → CutsOff text old new → HasRisen old.faults new.faults
cut_counted None old new cut = absurd cut
cut_counted (Some text) old new cut = cut.counted

-- what a reply is where the files are told: the one to the task, or want of memory, or a counted fault
abbrev pub ToldReply : Call → RequestView → List File → Reply → Type 0
ToldReply call asked files reply =
    Replied (AnswersTask call.rules asked) (task_of call.rules asked files) reply
    ⊎ (IsShort reply ⊎ IsStopped (plan_of call.rules asked) call.before.folder call.after.folder reply)

pub told_reply : (call : Call) (asked : RequestView) (files : List File) (reply : Reply) → call.before.folder.contents ≡ Some files → MayReply (plan_of call.rules asked) (AnswersTask call.rules asked) call.before.folder call.after.folder reply → ToldReply call asked files reply
told_reply call asked files reply told ends = by_end (goes_stopped (plan_of call.rules asked) call.before.folder call.after.folder ends.ended files told ends.goes)
  where
    by_end : (ends.ended ≡ task_of call.rules asked files) ⊎ (IsShort ends.ended ⊎ IsStopped (plan_of call.rules asked) call.before.folder call.after.folder ends.ended) → ToldReply call asked files reply
    by_end (inl is) = inl (subst (λ e. Replied (AnswersTask call.rules asked) e reply) is ends.replied)
    by_end (inr (inl (fault, six, is))) = inr (inl (fault, six, replied_fault (AnswersTask call.rules asked) ends.ended reply fault is ends.replied))
    by_end (inr (inr hindered)) = inr (inr (record {
      source = hindered.source;
      name = hindered.name;
      reached = hindered.reached;
      counted = hindered.counted;
      is = replied_fault (AnswersTask call.rules asked) ends.ended reply (Unread hindered.source reading.Failed) hindered.is ends.replied;
    }))

-- a call that was given its request and files: memory ran out over the words, or its reply is that of the told files, and is delivered
pub data IsToldCall (call : Call) (asked : RequestView) (files : List File) : Type 0 where
  short : call.status ≡ 6 → call.after.out ≡ call.before.out → IsToldCall call asked files
  told : (reply : Reply) → ToldReply call asked files reply → Delivers (said_of asked reply) call
      → IsToldCall call asked files

pub told_call : (call : Call) → IsAnswer call → (asked : RequestView) (files : List File) → IsGiven call asked files
    → IsToldCall call asked files
told_call call answer asked files given = elim (answer.answers) [ inl to ↦ by_request to | inr denied ↦ by_words denied ]
  where
    by_words : IsRefusedCall words_fault.NoMemory call → IsToldCall call asked files
    by_words denied = let is = refused_status words_fault.NoMemory call denied in short is.0 is.1

    by_request : AnswersAsked call (request_of call.words) → IsToldCall call asked files
    by_request answers =
        let to : IsAnswerTo call asked = subst (λ request. AnswersAsked call request) given.spelled answers in
        told to.reply (told_reply call asked files to.reply given.told to.ends) to.delivers

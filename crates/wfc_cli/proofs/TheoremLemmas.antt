-- What the relation of a call says by the class of its end alone, whichever the command.
use Rattle.std.proofs.Common.{Bool, Err, List, None, Ok, Option, Result, Some, ap, arith, false, inl, inr, refl, subst, sym, true, ℕ, ◌∙◌, ◌≡◌, ◌≤◌, ◌⊎◌}
use Rattle.std.specs.Result.{IsErr}
use Rattle.wfc_cli.proofs.ToldLemmas.{FaultOf, IsToldCall, ToldReply, command_between, cut_counted, fault_from, of_plan, of_task, refused_status, replied_fault, replied_short, short, told, told_call}
use Rattle.wfc_cli.specs.Answer.{AnswersAsked, IsAnswer, IsAnswerTo, IsRefusedCall}
use Rattle.wfc_cli.specs.Commands.{AnswersTask, asked_command, plan_of, task_of}
use Rattle.wfc_cli.specs.Delivery.{Delivers, IsDelivered, said_of}
use Rattle.wfc_cli.specs.Theorem.{CountsStand, HasDeviceFault, HasFirstFault, HasRefusedWords, IsAnswered, IsComplete, IsFileFault, IsNoCommand, IsQuiet, IsRefusedFirst, IsRefusedWith, KeepsOut, NoneCounted, RefusesWords}
use Rattle.wfc_outside.specs.Count.{HasRisen}
use Rattle.wfc_outside.specs.Folder.{File}
use Rattle.wfc_outside.specs.Sink.{SinkView}
use Rattle.wfc_outside.specs.declared.whole.ReadFault.TheVariants as reading
use Rattle.wfc_plan.proofs.CallerLemmas.{first_missing, goes_quiet, goes_reading, never_3}
use Rattle.wfc_plan.specs.Fault.{status_of}
use Rattle.wfc_plan.specs.Plan.{Goes}
use Rattle.wfc_plan.specs.declared.fault.Fault.{Fault}
use Rattle.wfc_plan.specs.declared.fault.Fault.TheVariants.{Unread}
use Rattle.wfc_reply.proofs.CallerLemmas.{verdict_apart}
use Rattle.wfc_reply.specs.Asking.{IsGiven}
use Rattle.wfc_reply.specs.Call.{Call}
use Rattle.wfc_reply.specs.Ends.{MayReply, Replied, Replies}
use Rattle.wfc_reply.specs.Reply.{Reply, Takes, TakesWhole}
use Rattle.wfc_words.specs.Request.{request_of}
use Rattle.wfc_words.specs.RequestView.{RequestView}
use Rattle.wfc_words.specs.declared.fault.CommandFault.{CommandFault}
use Rattle.wfc_words.specs.declared.fault.CommandFault.TheVariants as words_fault

-- a call for a request never ends with the status of other words
never_other : (call : Call) (asked : RequestView) → IsAnswerTo call asked → call.status ≡ 3 → ⊥
never_other call asked answer three = by_reply answer.reply answer.delivers
  where
    by_reply : (reply : Reply) → Delivers (said_of asked reply) call → ⊥
    by_reply (Ok answered) (inl delivered) = verdict_apart answered.verdict 3 (omega arith) (omega arith) (sym delivered.same_status ∙ three)
    by_reply (Err fault) (inl delivered) = never_3 fault (sym delivered.same_status ∙ three)
    by_reply reply (inr cut) = omega (arith, cut.five, three)

-- status 3 comes only where the words are no command
pub is_no_command : (call : Call) → IsAnswer call → RefusesWords call
is_no_command call answer three = elim (answer.answers) [
  | inl to ↦ by_request (request_of call.words) refl to
  | inr denied ↦ absurd (omega (arith, (refused_status words_fault.NoMemory call denied).0, three))
]
  where
    by_request : (request : Result RequestView CommandFault) → request_of call.words ≡ request → AnswersAsked call request → IsNoCommand call
    by_request (Ok asked) is answer = absurd (never_other call asked answer three)
    by_request (Err fault) is answer = subst IsErr (sym is) refl

-- words that are no command are answered with status 3, or memory runs out
pub no_command_is_3 : (call : Call) → IsAnswer call → HasRefusedWords call
no_command_is_3 call answer none = elim (answer.answers) [
  | inl to ↦ by_request (request_of call.words) to none
  | inr denied ↦ inr (refused_status words_fault.NoMemory call denied).0
]
  where
    by_request : (request : Result RequestView CommandFault) → AnswersAsked call request → IsErr request → (call.status ≡ 3) ⊎ (call.status ≡ 6)
    by_request (Ok asked) answer none = absurd (cc)
    by_request (Err fault) answer none = elim (command_between fault) [
      | inl three ↦ inl ((refused_status fault call answer).0 ∙ three)
      | inr six ↦ inr ((refused_status fault call answer).0 ∙ six)
    ]

-- what is taken whole is taken
taken_whole : (whole : Bool) (text : Option (List ℕ)) (old new : SinkView) → TakesWhole whole text old new → Takes text old new
taken_whole true text old new takes = takes
taken_whole false text old new takes = absurd takes

-- what is taken raises no count
taken_quiet : (text : Option (List ℕ)) (old new : SinkView) → Takes text old new → new.faults ≡ old.faults
taken_quiet None old new takes = ap (λ (s : SinkView). s.faults) takes
taken_quiet (Some text) old new takes = ap (λ (s : SinkView). s.faults) takes

-- at each status but 5 no count rose
pub keeps_counts : (call : Call) → IsAnswer call → CountsStand call
keeps_counts call answer not5 = elim (answer.answers) [ inl to ↦ by_request (request_of call.words) to | inr denied ↦ by_refusal words_fault.NoMemory denied ]
  where
    by_refusal : (fault : CommandFault) → IsRefusedCall fault call → IsQuiet call
    by_refusal fault answer = record { folder = answer.folder; out = ap (λ (s : SinkView). s.faults) (refused_status fault call answer).1 }

    by_reply : (asked : RequestView) (reply : Reply) → MayReply (plan_of call.rules asked) (AnswersTask call.rules asked) call.before.folder call.after.folder reply → IsDelivered (said_of asked reply) call → IsQuiet call
    by_reply asked reply ends delivered = record {
      folder = goes_quiet (plan_of call.rules asked) call.before.folder call.after.folder ends.ended ends.goes (λ fault is five.
          let as_fault : reply ≡ Err fault = replied_fault (AnswersTask call.rules asked) ends.ended reply fault is ends.replied in
          not5 (delivered.same_status ∙ ap (λ r. (said_of asked r).status) as_fault ∙ five));
      out = taken_quiet (said_of asked reply).text call.before.out call.after.out (taken_whole (said_of asked reply).whole (said_of asked reply).text call.before.out call.after.out delivered.taken);
    }

    by_request : (request : Result RequestView CommandFault) → AnswersAsked call request → IsQuiet call
    by_request (Ok asked) answer = elim (answer.delivers) [ inl delivered ↦ by_reply asked answer.reply answer.ends delivered | inr cut ↦ absurd (not5 cut.five) ]
    by_request (Err fault) answer = by_refusal fault answer

-- with the statuses of faults but 5 the sink of the answer is as before
pub keeps_out : (call : Call) → IsAnswer call → KeepsOut call
keeps_out call answer without = elim (answer.answers) [ inl to ↦ by_request (request_of call.words) to | inr denied ↦ (refused_status words_fault.NoMemory call denied).1 ]
  where
    low : (3 ≤ call.status) × (call.status ≤ 7) × (call.status ≡ 5 → ⊥)
    low = elim without [
      | inl three ↦ (omega arith, omega arith, λ five. omega arith)
      | inr other ↦ elim other [
        | inl four ↦ (omega arith, omega arith, λ five. omega arith)
        | inr more ↦ elim more [ inl six ↦ (omega arith, omega arith, λ five. omega arith) | inr seven ↦ (omega arith, omega arith, λ five. omega arith) ]
      ]
    ]

    by_reply : (asked : RequestView) (reply : Reply) → Delivers (said_of asked reply) call → call.after.out ≡ call.before.out
    by_reply asked (Ok answered) (inl delivered) = absurd (verdict_apart answered.verdict call.status low.0 low.1 (sym delivered.same_status))
    by_reply asked (Err fault) (inl delivered) = delivered.taken
    by_reply asked reply (inr cut) = absurd (low.2 cut.five)

    by_request : (request : Result RequestView CommandFault) → AnswersAsked call request → call.after.out ≡ call.before.out
    by_request (Ok asked) answer = by_reply asked answer.reply answer.delivers
    by_request (Err fault) answer = (refused_status fault call answer).1

-- the status of words that are no request isn't 5
command_not_5 : (fault : CommandFault) (call : Call) → IsRefusedCall fault call → call.status ≡ 5 → ⊥
command_not_5 fault call denied five = elim (command_between fault) [
  | inl three ↦ omega (arith, (refused_status fault call denied).0, three, five)
  | inr six ↦ omega (arith, (refused_status fault call denied).0, six, five)
]

-- a plan that ends with the status of a device ended at a file
pub file_fault : (call : Call) (asked : RequestView) (fault : Fault) → Goes (plan_of call.rules asked) call.before.folder call.after.folder (Err fault) → status_of fault ≡ 5
    → (file : IsFileFault call asked) × (fault ≡ Unread file.source file.fault)
file_fault call asked fault goes five =
    let ends = goes_reading (plan_of call.rules asked) call.before.folder call.after.folder fault goes five in (
      record {
        source = ends.source;
        name = ends.name;
        fault = ends.why;
        reached = ends.reached;
        cause = ends.cause;
        first = λ missing files told. first_missing (plan_of call.rules asked) call.before.folder call.after.folder fault ends.source files goes (ends.is ∙ ap (λ why. Unread ends.source why) missing) told;
      },
      ends.is,
    )

-- status 5 comes only from a file or from the sink of the answer
pub is_device_fault : (call : Call) → IsAnswer call → HasDeviceFault call
is_device_fault call answer five = elim (answer.answers) [
  | inl to ↦ by_request (request_of call.words) to
  | inr denied ↦ absurd (command_not_5 words_fault.NoMemory call denied five)
]
  where
    by_fault : (asked : RequestView) (fault : Fault) → status_of fault ≡ 5 → FaultOf call asked fault → IsFileFault call asked
    by_fault asked fault is (of_plan goes) = (file_fault call asked fault goes is).0
    by_fault asked fault is (of_task six) = absurd (omega (arith, six, is))

    by_reply : (asked : RequestView) (reply : Reply) → MayReply (plan_of call.rules asked) (AnswersTask call.rules asked) call.before.folder call.after.folder reply → Delivers (said_of asked reply) call
        → (IsFileFault call asked × (call.after.out ≡ call.before.out)) ⊎ HasRisen call.before.out.faults call.after.out.faults
    by_reply asked (Ok answered) ends (inl delivered) = absurd (verdict_apart answered.verdict 5 (omega arith) (omega arith) (sym delivered.same_status ∙ five))
    by_reply asked (Err fault) ends (inl delivered) = inl (by_fault asked fault (sym delivered.same_status ∙ five) (fault_from call asked fault ends), delivered.taken)
    by_reply asked reply ends (inr cut) = inr (cut_counted (said_of asked reply).text call.before.out call.after.out cut.front)

    by_request : (request : Result RequestView CommandFault) → AnswersAsked call request
        → (asked : RequestView) × (request ≡ Ok asked)
        × ((IsFileFault call asked × (call.after.out ≡ call.before.out)) ⊎ HasRisen call.before.out.faults call.after.out.faults)
    by_request (Ok asked) answer = (asked, refl, by_reply asked answer.reply answer.ends answer.delivers)
    by_request (Err fault) answer = absurd (command_not_5 fault call answer five)

-- with status 4 or 7 the first fault has it
pub has_first_fault : (call : Call) → IsAnswer call → HasFirstFault call
has_first_fault call answer which asked files given = by_call (told_call call answer asked files given)
  where
    apart : (3 ≤ call.status) × (call.status ≡ 5 → ⊥) × (call.status ≡ 6 → ⊥) × (call.status ≤ 7)
    apart = elim which [ inl four ↦ (omega arith, λ five. omega arith, λ six. omega arith, omega arith) | inr seven ↦ (omega arith, λ five. omega arith, λ six. omega arith, omega arith) ]

    by_task : (task : Result (asked_command asked).Task Fault) (fault : Fault) → status_of fault ≡ call.status → Replied (AnswersTask call.rules asked) task (Err fault) → (first : Fault) × (task ≡ Err first) × (status_of first ≡ call.status)
    by_task (Ok task) fault is replied = absurd (apart.2 (sym is ∙ replied_short (AnswersTask call.rules asked) task fault replied))
    by_task (Err first) fault is replied = let same : fault ≡ first = cc (replied) in (first, refl, sym (ap status_of same) ∙ is)

    by_end : (fault : Fault) → status_of fault ≡ call.status → ToldReply call asked files (Err fault) → IsRefusedWith call asked files
    by_end fault is (inl replied) = by_task (task_of call.rules asked files) fault is replied
    by_end fault is (inr (inl (other, six, same))) = let fault_is : fault ≡ other = cc (same) in absurd (apart.2 (sym is ∙ ap status_of fault_is ∙ six))
    by_end fault is (inr (inr hindered)) = let fault_is : fault ≡ Unread hindered.source reading.Failed = cc (hindered.is) in absurd (apart.1 (sym is ∙ ap status_of fault_is))

    by_delivery : (reply : Reply) → ToldReply call asked files reply → Delivers (said_of asked reply) call → IsRefusedWith call asked files
    by_delivery (Ok answered) replied (inl delivered) = absurd (verdict_apart answered.verdict call.status apart.0 apart.3 (sym delivered.same_status))
    by_delivery (Err fault) replied (inl delivered) = by_end fault (sym delivered.same_status) replied
    by_delivery reply replied (inr cut) = absurd (apart.1 cut.five)

    by_call : IsToldCall call asked files → IsRefusedWith call asked files
    by_call (short six same) = absurd (apart.2 six)
    by_call (told reply replied delivers) = by_delivery reply replied delivers

-- how a call ends that was told its files, where no fault is counted: want of memory, or the reply to the task, put whole
data IsSettled (call : Call) (asked : RequestView) (files : List File) : Type 0 where
  exhausted : call.status ≡ 6 → IsSettled call asked files
  replied : (reply : Reply) → Replied (AnswersTask call.rules asked) (task_of call.rules asked files) reply → IsDelivered (said_of asked reply) call
      → IsSettled call asked files

settled : (call : Call) → IsAnswer call → (asked : RequestView) (files : List File) → IsGiven call asked files
    → NoneCounted call asked → IsSettled call asked files
settled call answer asked files given none = by_call (told_call call answer asked files given)
  where
    by_end : (reply : Reply) → ToldReply call asked files reply → IsDelivered (said_of asked reply) call
        → IsSettled call asked files
    by_end reply (inl is) delivered = replied reply is delivered
    by_end reply (inr (inl (fault, six, is))) delivered = exhausted (delivered.same_status ∙ ap (λ r. (said_of asked r).status) is ∙ six)
    by_end reply (inr (inr hindered)) delivered = absurd (none.files hindered.source hindered.name hindered.reached hindered.counted)

    by_delivery : (reply : Reply) → ToldReply call asked files reply → Delivers (said_of asked reply) call
        → IsSettled call asked files
    by_delivery reply to (inl delivered) = by_end reply to delivered
    by_delivery reply to (inr cut) = absurd (none.out (cut_counted (said_of asked reply).text call.before.out call.after.out cut.front))

    by_call : IsToldCall call asked files → IsSettled call asked files
    by_call (short six same) = exhausted six
    by_call (told reply to delivers) = by_delivery reply to delivers

-- where no fault is counted, the first fault gives its status or want of memory, and nothing is written
pub first_fault_decides : (call : Call) → IsAnswer call → IsRefusedFirst call
first_fault_decides call answer asked files given none fault is = by_end (settled call answer asked files given none)
  where
    by_end : IsSettled call asked files → ((call.status ≡ status_of fault) × (call.after.out ≡ call.before.out)) ⊎ (call.status ≡ 6)
    by_end (exhausted six) = inr six
    by_end (replied reply to delivered) =
        let as_fault : reply ≡ Err fault = subst (λ e. Replied (AnswersTask call.rules asked) e reply) is to in
        let put : IsDelivered (said_of asked (Err fault)) call =
        subst (λ r. IsDelivered (said_of asked r) call) as_fault delivered in
        inl (put.same_status, put.taken)

-- where no fault is counted and there is a task, it is answered, or memory ran out
pub task_is_answered : (call : Call) → IsAnswer call → IsComplete call
task_is_answered call answer asked files given none task is = by_end (settled call answer asked files given none)
  where
    by_reply : (reply : Reply) → Replies (AnswersTask call.rules asked) task reply → IsDelivered (said_of asked reply) call → IsAnswered call asked task ⊎ (call.status ≡ 6)
    by_reply (Ok answered) to delivered = inl (answered, to, delivered)
    by_reply (Err fault) to delivered = inr (delivered.same_status ∙ replied_short (AnswersTask call.rules asked) task fault to)

    by_end : IsSettled call asked files → IsAnswered call asked task ⊎ (call.status ≡ 6)
    by_end (exhausted six) = inr six
    by_end (replied reply to delivered) = by_reply reply (subst (λ e. Replied (AnswersTask call.rules asked) e reply) is to) delivered

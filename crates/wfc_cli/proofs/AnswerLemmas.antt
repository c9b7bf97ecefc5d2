-- What a call came to, by the command of its request.
use Rattle.std.proofs.Common.{Err, List, Ok, Result, arith, inl, inr, refl, subst, ◌≡◌}
use Rattle.wfc_cli.proofs.ToldLemmas.{IsToldCall, ToldReply, short, told, told_call}
use Rattle.wfc_cli.specs.Answer.{IsAnswer}
use Rattle.wfc_cli.specs.Commands.{AnswersTask, asked_command, command_of, task_of}
use Rattle.wfc_cli.specs.Delivery.{Delivers, said_of}
use Rattle.wfc_outside.specs.Folder.{File}
use Rattle.wfc_plan.specs.declared.fault.Fault.{Fault}
use Rattle.wfc_reply.proofs.CallerLemmas.{CameTo, HasAnswered, answer_apart, cut, fault_apart, none, whole}
use Rattle.wfc_reply.specs.Asking.{IsCommand}
use Rattle.wfc_reply.specs.Call.{Call}
use Rattle.wfc_reply.specs.Ends.{Replied}
use Rattle.wfc_reply.specs.Reply.{Answered, HasAnswer, Reply}
use Rattle.wfc_words.specs.RequestView.{RequestView}
use Rattle.wfc_words.specs.declared.kinds.CommandKind.{CommandKind}

-- the answer of a call whose files are told
pub answered_task : (call : Call) (asked : RequestView) (files : List File) (answered : Answered) → ToldReply call asked files (Ok answered) → HasAnswered (asked_command asked) call.rules asked files answered
answered_task call asked files answered (inl replied) = by_task (task_of call.rules asked files) refl replied
  where
    by_task : (task : Result (asked_command asked).Task Fault) → task_of call.rules asked files ≡ task → Replied (AnswersTask call.rules asked) task (Ok answered) → HasAnswered (asked_command asked) call.rules asked files answered
    by_task (Ok task) is replied = record { task = task; is = is; answers = replied }
    by_task (Err fault) is replied = absurd (cc (replied))
answered_task call asked files answered (inr (inl want)) = absurd (cc (want.2))
answered_task call asked files answered (inr (inr hindered)) = absurd (cc (hindered.is))

-- a call of a command of this kind
pub came_to : (kind : CommandKind) (call : Call) → IsAnswer call → (asked : RequestView) (files : List File) → IsCommand kind call asked files → CameTo (command_of kind) call asked files
came_to kind call answer asked files given =
    subst (λ (k : CommandKind). CameTo (command_of k) call asked files) given.command_is (by_call (told_call call answer asked files given.given))
  where
    by_reply : (reply : Reply) → ToldReply call asked files reply → Delivers (said_of asked reply) call → CameTo (asked_command asked) call asked files
    by_reply (Ok answered) replied (inl delivered) = whole answered (answered_task call asked files answered replied) delivered.same_status delivered.taken
    by_reply (Ok answered) replied (inr cut_off) = cut answered (answered_task call asked files answered replied) cut_off.five cut_off.front
    by_reply (Err fault) replied (inl delivered) = none (λ has. fault_apart fault (subst HasAnswer delivered.same_status has)) delivered.taken
    by_reply (Err fault) replied (inr cut_off) = absurd cut_off.front

    by_call : IsToldCall call asked files → CameTo (asked_command asked) call asked files
    by_call (short six same) = none (λ has. answer_apart call.status has (omega (arith, six)) (omega (arith, six))) same
    by_call (told reply replied delivers) = by_reply reply replied delivers

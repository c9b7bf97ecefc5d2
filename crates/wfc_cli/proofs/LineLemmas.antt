-- What the error stream is told with each status.
use Rattle.std.proofs.Common.{Err, List, Ok, Option, Result, Some, ap, arith, inl, inr, refl, subst, sym, ℕ, ◌∙◌, ◌≡◌, ◌≢◌}
use Rattle.wfc_cli.proofs.AnswerLemmas.{answered_task}
use Rattle.wfc_cli.proofs.MemoryLemmas.{memory_text}
use Rattle.wfc_cli.proofs.TheoremLemmas.{file_fault}
use Rattle.wfc_cli.proofs.ToldLemmas.{FaultOf, command_between, cut_counted, fault_from, of_plan, of_task, refused_status, told_reply}
use Rattle.wfc_box_commands.proofs.CallerLemmas.{box_check_ends, box_fill_ends, box_refute_ends}
use Rattle.wfc_cli.specs.Answer.{AnswersAsked, IsAnswer, IsAnswerTo, IsRefusedCall}
use Rattle.wfc_cli.specs.Commands.{AnswersTask, asked_command, command_of, plan_of}
use Rattle.wfc_cli.specs.Delivery.{Delivers, IsTold, Tells, said_of}
use Rattle.wfc_cli.specs.ErrorLine.{fault_text}
use Rattle.wfc_cli.specs.LineClaims.{IsApartFromErr, TellsReason, TellsStatus, TellsWords, says_fault, says_file, says_no, says_out, says_short, says_spent}
use Rattle.wfc_grow_command.proofs.CallerLemmas.{grow_ends}
use Rattle.wfc_lines.specs.Check.{text_of_check}
use Rattle.wfc_lines.specs.Command.{text_of_command}
use Rattle.wfc_lines.specs.Grow.{text_of_stuck}
use Rattle.wfc_lines.specs.Outcome.{map_exists_text, no_domains_text, no_map_text, no_memory_text, out_failed_text, text_of_budget}
use Rattle.wfc_map_commands.proofs.CallerLemmas.{demo_ends, domains_ends, fill_ends, learn_ends}
use Rattle.wfc_outside.specs.Folder.{File}
use Rattle.wfc_outside.specs.Sink.{SinkView}
use Rattle.wfc_outside.specs.declared.whole.ReadFault.TheVariants as reads
use Rattle.wfc_plan.proofs.CallerLemmas.{fault_between, goes_stopped}
use Rattle.wfc_plan.specs.Fault.{status_of}
use Rattle.wfc_plan.specs.Plan.{Goes}
use Rattle.wfc_plan.specs.declared.fault.Fault.{Fault}
use Rattle.wfc_plan.specs.declared.fault.Fault.TheVariants.{Unread}
use Rattle.wfc_plan.specs.declared.fault.Source.TheVariants as source
use Rattle.wfc_proof_commands.proofs.CallerLemmas.{check_ends, refute_ends, upgrade_ends}
use Rattle.wfc_reply.proofs.CallerLemmas.{EndsSo, IsEnding, as_asked, as_no, as_spent}
use Rattle.wfc_reply.specs.Asking.{IsGiven}
use Rattle.wfc_reply.specs.Call.{Call, with_error_stream}
use Rattle.wfc_reply.specs.Ends.{MayReply}
use Rattle.wfc_reply.specs.FileNames.{name_of}
use Rattle.wfc_reply.specs.Reply.{IsNoStatus, Reply, verdict_status, verdict_text}
use Rattle.wfc_reply.specs.declared.reply.CommandVerdict.{CommandVerdict}
use Rattle.wfc_reply.specs.declared.reply.CommandVerdict.TheVariants as verdict
use Rattle.wfc_run_commands.proofs.CallerLemmas.{explain_ends, race_ends}
use Rattle.wfc_words.specs.Request.{request_of}
use Rattle.wfc_words.specs.RequestView.{RequestView}
use Rattle.wfc_words.specs.declared.fault.CommandFault.{CommandFault}
use Rattle.wfc_words.specs.declared.fault.CommandFault.TheVariants as words_fault
use Rattle.wfc_words.specs.declared.kinds.CommandKind.{CommandKind}
use Rattle.wfc_words.specs.declared.kinds.CommandKind.TheVariants as commands

-- ---- how each command ends

ends_so : (kind : CommandKind) → EndsSo kind (command_of kind)
ends_so commands.Learn = learn_ends
ends_so commands.Fill = fill_ends
ends_so commands.Domains = domains_ends
ends_so commands.Demo = demo_ends
ends_so commands.Refute = refute_ends
ends_so commands.Check = check_ends
ends_so commands.Upgrade = upgrade_ends
ends_so commands.Race = race_ends
ends_so commands.Explain = explain_ends
ends_so commands.Grow = grow_ends
ends_so commands.BoxFill = box_fill_ends
ends_so commands.BoxRefute = box_refute_ends
ends_so commands.BoxCheck = box_check_ends

-- ---- the line of each status

-- a verdict that has no line has status 0, and no other has
told_nothing : (asked : RequestView) (said : CommandVerdict) (old new : SinkView) → verdict_status said ≡ 0 → Tells (verdict_text asked said) old new → new ≡ old
told_nothing asked verdict.Done old new nought told = told
told_nothing asked verdict.NoMap old new nought told = absurd (omega (arith, nought))
told_nothing asked (verdict.Spent budget) old new nought told = absurd (omega (arith, nought))
told_nothing asked verdict.Dead old new nought told = absurd (omega (arith, nought))
told_nothing asked verdict.MapExists old new nought told = absurd (omega (arith, nought))
told_nothing asked (verdict.Unaccepted fault) old new nought told = absurd (omega (arith, nought))
told_nothing asked (verdict.Stuck x y) old new nought told = absurd (omega (arith, nought))

told_line : (asked : RequestView) (said : CommandVerdict) (old new : SinkView) → verdict_status said ≢ 0 → Tells (verdict_text asked said) old new → (text : List ℕ) × IsTold text old new
told_line asked verdict.Done old new some told = absurd (some refl)
told_line asked verdict.NoMap old new some told = (no_map_text, told)
told_line asked (verdict.Spent budget) old new some told = (text_of_budget budget, told)
told_line asked verdict.Dead old new some told = (no_domains_text, told)
told_line asked verdict.MapExists old new some told = (map_exists_text, told)
told_line asked (verdict.Unaccepted fault) old new some told = (text_of_check fault (name_of asked source.Refutation), told)
told_line asked (verdict.Stuck x y) old new some told = (text_of_stuck x y, told)

-- words that are no request
told_words : (fault : CommandFault) (call : Call) → IsRefusedCall fault call → TellsWords fault call
told_words fault call denied = elim (denied.delivers) [ inl delivered ↦ inl (delivered.same_status, delivered.told) | inr cut ↦ absurd (cut.front) ]

told_short : (fault : CommandFault) (call : Call) → IsRefusedCall words_fault.NoMemory call → TellsWords fault call
told_short fault call denied = elim (denied.delivers) [ inl delivered ↦ inr (delivered.same_status, delivered.told) | inr cut ↦ absurd (cut.front) ]

-- words that are no request end with another status than 0
words_some : (fault : CommandFault) (call : Call) → IsRefusedCall fault call → call.status ≡ 0 → ⊥
words_some fault call denied nought = elim (command_between fault) [
  | inl three ↦ omega (arith, (refused_status fault call denied).0, three, nought)
  | inr six ↦ omega (arith, (refused_status fault call denied).0, six, nought)
]

words_line : (fault : CommandFault) (call : Call) → IsRefusedCall fault call → (text : List ℕ) × IsTold text call.before.err call.after.err
words_line fault call denied = elim (denied.delivers) [ inl delivered ↦ (text_of_command fault, delivered.told) | inr cut ↦ absurd (cut.front) ]

pub tells_status : (call : Call) → IsAnswer call → TellsStatus call
tells_status call answer = record {
  nothing = λ nought. elim (answer.answers) [
    | inl to ↦ nothing_asked (request_of call.words) nought to
    | inr short ↦ absurd (words_some words_fault.NoMemory call short nought)
  ];
  one_line = λ some. elim (answer.answers) [ inl to ↦ line_asked (request_of call.words) some to | inr short ↦ words_line words_fault.NoMemory call short ];
  no_request = λ fault is. elim (answer.answers) [
    | inl to ↦ told_words fault call (subst (λ request. AnswersAsked call request) is to)
    | inr short ↦ told_short fault call short
  ];
  request = λ asked files given some. elim (answer.answers) [
    | inl to ↦ by_answer asked files given some (subst (λ request. AnswersAsked call request) given.spelled to)
    | inr short ↦ by_words asked files (told_short words_fault.NoMemory call short)
  ];
}
  where
    nothing_said : (asked : RequestView) (reply : Reply) → call.status ≡ 0 → Delivers (said_of asked reply) call → call.after.err ≡ call.before.err
    nothing_said asked (Ok answered) nought (inl delivered) = told_nothing asked answered.verdict call.before.err call.after.err (sym delivered.same_status ∙ nought) delivered.told
    nothing_said asked (Err fault) nought (inl delivered) = absurd (omega (arith, (fault_between fault).0, delivered.same_status, nought))
    nothing_said asked reply nought (inr cut) = absurd (omega (arith, cut.five, nought))

    nothing_asked : (request : Result RequestView CommandFault) → call.status ≡ 0 → AnswersAsked call request → call.after.err ≡ call.before.err
    nothing_asked (Ok asked) nought to = nothing_said asked to.reply nought to.delivers
    nothing_asked (Err fault) nought to = absurd (words_some fault call to nought)

    line_said : (asked : RequestView) (reply : Reply) → call.status ≢ 0 → Delivers (said_of asked reply) call → (text : List ℕ) × IsTold text call.before.err call.after.err
    line_said asked (Ok answered) some (inl delivered) = told_line asked answered.verdict call.before.err call.after.err (λ nought. some (delivered.same_status ∙ nought)) delivered.told
    line_said asked (Err fault) some (inl delivered) = (fault_text asked fault, delivered.told)
    line_said asked reply some (inr cut) = (out_failed_text, cut.told)

    line_asked : (request : Result RequestView CommandFault) → call.status ≢ 0 → AnswersAsked call request → (text : List ℕ) × IsTold text call.before.err call.after.err
    line_asked (Ok asked) some to = line_said asked to.reply some to.delivers
    line_asked (Err fault) some to = words_line fault call to

    by_words : (asked : RequestView) (files : List File) → TellsWords words_fault.NoMemory call → TellsReason call asked files
    by_words asked files (inl told) = (no_memory_text, says_short told.0 refl, told.1)
    by_words asked files (inr told) = (no_memory_text, says_short told.0 refl, told.1)

    -- a verdict
    by_ending : (asked : RequestView) (files : List File) (said : CommandVerdict) → call.status ≢ 0 → call.status ≡ verdict_status said → Tells (verdict_text asked said) call.before.err call.after.err → IsEnding (asked_command asked) call.rules asked files said
        → TellsReason call asked files
    by_ending asked files said some same told (as_asked is) = absurd (some (same ∙ ap verdict_status is))
    by_ending asked files said some same told (as_no text is one denied) =
        (text, says_no (subst IsNoStatus (sym same) one) denied, subst (λ (t : Option (List ℕ)). Tells t call.before.err call.after.err) is told)
    by_ending asked files said some same told (as_spent is) =
        (text_of_budget ((asked_command asked).budget asked), says_spent (same ∙ ap verdict_status is) refl, subst (λ v. Tells (verdict_text asked v) call.before.err call.after.err) is told)

    -- want of memory
    by_short : (asked : RequestView) (files : List File) (fault : Fault) → call.status ≡ status_of fault → IsTold (fault_text asked fault) call.before.err call.after.err → status_of fault ≡ 6 → TellsReason call asked files
    by_short asked files fault same told six = (no_memory_text, says_short (same ∙ six) refl, subst (λ t. IsTold t call.before.err call.after.err) (memory_text asked fault six) told)

    -- a fault of the plan
    by_plan : (asked : RequestView) (files : List File) (fault : Fault) → call.before.folder.contents ≡ Some files → call.status ≡ status_of fault → IsTold (fault_text asked fault) call.before.err call.after.err
        → Goes (plan_of call.rules asked) call.before.folder call.after.folder (Err fault) → TellsReason call asked files
    by_plan asked files fault contents same told goes = elim (goes_stopped (plan_of call.rules asked) call.before.folder call.after.folder (Err fault) files contents goes) [
      | inl is ↦ (fault_text asked fault, says_fault fault (sym is) same refl, told)
      | inr other ↦ elim other [
        | inl short ↦ let fault_is : fault ≡ short.0 = cc (short.2) in by_short asked files fault same told (ap status_of fault_is ∙ short.1)
        | inr stopped ↦
            let fault_is : fault ≡ Unread stopped.source reads.Failed = cc (stopped.is) in
            let file = file_fault call asked fault goes (ap status_of fault_is) in
            (fault_text asked fault, says_file file.0 (same ∙ ap status_of fault_is) (ap (fault_text asked) file.1), told)
      ]
    ]

    by_fault : (asked : RequestView) (files : List File) (fault : Fault) → call.before.folder.contents ≡ Some files → call.status ≡ status_of fault → IsTold (fault_text asked fault) call.before.err call.after.err
        → FaultOf call asked fault → TellsReason call asked files
    by_fault asked files fault contents same told (of_plan goes) = by_plan asked files fault contents same told goes
    by_fault asked files fault contents same told (of_task six) = by_short asked files fault same told six

    by_reply : (asked : RequestView) (files : List File) → IsGiven call asked files → call.status ≢ 0 → (reply : Reply) → MayReply (plan_of call.rules asked) (AnswersTask call.rules asked) call.before.folder call.after.folder reply
        → Delivers (said_of asked reply) call → TellsReason call asked files
    by_reply asked files given some (Ok answered) ends (inl delivered) =
        let has = answered_task call asked files answered (told_reply call asked files (Ok answered) given.told ends) in
        by_ending asked files answered.verdict some delivered.same_status delivered.told
        (ends_so asked.command call asked files answered (record { given = given; command_is = refl }) has delivered.taken)
    by_reply asked files given some (Ok answered) ends (inr cut) = (out_failed_text, says_out (cut_counted answered.text call.before.out call.after.out cut.front) cut.five refl, cut.told)
    by_reply asked files given some (Err fault) ends (inl delivered) = by_fault asked files fault given.told delivered.same_status delivered.told (fault_from call asked fault ends)
    by_reply asked files given some (Err fault) ends (inr cut) = absurd cut.front

    by_answer : (asked : RequestView) (files : List File) → IsGiven call asked files → call.status ≢ 0 → IsAnswerTo call asked → TellsReason call asked files
    by_answer asked files given some to = by_reply asked files given some to.reply to.ends to.delivers

-- ---- the error stream alone

pub is_apart_from_err : (call : Call) → IsAnswer call → IsApartFromErr call
is_apart_from_err call answer = elim (answer.answers) [ inl to ↦ by_request (request_of call.words) refl to | inr short ↦ by_words words_fault.NoMemory (λ old new denied. record { answers = inr denied }) short ]
  where
    by_words : (fault : CommandFault) → ((old new : SinkView) → IsRefusedCall fault (with_error_stream call old new) → IsAnswer (with_error_stream call old new))
        → IsRefusedCall fault call → IsApartFromErr call
    by_words fault back denied = elim (denied.delivers) [
      | inl delivered ↦ (
        Some (text_of_command fault),
        delivered.told,
        λ old new told. back old new (record { folder = denied.folder; delivers = inl (record { taken = delivered.taken; told = told; same_status = delivered.same_status }) }),
      )
      | inr cut ↦ absurd (cut.front)
    ]

    by_answer : (asked : RequestView) → ((old new : SinkView) → IsAnswerTo (with_error_stream call old new) asked → IsAnswer (with_error_stream call old new))
        → IsAnswerTo call asked → IsApartFromErr call
    by_answer asked back to = elim (to.delivers) [
      | inl delivered ↦ (
        (said_of asked to.reply).told,
        delivered.told,
        λ old new told. back old new (record { reply = to.reply; ends = to.ends; delivers = inl (record { taken = delivered.taken; told = told; same_status = delivered.same_status }) }),
      )
      | inr cut ↦ (
        Some out_failed_text,
        cut.told,
        λ old new told. back old new (record { reply = to.reply; ends = to.ends; delivers = inr (record { front = cut.front; told = told; five = cut.five }) }),
      )
    ]

    by_request : (request : Result RequestView CommandFault) → request_of call.words ≡ request → AnswersAsked call request → IsApartFromErr call
    by_request (Ok asked) is to = by_answer asked (λ old new to. record { answers = inl (subst (λ request. AnswersAsked (with_error_stream call old new) request) (sym is) to) }) to
    by_request (Err fault) is denied = by_words fault (λ old new denied. record { answers = inl (subst (λ request. AnswersAsked (with_error_stream call old new) request) (sym is) denied) }) denied

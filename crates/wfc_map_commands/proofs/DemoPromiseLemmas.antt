-- What a call promises of `demo`.
use Rattle.std.proofs.Common.{inl, Err, List, None, Ok, Option, Result, Some, ap, length, refl, subst, sym, true, ◌∙◌, ◌≡◌}
use Rattle.wfc_choose.specs.declared.RuleKind.{RuleKind}
use Rattle.wfc_choose.specs.declared.RuleKind.TheVariants.{Fewest}
use Rattle.wfc_lines.specs.Outcome.{no_map_text}
use Rattle.wfc_map_commands.specs.DemoAnswer.{demo_answer, demo_budget, demo_text}
use Rattle.wfc_map_commands.specs.DemoClaims.{IsDemonstration, WritesDemo, demonstration}
use Rattle.wfc_map_commands.specs.DemoCommand.{DemoAnswers, demo_command}
use Rattle.wfc_map_commands.specs.DemoTask.{DemoTask, demo, demo_plan}
use Rattle.wfc_map_commands.specs.Demonstration.{demo_patterns, demo_problem}
use Rattle.wfc_outside.specs.Folder.{File}
use Rattle.wfc_outside.specs.Sink.{after_bytes, after_finish}
use Rattle.wfc_pattern.specs.Patterns.{PatternsView}
use Rattle.wfc_plan.specs.Kinds.{enough}
use Rattle.wfc_plan.specs.Plan.{Plan, and_then, done, outcome, step}
use Rattle.wfc_plan.specs.declared.fault.Refusal.{Refusal}
use Rattle.wfc_problem.specs.Network.{Network}
use Rattle.wfc_reply.proofs.CallerLemmas.{AnswersOnly, CameTo, EndsSo, IsEnding, as_asked, as_no, as_spent, cut, cuts_text, five_apart, none, text_of, verdict_outcome, whole}
use Rattle.wfc_reply.specs.Asking.{IsCommand}
use Rattle.wfc_reply.specs.Call.{Call}
use Rattle.wfc_reply.specs.Choosers.{kinds_of}
use Rattle.wfc_reply.specs.CutClaims.{CutsText}
use Rattle.wfc_reply.specs.Outcomes.{outcome_status, verdict_of}
use Rattle.wfc_reply.specs.Reply.{Answered, TakesWhole, verdict_status}
use Rattle.wfc_reply.specs.RunEnds.{end_of}
use Rattle.wfc_search.specs.Run.{State}
use Rattle.wfc_search.specs.declared.Outcome.{Outcome}
use Rattle.wfc_search.specs.declared.Outcome.TheVariants as outcome
use Rattle.wfc_words.specs.RequestView.{RequestView}
use Rattle.wfc_words.specs.declared.kinds.CommandKind.TheVariants as commands

-- what `demo` comes to
pub demo_given : (kinds : List RuleKind) (asked : RequestView) (files : List File) (task : DemoTask) → outcome (demo_plan kinds asked) files ≡ Ok task → demo (demo_patterns asked.number) (demo_problem asked.number) ≡ task
demo_given kinds asked files task is = by_chosen (enough 1 kinds Fewest) is
  where
    by_chosen : (found : Result (Unit {0}) Refusal) → outcome (and_then (step found) (λ _. let end : Plan DemoTask = done (demo (demo_patterns asked.number) (demo_problem asked.number)) in end)) files ≡ Ok task
        → demo (demo_patterns asked.number) (demo_problem asked.number) ≡ task
    by_chosen (Ok given) is = cc (is)
    by_chosen (Err refusal) is = absurd (cc (is))

pub writes_demo : (call : Call) (asked : RequestView) (files : List File) → IsCommand commands.Demo call asked files → CameTo demo_command call asked files → WritesDemo call asked files
writes_demo call asked files is came low = by_end came
  where
    patterns : PatternsView
    patterns = demo_patterns asked.number

    P : Network
    P = demo_problem asked.number

    by_answer : (answered : Answered) → call.status ≡ verdict_status answered.verdict → TakesWhole answered.whole answered.text call.before.out call.after.out → (end : Option (Outcome × State)) → end_of call.rules Fewest P demo_budget asked.number ≡ end
        → demo_answer patterns P end ≡ Some answered
        → (end : Outcome × State) × (end_of call.rules Fewest P demo_budget asked.number ≡ Some end) × (call.status ≡ outcome_status end.0)
        × (call.after.out ≡ after_finish (after_bytes call.before.out (demo_text (length patterns.windows) P.cells end.1.retractions call.status)))
    by_answer answered same takes None ends answers = absurd (cc (answers))
    by_answer answered same takes (Some end) ends answers =
        let made : Answered = record { verdict = verdict_of demo_budget end.0; text = Some (demo_text (length patterns.windows) P.cells end.1.retractions (outcome_status end.0)); whole = true } in
        let is_answer : made ≡ answered = cc (answers) in
        let status_is : call.status ≡ outcome_status end.0 = same ∙ sym (ap (λ (a : Answered). verdict_status a.verdict) is_answer) ∙ verdict_outcome demo_budget end.0 in (
          end,
          ends,
          status_is,
          subst (λ (a : Answered). TakesWhole a.whole a.text call.before.out call.after.out) (sym is_answer) takes ∙ ap (λ k. after_finish (after_bytes call.before.out (demo_text (length patterns.windows) P.cells end.1.retractions k))) (sym status_is),
        )

    by_end : CameTo demo_command call asked files
        → (end : Outcome × State) × (end_of call.rules Fewest P demo_budget asked.number ≡ Some end) × (call.status ≡ outcome_status end.0)
        × (call.after.out ≡ after_finish (after_bytes call.before.out (demo_text (length patterns.windows) P.cells end.1.retractions call.status)))
    by_end (whole answered has same takes) =
        let given = demo_given (kinds_of call.rules) asked files has.task has.is in
        by_answer answered same takes (end_of call.rules Fewest P demo_budget asked.number) refl (subst (λ task. DemoAnswers call.rules asked task answered) (sym given) has.answers)
    by_end (cut answered has five front) = absurd (five_apart call.status five low)
    by_end (none high same) = absurd (high low)

tells_numbers : (call : Call) → AnswersOnly commands.Demo demo_command (IsDemonstration call.rules) call
tells_numbers call asked files is answered has text same =
    let given = demo_given (kinds_of call.rules) asked files has.task has.is in
    by_end (end_of call.rules Fewest (demo_problem asked.number) demo_budget asked.number) refl (subst (λ task. DemoAnswers call.rules asked task answered) (sym given) has.answers)
  where
    by_end : (end : Option (Outcome × State)) → end_of call.rules Fewest (demo_problem asked.number) demo_budget asked.number ≡ end → demo_answer (demo_patterns asked.number) (demo_problem asked.number) end ≡ Some answered
        → IsDemonstration call.rules asked files text
    by_end None ends answers = absurd (cc (answers))
    by_end (Some end) ends answers =
        let made : Answered = record { verdict = verdict_of demo_budget end.0; text = Some (demonstration asked.number end); whole = true } in
        let is_answer : made ≡ answered = cc (answers) in
        (end, ends, text_of answered made text (demonstration asked.number end) is_answer refl same)

pub demo_cut : (call : Call) (asked : RequestView) (files : List File) → IsCommand commands.Demo call asked files → CameTo demo_command call asked files → CutsText (IsDemonstration call.rules) call asked files
demo_cut call = cuts_text commands.Demo demo_command (IsDemonstration call.rules) call (tells_numbers call)

pub demo_ends : EndsSo commands.Demo demo_command
demo_ends call asked files answered is has takes =
    let given = demo_given (kinds_of call.rules) asked files has.task has.is in
    by_end (end_of call.rules Fewest (demo_problem asked.number) demo_budget asked.number) (subst (λ task. DemoAnswers call.rules asked task answered) (sym given) has.answers)
  where
    by_outcome : (o : Outcome) → IsEnding demo_command call.rules asked files (verdict_of demo_budget o)
    by_outcome outcome.Map = as_asked refl
    by_outcome outcome.NoMap = as_no no_map_text refl (inl refl) refl
    by_outcome outcome.Spent = as_spent refl

    by_end : (end : Option (Outcome × State)) → demo_answer (demo_patterns asked.number) (demo_problem asked.number) end ≡ Some answered → IsEnding demo_command call.rules asked files answered.verdict
    by_end None answers = absurd (cc (answers))
    by_end (Some end) answers =
        let made : Answered = record { verdict = verdict_of demo_budget end.0; text = Some (demonstration asked.number end); whole = true } in
        let is_answer : made ≡ answered = cc (answers) in
        subst (λ (a : Answered). IsEnding demo_command call.rules asked files a.verdict) is_answer (by_outcome end.0)

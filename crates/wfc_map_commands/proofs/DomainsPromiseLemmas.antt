-- What a call promises of `domains`.
use Rattle.std.proofs.Common.{Bool, List, [], ap, false, if◌then◌else◌, inl, inr, refl, subst, sym, true, ℕ, ◌∙◌, ◌≡◌, ◌⊎◌}
use Rattle.wfc_lines.specs.Outcome.{no_domains_text}
use Rattle.wfc_map_commands.proofs.DomainsGivenLemmas.{domains_given}
use Rattle.wfc_map_commands.specs.DomainsAnswer.{domains_answer, root_verdict, steps_text}
use Rattle.wfc_map_commands.specs.DomainsClaims.{DomainsPromise, IsBlocks, WritesDomains}
use Rattle.wfc_map_commands.specs.DomainsCommand.{DomainsAnswers, domains_command}
use Rattle.wfc_map_commands.specs.DomainsGiven.{IsDomainsTask}
use Rattle.wfc_outside.specs.Folder.{File}
use Rattle.wfc_outside.specs.Sink.{after_bytes, after_finish}
use Rattle.wfc_pins.specs.declared.steps.StepLine.{StepLine}
use Rattle.wfc_problem.specs.Network.{Network}
use Rattle.wfc_problem.specs.Rounds.{greatest}
use Rattle.wfc_problem.specs.Sizes.{is_dead}
use Rattle.wfc_reply.proofs.CallerLemmas.{AnswersOnly, CameTo, EndsSo, IsEnding, as_asked, as_no, cut, cuts_text, five_apart, none, text_of, whole}
use Rattle.wfc_reply.specs.Asking.{IsCommand}
use Rattle.wfc_reply.specs.Call.{Call}
use Rattle.wfc_reply.specs.CutClaims.{CutsText}
use Rattle.wfc_reply.specs.Reply.{Answered, TakesWhole, verdict_status}
use Rattle.wfc_reply.specs.declared.reply.CommandVerdict.TheVariants as verdict
use Rattle.wfc_words.specs.RequestView.{RequestView}
use Rattle.wfc_words.specs.declared.kinds.CommandKind.TheVariants as commands

root_verdict_status : (P : Network) (status : ℕ) → status ≡ verdict_status (root_verdict P) → ((status ≡ 0) × (is_dead P (greatest P []) ≡ false)) ⊎ ((status ≡ 1) × (is_dead P (greatest P []) ≡ true))
root_verdict_status P status is = by_dead (is_dead P (greatest P [])) refl is
  where
    by_dead : (dead : Bool) → is_dead P (greatest P []) ≡ dead → status ≡ verdict_status (if dead then verdict.Dead else verdict.Done)
        → ((status ≡ 0) × (is_dead P (greatest P []) ≡ false)) ⊎ ((status ≡ 1) × (is_dead P (greatest P []) ≡ true))
    by_dead true dead is = inr (is, dead)
    by_dead false alive is = inl (is, alive)

pub writes_domains : (call : Call) (asked : RequestView) (files : List File) → IsCommand commands.Domains call asked files → CameTo domains_command call asked files → WritesDomains call asked files
writes_domains call asked files is came low = by_end came
  where
    by_end : CameTo domains_command call asked files
        → (P : Network) × (steps : List StepLine) × IsDomainsTask asked files P steps × (call.after.out ≡ after_finish (after_bytes call.before.out (steps_text P steps)))
        × (((call.status ≡ 0) × (is_dead P (greatest P []) ≡ false)) ⊎ ((call.status ≡ 1) × (is_dead P (greatest P []) ≡ true)))
    by_end (whole answered has same takes) =
        let given = domains_given asked files has.task has.is in
        let answers : domains_answer given.0 given.1 ≡ answered = subst (λ task. DomainsAnswers task answered) (sym given.2) has.answers in
        let is_answer : domains_answer given.0 given.1 ≡ answered = cc (answers) in (
          given.0,
          given.1,
          given.3,
          subst (λ (a : Answered). TakesWhole a.whole a.text call.before.out call.after.out) (sym is_answer) takes,
          root_verdict_status given.0 call.status (same ∙ sym (ap (λ (a : Answered). verdict_status a.verdict) is_answer)),
        )
    by_end (cut answered has five front) = absurd (five_apart call.status five low)
    by_end (none high same) = absurd (high low)

lists_blocks : (call : Call) → AnswersOnly commands.Domains domains_command IsBlocks call
lists_blocks call asked files is answered has text same =
    let given = domains_given asked files has.task has.is in
    let answers : domains_answer given.0 given.1 ≡ answered = subst (λ task. DomainsAnswers task answered) (sym given.2) has.answers in
    let is_answer : domains_answer given.0 given.1 ≡ answered = cc (answers) in
    (given.0, given.1, given.3, text_of answered _ text _ is_answer refl same)

pub domains_cut : (call : Call) (asked : RequestView) (files : List File) → IsCommand commands.Domains call asked files → CameTo domains_command call asked files → CutsText IsBlocks call asked files
domains_cut call = cuts_text commands.Domains domains_command IsBlocks call (lists_blocks call)

pub domains_ends : EndsSo commands.Domains domains_command
domains_ends call asked files answered is has takes =
    let given = domains_given asked files has.task has.is in
    let answers : domains_answer given.0 given.1 ≡ answered = subst (λ task. DomainsAnswers task answered) (sym given.2) has.answers in
    let is_answer : domains_answer given.0 given.1 ≡ answered = cc (answers) in
    subst (λ (a : Answered). IsEnding domains_command call.rules asked files a.verdict) is_answer (by_dead (is_dead given.0 (greatest given.0 [])))
  where
    by_dead : (dead : Bool) → IsEnding domains_command call.rules asked files (if dead then verdict.Dead else verdict.Done)
    by_dead true = as_no no_domains_text refl (inl refl) refl
    by_dead false = as_asked refl

-- all that `domains` promises
pub domains_promise : (call : Call) (asked : RequestView) (files : List File) → IsCommand commands.Domains call asked files → CameTo domains_command call asked files → DomainsPromise call asked files
domains_promise call asked files is came = record { written = writes_domains call asked files is came; cut = domains_cut call asked files is came }

-- What the relation of a call says of `check`, in the subject's words.
use Rattle.std.proofs.Common.{Err, List, None, Ok, Option, Result, Some, ap, inl, inr, refl, subst, sym, ◌∙◌, ◌≡◌, ◌⊎◌}
use Rattle.wfc_check.proofs.ExactLemmas.{accepted_refutation, refutation_accepted, refutation_none}
use Rattle.wfc_check.specs.Text.{checked}
use Rattle.wfc_check.specs.declared.fault.CheckFault.{CheckFault}
use Rattle.wfc_check.specs.declared.fault.CheckFault.TheVariants as faults
use Rattle.wfc_lines.specs.Check.{text_of_check}
use Rattle.wfc_outside.specs.Folder.{File}
use Rattle.wfc_plan.specs.declared.fault.Refusal.{Refusal}
use Rattle.wfc_proof.specs.Heads.{IsShape}
use Rattle.wfc_proof_commands.proofs.ProofKindLemmas.{IsProofKind}
use Rattle.wfc_proof_commands.proofs.CheckingLemmas.{check_given}
use Rattle.wfc_proof_commands.specs.ProofKind.{ProofKind}
use Rattle.wfc_proof_commands.specs.CheckAnswer.{check_answer}
use Rattle.wfc_proof_commands.specs.CheckClaims.{CheckPromise, Accepts, ChecksRefutation, IsAcceptance, IsRefuted, Refuses}
use Rattle.wfc_proof_commands.specs.CheckCommand.{CheckAnswers, checks}
use Rattle.wfc_proof_commands.specs.CheckGiven.{IsCheckTask, IsCheckWork}
use Rattle.wfc_proof_commands.specs.Checking.{refutation_name, verdict_in}
use Rattle.wfc_reply.proofs.CallerLemmas.{AnswersOnly, CameTo, EndsSo, IsEnding, as_asked, as_no, cut, cuts_text, five_apart, none, text_of, whole}
use Rattle.wfc_reply.specs.Asking.{IsCommand}
use Rattle.wfc_reply.specs.Call.{Call}
use Rattle.wfc_reply.specs.CutClaims.{CutsText}
use Rattle.wfc_reply.specs.Reply.{Answered, Takes, TakesWhole, verdict_status}
use Rattle.wfc_task.proofs.CallerLemmas.{no_map_of}
use Rattle.wfc_task.specs.MapKind.{IsMapProblem}
use Rattle.wfc_words.specs.RequestView.{RequestView}
use Rattle.wfc_words.specs.declared.kinds.CommandKind.{CommandKind}
use Rattle.wfc_problem.specs.Network.{Network}

-- what is known of the problem of such a command: the maps of its assignments, and its shape
pub record IsKnown (space : ProofKind) (asked : RequestView) (files : List File) (P : Network) (posed : space.maps.IsPosed asked files P) : Type 0 where
  pub maps : IsMapProblem space.maps asked files P posed
  pub shape : IsShape (space.shape_of asked)

-- a text without a fault was accepted
accepted : (answer : Result (Unit {0}) CheckFault) → verdict_in answer ≡ Ok None → answer ≡ Ok tt
accepted (Ok unit) is = refl
accepted (Err (faults.Rejected line reject)) is = absurd (cc)
accepted (Err (faults.BadLine line)) is = absurd (cc)
accepted (Err (faults.HeaderDiffers cells values)) is = absurd (cc)
accepted (Err faults.NotEnded) is = absurd (cc)
accepted (Err faults.Missing) is = absurd (cc)
accepted (Err faults.Failed) is = absurd (cc)
accepted (Err faults.TooLong) is = absurd (cc)
accepted (Err faults.NoMemory) is = absurd (cc)
accepted (Err (faults.OptionsDiffer found)) is = absurd (cc)

-- ---- a command with such answers, whose problems have these maps

module _ (space : ProofKind) (is_kind : IsProofKind space) (kind : CommandKind)
    (known : (call : Call) (asked : RequestView) (files : List File) → IsCommand kind call asked files → (P : Network) (posed : space.maps.IsPosed asked files P) → IsKnown space asked files P posed) where
  -- a file without a fault is a refutation
  pub is_accepted : (call : Call) (asked : RequestView) (files : List File) → IsCommand kind call asked files → (task : IsCheckTask space asked files None) → IsRefuted asked task.work
  is_accepted call asked files is task =
      let work = task.work in
      let sure = known call asked files is work.P work.posed in
      accepted_refutation work.P sure.maps.problem (space.shape_of asked) work.bytes (accepted (checked work.P (space.shape_of asked) work.bytes) task.answer)

  pub checks_refutation : (call : Call) (asked : RequestView) (files : List File) → IsCommand kind call asked files → CameTo (checks space) call asked files → ChecksRefutation space call asked files
  checks_refutation call asked files is came low = by_end came
    where
      by_found : (found : Option CheckFault) → IsCheckTask space asked files found → call.status ≡ verdict_status (check_answer found).verdict → Takes (check_answer found).text call.before.out call.after.out
          → (work : IsCheckWork space asked files) × (((call.status ≡ 0) × Accepts asked work call) ⊎ ((call.status ≡ 1) × Refuses asked work call))
      by_found None task same takes =
          let work = task.work in
          let sure = known call asked files is work.P work.posed in
          let refutation = is_accepted call asked files is task in
          (work, inl (same, record { refutation = refutation; none = no_map_of space.maps asked files work.P work.posed sure.maps (refutation_none work.P sure.maps.problem (space.shape_of asked) work.bytes refutation); written = takes }))
      by_found (Some fault) task same takes =
          let work = task.work in
          let sure = known call asked files is work.P work.posed in (
            work,
            inr (
              same,
              record {
                none = λ refuted.
                    let other : (let none : Result (Option CheckFault) Refusal = Ok None in none) ≡ Ok (Some fault) =
                    sym (ap verdict_in (refutation_accepted work.P sure.maps.problem (space.shape_of asked) sure.shape work.bytes refuted)) ∙ task.answer in
                    cc (other);
                same = takes;
              },
            ),
          )

      taken : (found : Option CheckFault) → TakesWhole (check_answer found).whole (check_answer found).text call.before.out call.after.out → Takes (check_answer found).text call.before.out call.after.out
      taken None takes = takes
      taken (Some fault) takes = takes

      by_end : CameTo (checks space) call asked files → (work : IsCheckWork space asked files) × (((call.status ≡ 0) × Accepts asked work call) ⊎ ((call.status ≡ 1) × Refuses asked work call))
      by_end (whole answered has same takes) =
          let given = check_given space is_kind asked files has.task has.is in
          let answers : check_answer given.0 ≡ answered = subst (λ task. CheckAnswers task answered) (sym given.1) has.answers in
          let is_answer : check_answer given.0 ≡ answered = cc (answers) in
          by_found given.0 given.2 (same ∙ sym (ap (λ (a : Answered). verdict_status a.verdict) is_answer)) (taken given.0 (subst (λ (a : Answered). TakesWhole a.whole a.text call.before.out call.after.out) (sym is_answer) takes))
      by_end (cut answered has five front) = absurd (five_apart call.status five low)
      by_end (none high same) = absurd (high low)

  accepts_refutations : (call : Call) → AnswersOnly kind (checks space) (IsAcceptance space) call
  accepts_refutations call asked files is answered has text same =
      let given = check_given space is_kind asked files has.task has.is in
      let answers : check_answer given.0 ≡ answered = subst (λ task. CheckAnswers task answered) (sym given.1) has.answers in
      by_found given.0 given.2 (cc (answers))
    where
      by_found : (found : Option CheckFault) → IsCheckTask space asked files found → check_answer found ≡ answered → IsAcceptance space asked files text
      by_found None task is_answer = (task.work, is_accepted call asked files is task, text_of answered _ text _ is_answer refl same)
      by_found (Some fault) task is_answer =
          let both : None ≡ Some text = ap (λ (a : Answered). a.text) is_answer ∙ same in absurd (cc (both))

  pub check_cut : (call : Call) (asked : RequestView) (files : List File) → IsCommand kind call asked files → CameTo (checks space) call asked files → CutsText (IsAcceptance space) call asked files
  check_cut call = cuts_text kind (checks space) (IsAcceptance space) call (accepts_refutations call)

  pub check_ends : EndsSo kind (checks space)
  check_ends call asked files answered is has takes =
      let given = check_given space is_kind asked files has.task has.is in
      let answers : check_answer given.0 ≡ answered = subst (λ task. CheckAnswers task answered) (sym given.1) has.answers in
      let is_answer : check_answer given.0 ≡ answered = cc (answers) in
      subst (λ (a : Answered). IsEnding (checks space) call.rules asked files a.verdict) is_answer (by_found given.0 given.2)
    where
      by_found : (found : Option CheckFault) → IsCheckTask space asked files found → IsEnding (checks space) call.rules asked files (check_answer found).verdict
      by_found None task = as_asked refl
      by_found (Some fault) task = as_no (text_of_check fault (refutation_name asked)) refl (inl refl) (fault, task, refl)

  -- all that `check` promises
  pub check_promise : (call : Call) (asked : RequestView) (files : List File) → IsCommand kind call asked files → CameTo (checks space) call asked files → CheckPromise space call asked files
  check_promise call asked files is came = record { checked = checks_refutation call asked files is came; cut = check_cut call asked files is came }

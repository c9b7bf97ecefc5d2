-- What `refute` promises.
use Rattle.std.proofs.Common.{Bool, List, None, Option, Some, ap, append_assoc, arith, drop, false, inl, inr, refl, subst, sym, take, take-append-drop, true, ℕ, ◌++◌, ◌∙◌, ◌≡◌, ◌⊎◌}
use Rattle.std.proofs.lemmas.Bool.{false≢true}
use Rattle.wfc_choose.specs.Pick.{Rule}
use Rattle.wfc_lines.specs.Outcome.{map_exists_text}
use Rattle.wfc_outside.proofs.CallerLemmas.{fault_out}
use Rattle.wfc_outside.specs.Folder.{File}
use Rattle.wfc_outside.specs.Sink.{IsFaultAfterFront}
use Rattle.wfc_problem.specs.Network.{Network}
use Rattle.wfc_proof_commands.proofs.ProofKindLemmas.{IsProofKind}
use Rattle.wfc_proof_commands.proofs.RefutingLemmas.{refute_given}
use Rattle.wfc_proof_commands.specs.ProofKind.{ProofKind}
use Rattle.wfc_proof_commands.specs.RefuteClaims.{RefutePromise, IsFirstLinesFront, IsWholeRunFront, RefuteWork, WritesProofFront, WritesRefutation, WritesRun, WritesRunFront, WritesTextFront}
use Rattle.wfc_proof_commands.specs.RefuteCommand.{RefuteAnswers, refutes}
use Rattle.wfc_proof_commands.specs.RefuteGiven.{IsRefuteTask}
use Rattle.wfc_proof_commands.specs.RefuteTask.{RefuteTask}
use Rattle.wfc_proof_commands.specs.RefuteTask as tasks
use Rattle.wfc_proof_commands.specs.Refuting.{RefutesBy, RefutesFront, RefutesWhole, refutation_text, writing_of}
use Rattle.wfc_reply.proofs.CallerLemmas.{CameTo, EndsSo, IsEnding, as_asked, as_no, as_spent, cut, five_apart, front_taken, front_text, none, refuted_status, run_is_proof, run_none, run_single, run_spent, run_text, store_problem, verdict_apart, whole}
use Rattle.wfc_reply.specs.Asking.{IsCommand}
use Rattle.wfc_reply.specs.Call.{Call}
use Rattle.wfc_reply.specs.Choosers.{first_rule, kinds_of}
use Rattle.wfc_reply.specs.Outcomes.{refute_status, refute_verdict}
use Rattle.wfc_reply.specs.Reply.{Answered, CutsOff, TakesWhole, verdict_status}
use Rattle.wfc_reply.specs.RunText.{IsFrontOfText}
use Rattle.wfc_runs.specs.Words.{words_of_seed}
use Rattle.wfc_search.proofs.Counts.{run_counts}
use Rattle.wfc_search.specs.Run.{State, start}
use Rattle.wfc_search.specs.declared.Outcome.{Outcome}
use Rattle.wfc_search.specs.declared.Outcome.TheVariants as outcome
use Rattle.wfc_task.proofs.CallerLemmas.{no_map_of}
use Rattle.wfc_task.specs.MapKind.{IsMapProblem}
use Rattle.wfc_words.specs.RequestView.{RequestView}
use Rattle.wfc_words.specs.declared.kinds.CommandKind.{CommandKind}

-- what `refute` answered
pub record HasRefuted (space : ProofKind) (rules : List Rule) (asked : RequestView) (files : List File) (answered : Answered) : Type 0 where
  pub work : RefuteWork space rules asked files
  pub is : RefutesWhole space work.rule asked work.P answered ⊎ RefutesFront space work.rule asked work.P answered

-- ---- a command with such answers, whose problems have these maps

module _ (space : ProofKind) (is_kind : IsProofKind space) (kind : CommandKind)
    (known : (call : Call) (asked : RequestView) (files : List File) → IsCommand kind call asked files → (P : Network) (posed : space.maps.IsPosed asked files P) → IsMapProblem space.maps asked files P posed) where
  refuted_by : (rules : List Rule) (asked : RequestView) (files : List File) (answered : Answered) (P : Network) → IsRefuteTask space (kinds_of rules) asked files P → RefuteAnswers space rules asked (tasks.refute P) answered → HasRefuted space rules asked files answered
  refuted_by rules asked files answered P task answers = by_rule (first_rule asked.rule rules) refl answers
    where
      by_rule : (found : Option Rule) → first_rule asked.rule rules ≡ found → RefutesBy space found asked P answered → HasRefuted space rules asked files answered
      by_rule None is answers = absurd answers
      by_rule (Some rule) is answers = record { work = record { P = P; task = task; rule = rule; first = is }; is = answers }

  pub has_refuted : (call : Call) (asked : RequestView) (files : List File) (task : RefuteTask) (answered : Answered) → IsCommand kind call asked files
      → (P : Network) → tasks.refute P ≡ task → IsRefuteTask space (kinds_of call.rules) asked files P → RefuteAnswers space call.rules asked task answered → HasRefuted space call.rules asked files answered
  has_refuted call asked files task answered is P same given answers = refuted_by call.rules asked files answered P given (subst (λ (t : RefuteTask). RefuteAnswers space call.rules asked t answered) (sym same) answers)

  pub writes_refutation : (call : Call) (asked : RequestView) (files : List File) → IsCommand kind call asked files → CameTo (refutes space) call asked files → WritesRefutation space call asked files
  writes_refutation call asked files is came low = by_end came
    where
      by_whole : (answered : Answered) (work : RefuteWork space call.rules asked files) → call.status ≡ verdict_status answered.verdict → TakesWhole answered.whole answered.text call.before.out call.after.out → RefutesWhole space work.rule asked work.P answered
          → (work : RefuteWork space call.rules asked files) × WritesRun asked work call
      by_whole answered work same takes refuted =
          let first = refuted.told.first in
          let begin : State = start (words_of_seed asked.seed) in
          let problem = store_problem work.P begin first refuted.told.opened in
          let proof = run_is_proof work.rule asked.budget work.P (words_of_seed asked.seed) refuted.outcome refuted.lines refuted.told in
          let counts = run_counts work.P work.rule asked.budget begin first refuted.outcome refuted.lines refl refuted.told.opened refuted.told.tells in
          let status_is : call.status ≡ refute_status refuted.outcome = same ∙ ap (λ (a : Answered). verdict_status a.verdict) refuted.is ∙ refuted_status asked.budget refuted.outcome in (
            work,
            record {
              outcome = refuted.outcome;
              lines = refuted.lines;
              told = refuted.told;
              counts = counts;
              text = run_text (writing_of space asked) work.P refuted.outcome refuted.lines problem proof (run_single work.P work.rule asked.budget begin first refuted.outcome refuted.lines refuted.told.tells);
              same_status = status_is;
              written = subst (λ (a : Answered). TakesWhole a.whole a.text call.before.out call.after.out) refuted.is takes;
              none = λ nought. no_map_of space.maps asked files work.P work.task.posed (known call asked files is work.P work.task.posed)
                  (run_none work.P problem refuted.outcome refuted.lines proof (sym status_is ∙ nought));
              spent = λ two. run_spent work.P problem work.rule asked.budget (words_of_seed asked.seed) counts.later refuted.outcome counts.run (sym status_is ∙ two);
            },
          )

      front_taken : (b : Bool) (text : Option (List ℕ)) → b ≡ false → TakesWhole b text call.before.out call.after.out → ⊥
      front_taken true text is takes = false≢true (sym is)
      front_taken false text is takes = takes

      by_answer : (answered : Answered) (work : RefuteWork space call.rules asked files) → call.status ≡ verdict_status answered.verdict → TakesWhole answered.whole answered.text call.before.out call.after.out
          → RefutesWhole space work.rule asked work.P answered ⊎ RefutesFront space work.rule asked work.P answered → (work : RefuteWork space call.rules asked files) × WritesRun asked work call
      by_answer answered work same takes (inl refuted) = by_whole answered work same takes refuted
      by_answer answered work same takes (inr front) = absurd (front_taken answered.whole answered.text front.front takes)

      by_end : CameTo (refutes space) call asked files → (work : RefuteWork space call.rules asked files) × WritesRun asked work call
      by_end (whole answered has same takes) =
          let given = refute_given space is_kind (kinds_of call.rules) asked files has.task has.is in
          let refuted = has_refuted call asked files has.task answered is given.0 given.1 given.2 has.answers in
          by_answer answered refuted.work same takes refuted.is
      by_end (cut answered has five front) = absurd (five_apart call.status five low)
      by_end (none high same) = absurd (high low)

  -- what a failed sink took of a run that was told
  pub writes_run_front : (call : Call) (asked : RequestView) (files : List File) → IsCommand kind call asked files → CameTo (refutes space) call asked files → WritesRunFront space call asked files
  writes_run_front call asked files is came five = by_end came
    where
      by_answer : (answered : Answered) (work : RefuteWork space call.rules asked files) → CutsOff answered.text call.before.out call.after.out → RefutesWhole space work.rule asked work.P answered ⊎ RefutesFront space work.rule asked work.P answered
          → IsWholeRunFront asked work call ⊎ IsFirstLinesFront asked work call
      by_answer answered work parted (inl refuted) = inl (record {
        outcome = refuted.outcome;
        lines = refuted.lines;
        told = refuted.told;
        front = subst (λ (a : Answered). CutsOff a.text call.before.out call.after.out) refuted.is parted;
      })
      by_answer answered work parted (inr front) = inr (record {
        lines = front.lines;
        begun = front.begun;
        count = front.count;
        within = front.within;
        bytes = front.bytes;
        broken = front.broken;
        front = subst (λ (t : Option (List ℕ)). CutsOff t call.before.out call.after.out) front.text parted;
      })

      by_end : CameTo (refutes space) call asked files → (call.after.out ≡ call.before.out) ⊎ ((work : RefuteWork space call.rules asked files) × (IsWholeRunFront asked work call ⊎ IsFirstLinesFront asked work call))
      by_end (whole answered has same takes) = absurd (verdict_apart answered.verdict 5 (omega arith) (omega arith) (sym same ∙ five))
      by_end (cut answered has _ front) =
          let given = refute_given space is_kind (kinds_of call.rules) asked files has.task has.is in
          let refuted = has_refuted call asked files has.task answered is given.0 given.1 given.2 has.answers in
          inr (refuted.work, by_answer answered refuted.work front refuted.is)
      by_end (none high same) = inl same

  -- so it took a front of the text of a proof, or of one that is left open
  pub writes_front : (call : Call) (asked : RequestView) (files : List File) → WritesRunFront space call asked files → WritesProofFront space call asked files
  writes_front call asked files fronts five = elim (fronts five) [
    | inl same ↦ inl same
    | inr some ↦ inr (some.0, by_front some.0 some.1)
  ]
    where
      of_lines : (work : RefuteWork space call.rules asked files) (first : IsFirstLinesFront asked work call)
          → IsFrontOfText work.P (space.shape_of asked) (refutation_text space asked work.P (take first.count first.lines)) → WritesTextFront asked work call
      of_lines work first text =
          let told : List ℕ = refutation_text space asked work.P (take first.count first.lines) in
          let rest : told ≡ take first.bytes told ++ drop first.bytes told = sym (take-append-drop first.bytes told) in
          let whole : text.text ≡ take first.bytes told ++ (drop first.bytes told ++ text.more) =
          text.whole ∙ ap (λ (xs : List ℕ). xs ++ text.more) rest ∙ append_assoc (take first.bytes told) (drop first.bytes told) text.more in
          record {
            outcome = text.outcome;
            text = text.text;
            is = text.is;
            front = subst (λ (xs : List ℕ). IsFaultAfterFront call.before.out call.after.out xs) (sym whole)
                (fault_out call.before.out call.after.out (take first.bytes told) (drop first.bytes told ++ text.more) first.front);
          }

      by_front : (work : RefuteWork space call.rules asked files) → IsWholeRunFront asked work call ⊎ IsFirstLinesFront asked work call → WritesTextFront asked work call
      by_front work (inl all) =
          let begin : State = start (words_of_seed asked.seed) in
          let problem = store_problem work.P begin all.told.first all.told.opened in
          let proof = run_is_proof work.rule asked.budget work.P (words_of_seed asked.seed) all.outcome all.lines all.told in
          record {
            outcome = all.outcome;
            text = refutation_text space asked work.P all.lines;
            is = run_text (writing_of space asked) work.P all.outcome all.lines problem proof (run_single work.P work.rule asked.budget begin all.told.first all.outcome all.lines all.told.tells);
            front = all.front;
          }
      by_front work (inr first) =
          let begin : State = start (words_of_seed asked.seed) in
          let problem = store_problem work.P begin first.begun.first first.begun.opened in
          of_lines work first (front_text (writing_of space asked) work.P work.rule asked.budget (words_of_seed asked.seed) first.lines first.count problem first.begun)

  pub refute_ends : EndsSo kind (refutes space)
  refute_ends call asked files answered is has takes =
      let given = refute_given space is_kind (kinds_of call.rules) asked files has.task has.is in
      let refuted = has_refuted call asked files has.task answered is given.0 given.1 given.2 has.answers in
      by_answer refuted.work.rule refuted.work.P refuted.is
    where
      by_outcome : (o : Outcome) → IsEnding (refutes space) call.rules asked files (refute_verdict asked.budget o)
      by_outcome outcome.Map = as_no map_exists_text refl (inl refl) refl
      by_outcome outcome.NoMap = as_asked refl
      by_outcome outcome.Spent = as_spent refl

      by_answer : (rule : Rule) (P : Network) → RefutesWhole space rule asked P answered ⊎ RefutesFront space rule asked P answered → IsEnding (refutes space) call.rules asked files answered.verdict
      by_answer rule P (inl refuted) = subst (λ (a : Answered). IsEnding (refutes space) call.rules asked files a.verdict) (sym refuted.is) (by_outcome refuted.outcome)
      by_answer rule P (inr front) = absurd (front_taken answered.whole answered.text call.before.out call.after.out front.front takes)

  -- all that `refute` promises
  pub refute_promise : (call : Call) (asked : RequestView) (files : List File) → IsCommand kind call asked files → CameTo (refutes space) call asked files → RefutePromise space call asked files
  refute_promise call asked files is came =
      let fronts = writes_run_front call asked files is came in
      record { written = writes_refutation call asked files is came; front = writes_front call asked files fronts; as_run = fronts }

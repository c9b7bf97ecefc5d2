-- What a call promises of a command that writes a map as `fill` does, of any kind of maps.
use Rattle.std.proofs.Common.{List, None, Option, Some, ap, arith, inl, inr, refl, subst, sym, true, ◌+◌, ◌∙◌, ◌≡◌, ◌≤◌, ◌⊎◌, ℕ}
use Rattle.wfc_choose.specs.Pick.{Rule}
use Rattle.wfc_lines.specs.Outcome.{no_map_text}
use Rattle.wfc_map_commands.specs.FillAnswer.{fill_answer, fill_text}
use Rattle.wfc_map_commands.specs.FillClaims.{FillPromise, FillWork, HasNoMap, IsAsRun, IsFoundMap, IsLegalMap, IsNeverSpent, WritesFront, WritesLegalMap, assignment_text, map_text_of}
use Rattle.wfc_outside.specs.Folder.{File}
use Rattle.wfc_outside.specs.Sink.{IsFaultAfterFront, after_bytes, after_finish}
use Rattle.wfc_problem.specs.Network.{Network}
use Rattle.wfc_reply.proofs.CallerLemmas.{CameTo, EndsSo, HasAnswered, IsEnding, as_asked, as_no, as_spent, cut, five_apart, none, ran_by, verdict_apart, verdict_outcome, whole}
use Rattle.wfc_reply.specs.Asking.{IsCommand}
use Rattle.wfc_reply.specs.Call.{Call}
use Rattle.wfc_reply.specs.Command.{Command}
use Rattle.wfc_reply.specs.Outcomes.{outcome_status, verdict_of}
use Rattle.wfc_reply.specs.Reply.{Answered, CutsOff, Takes, TakesWhole, verdict_status}
use Rattle.wfc_reply.specs.RunEnds.{end_of}
use Rattle.wfc_reply.specs.declared.reply.CommandVerdict.TheVariants as verdict
use Rattle.wfc_runs.specs.Words.{words_of_seed}
use Rattle.wfc_search.proofs.CallerLemmas.{outcome_map, outcome_none, outcome_spent}
use Rattle.wfc_search.specs.Run.{State}
use Rattle.wfc_search.specs.Search.{assignment_of}
use Rattle.wfc_search.specs.Volume.{volume_of}
use Rattle.wfc_search.specs.declared.Outcome.{Outcome}
use Rattle.wfc_search.specs.declared.Outcome.TheVariants as outcome
use Rattle.wfc_task.proofs.CallerLemmas.{no_map_of}
use Rattle.wfc_task.specs.MapKind.{IsMapProblem, MapKind}
use Rattle.wfc_words.specs.RequestView.{RequestView}
use Rattle.wfc_words.specs.declared.kinds.CommandKind.{CommandKind}

-- what `fill` answered
pub record HasFilled (maps : MapKind) (rules : List Rule) (asked : RequestView) (files : List File) (answered : Answered) : Type 0 where
  pub work : FillWork maps rules asked files
  pub end : Outcome × State
  pub ends : end_of rules asked.rule work.P asked.budget asked.seed ≡ Some end
  pub is : answered ≡ record { verdict = verdict_of asked.budget end.0; text = fill_text (assignment_text asked work) work.P end; whole = true }

-- an answer by the end of the run of this work is one
pub filled_with : (maps : MapKind) (rules : List Rule) (asked : RequestView) (files : List File) (answered : Answered) (work : FillWork maps rules asked files)
    → fill_answer (assignment_text asked work) asked.budget work.P (end_of rules asked.rule work.P asked.budget asked.seed) ≡ Some answered → HasFilled maps rules asked files answered
filled_with maps rules asked files answered work answers = by_end (end_of rules asked.rule work.P asked.budget asked.seed) refl answers
  where
    by_end : (end : Option (Outcome × State)) → end_of rules asked.rule work.P asked.budget asked.seed ≡ end
        → fill_answer (assignment_text asked work) asked.budget work.P end ≡ Some answered → HasFilled maps rules asked files answered
    by_end None ends answers = absurd (cc (answers))
    by_end (Some end) ends answers = record { work = work; end = end; ends = ends; is = sym (cc (answers)) }

-- the map that a run ended in
abbrev found_map : {maps : MapKind} {rules : List Rule} (asked : RequestView) (files : List File) → FillWork maps rules asked files → State → maps.Map
found_map {maps = maps} asked files work s = maps.map_of asked files work.P work.posed (assignment_of work.P s.standing)

-- a run ends in one map
pub found_once : (maps : MapKind) (rules : List Rule) (asked : RequestView) (files : List File) (work : FillWork maps rules asked files) (m other : maps.Map) → IsFoundMap asked work m → IsFoundMap asked work other → m ≡ other
found_once maps rules asked files work m other first second =
    let ends : Some (outcome.Map, first.state) ≡ Some (outcome.Map, second.state) = sym first.ends ∙ second.ends in
    let pairs : (outcome.Map, first.state) ≡ (outcome.Map, second.state) = cc (ends) in
    let same : first.state ≡ second.state = ap (λ (end : Outcome × State). end.1) pairs in
    first.made ∙ ap (λ (s : State). found_map asked files work s) same ∙ sym second.made

-- ---- a command with such answers, whose problems have these maps

module _ (maps : MapKind) (kind : CommandKind) (command : Command)
    (known : (call : Call) (asked : RequestView) (files : List File) → IsCommand kind call asked files → (P : Network) (posed : maps.IsPosed asked files P) → IsMapProblem maps asked files P posed)
    (filled_by : (call : Call) (asked : RequestView) (files : List File) (answered : Answered) → IsCommand kind call asked files → HasAnswered command call.rules asked files answered → HasFilled maps call.rules asked files answered) where
  pub is_as_run : (call : Call) (asked : RequestView) (files : List File) → IsCommand kind call asked files → CameTo command call asked files → IsAsRun maps call asked files
  is_as_run call asked files is came low = by_end came
    where
      by_end : CameTo command call asked files
          → (work : FillWork maps call.rules asked files) × (end : Outcome × State) × (end_of call.rules asked.rule work.P asked.budget asked.seed ≡ Some end)
          × (call.status ≡ outcome_status end.0) × Takes (fill_text (assignment_text asked work) work.P end) call.before.out call.after.out
      by_end (whole answered has same takes) =
          let filled = filled_by call asked files answered is has in (
            filled.work,
            filled.end,
            filled.ends,
            same ∙ ap (λ (a : Answered). verdict_status a.verdict) filled.is ∙ verdict_outcome asked.budget filled.end.0,
            subst (λ (a : Answered). TakesWhole a.whole a.text call.before.out call.after.out) filled.is takes,
          )
      by_end (cut answered has five front) = absurd (five_apart call.status five low)
      by_end (none high same) = absurd (high low)

  -- the map that a run ended in is legal
  map_is_legal : (call : Call) (asked : RequestView) (files : List File) → IsCommand kind call asked files → (work : FillWork maps call.rules asked files) (s : State)
      → end_of call.rules asked.rule work.P asked.budget asked.seed ≡ Some (outcome.Map, s) → IsLegalMap asked work (found_map asked files work s)
  map_is_legal call asked files is work s ends =
      let sure = known call asked files is work.P work.posed in
      let ran = ran_by call.rules asked.rule work.P asked.budget asked.seed (outcome.Map, s) ends in
      sure.makes (assignment_of work.P s.standing) (outcome_map work.P sure.problem ran.0 asked.budget (words_of_seed asked.seed) s ran.1).1

  pub writes_legal : (call : Call) (asked : RequestView) (files : List File) → IsCommand kind call asked files → CameTo command call asked files → WritesLegalMap maps call asked files
  writes_legal call asked files is came nought =
      let run = is_as_run call asked files is came (inl (omega (arith, nought))) in by_outcome run.0 run.1.0 run.1.1 run.2 run.3 run.4
    where
      by_outcome : (work : FillWork maps call.rules asked files) (o : Outcome) (s : State) → end_of call.rules asked.rule work.P asked.budget asked.seed ≡ Some (o, s) → call.status ≡ outcome_status o
          → Takes (fill_text (assignment_text asked work) work.P (o, s)) call.before.out call.after.out
          → (work : FillWork maps call.rules asked files) × (m : maps.Map) × IsLegalMap asked work m × (call.after.out ≡ after_finish (after_bytes call.before.out (map_text_of asked work m)))
      by_outcome work outcome.Map s ends same takes = (work, found_map asked files work s, map_is_legal call asked files is work s ends, takes)
      by_outcome work outcome.NoMap s ends same takes = absurd (omega (arith, same, nought))
      by_outcome work outcome.Spent s ends same takes = absurd (omega (arith, same, nought))

  pub has_no_map : (call : Call) (asked : RequestView) (files : List File) → IsCommand kind call asked files → CameTo command call asked files → HasNoMap maps call asked files
  has_no_map call asked files is came one =
      let run = is_as_run call asked files is came (inl (omega (arith, one))) in by_outcome run.0 run.1.0 run.1.1 run.2 run.3 run.4
    where
      by_outcome : (work : FillWork maps call.rules asked files) (o : Outcome) (s : State) → end_of call.rules asked.rule work.P asked.budget asked.seed ≡ Some (o, s) → call.status ≡ outcome_status o
          → Takes (fill_text (assignment_text asked work) work.P (o, s)) call.before.out call.after.out
          → (work : FillWork maps call.rules asked files) × ((m : maps.Map) → IsLegalMap asked work m → ⊥) × (call.after.out ≡ call.before.out)
      by_outcome work outcome.NoMap s ends same takes =
          let sure = known call asked files is work.P work.posed in
          let ran = ran_by call.rules asked.rule work.P asked.budget asked.seed (outcome.NoMap, s) ends in
          (work, no_map_of maps asked files work.P work.posed sure (outcome_none work.P sure.problem ran.0 asked.budget (words_of_seed asked.seed) s ran.1), takes)
      by_outcome work outcome.Map s ends same takes = absurd (omega (arith, same, one))
      by_outcome work outcome.Spent s ends same takes = absurd (omega (arith, same, one))

  pub is_never_spent : (call : Call) (asked : RequestView) (files : List File) → IsCommand kind call asked files → CameTo command call asked files → IsNeverSpent maps call asked files
  is_never_spent call asked files is came two =
      let run = is_as_run call asked files is came (inl (omega (arith, two))) in by_outcome run.0 run.1.0 run.1.1 run.2 run.3
    where
      by_outcome : (work : FillWork maps call.rules asked files) (o : Outcome) (s : State) → end_of call.rules asked.rule work.P asked.budget asked.seed ≡ Some (o, s) → call.status ≡ outcome_status o
          → (work : FillWork maps call.rules asked files) × (asked.budget + 1 ≤ volume_of work.P)
      by_outcome work outcome.Spent s ends same =
          let sure = known call asked files is work.P work.posed in
          let ran = ran_by call.rules asked.rule work.P asked.budget asked.seed (outcome.Spent, s) ends in
          let below = (outcome_spent work.P sure.problem ran.0 asked.budget (words_of_seed asked.seed) s ran.1).1 in
          (work, omega (arith, below))
      by_outcome work outcome.Map s ends same = absurd (omega (arith, same, two))
      by_outcome work outcome.NoMap s ends same = absurd (omega (arith, same, two))

  pub writes_front : (call : Call) (asked : RequestView) (files : List File) → IsCommand kind call asked files → CameTo command call asked files → WritesFront maps call asked files
  writes_front call asked files is came five = by_end came
    where
      by_outcome : (work : FillWork maps call.rules asked files) (o : Outcome) (s : State) → end_of call.rules asked.rule work.P asked.budget asked.seed ≡ Some (o, s)
          → CutsOff (fill_text (assignment_text asked work) work.P (o, s)) call.before.out call.after.out
          → (work : FillWork maps call.rules asked files) × (m : maps.Map) × IsFoundMap asked work m × IsLegalMap asked work m × IsFaultAfterFront call.before.out call.after.out (map_text_of asked work m)
      by_outcome work outcome.Map s ends front = (work, found_map asked files work s, record { state = s; ends = ends; made = refl }, map_is_legal call asked files is work s ends, front)
      by_outcome work outcome.NoMap s ends front = absurd front
      by_outcome work outcome.Spent s ends front = absurd front

      by_end : CameTo command call asked files
          → (call.after.out ≡ call.before.out) ⊎ ((work : FillWork maps call.rules asked files) × (m : maps.Map) × IsFoundMap asked work m × IsLegalMap asked work m × IsFaultAfterFront call.before.out call.after.out (map_text_of asked work m))
      by_end (whole answered has same takes) = absurd (verdict_apart answered.verdict 5 (omega arith) (omega arith) (sym same ∙ five))
      by_end (cut answered has _ front) =
          let filled = filled_by call asked files answered is has in
          inr (by_outcome filled.work filled.end.0 filled.end.1 filled.ends (subst (λ (a : Answered). CutsOff a.text call.before.out call.after.out) filled.is front))
      by_end (none high same) = inl same

  pub map_ends : ((rules : List Rule) (asked : RequestView) (files : List File) → command.IsNo rules asked files no_map_text) → ((asked : RequestView) → command.budget asked ≡ asked.budget) → EndsSo kind command
  map_ends says_no budget call asked files answered is has takes =
      let filled = filled_by call asked files answered is has in
      subst (λ (a : Answered). IsEnding command call.rules asked files a.verdict) (sym filled.is) (by_outcome filled.end.0)
    where
      by_outcome : (o : Outcome) → IsEnding command call.rules asked files (verdict_of asked.budget o)
      by_outcome outcome.Map = as_asked refl
      by_outcome outcome.NoMap = as_no no_map_text refl (inl refl) (says_no call.rules asked files)
      by_outcome outcome.Spent = as_spent (ap (λ (n : ℕ). verdict.Spent n) (sym (budget asked)))

  -- all that `fill` promises
  pub map_promise : (call : Call) (asked : RequestView) (files : List File) → IsCommand kind call asked files → CameTo command call asked files → FillPromise maps call asked files
  map_promise call asked files is came = record {
    legal = writes_legal call asked files is came;
    front = writes_front call asked files is came;
    no_map = has_no_map call asked files is came;
    as_run = is_as_run call asked files is came;
    never_spent = is_never_spent call asked files is came;
  }

-- What a call promises of `race`.
use Rattle.std.proofs.Common.{List, None, Option, Some, ap, arith, inl, inr, refl, subst, sym, true, ℕ, ◌+◌, ◌∙◌, ◌≡◌, ◌≤◌}
use Rattle.std.proofs.lemmas.Bool.{cases_lt}
use Rattle.std.specs.List.{slice_get}
use Rattle.wfc_choose.specs.Pick.{Rule}
use Rattle.wfc_lines.specs.Outcome.{no_map_text}
use Rattle.wfc_model.specs.Raster.{Raster}
use Rattle.wfc_outside.specs.Folder.{File}
use Rattle.wfc_problem.specs.Network.{Network}
use Rattle.wfc_race.proofs.CallerLemmas.{ends_true, named_end, volume_enough, within}
use Rattle.wfc_race.specs.Race.{EndsWithin, IsTrueRaceEnd}
use Rattle.wfc_race.specs.Racers.{Racer}
use Rattle.wfc_race.specs.Rounds.{rounds_of}
use Rattle.wfc_race.specs.declared.RaceEnd.{RaceEnd}
use Rattle.wfc_race.specs.declared.RaceEnd.TheVariants as end
use Rattle.wfc_reply.proofs.CallerLemmas.{AnswersOnly, CameTo, EndsSo, HasAnswered, IsEnding, as_asked, as_no, as_spent, came_with, cuts_text, length-first_rules, plain_kind}
use Rattle.wfc_reply.specs.Asking.{IsCommand}
use Rattle.wfc_reply.specs.Call.{Call}
use Rattle.wfc_reply.specs.Choosers.{kinds_of}
use Rattle.wfc_reply.specs.CutClaims.{CutsText}
use Rattle.wfc_reply.specs.Reply.{Answered, TakesWhole, verdict_status}
use Rattle.wfc_reply.specs.RunEnds.{end_by}
use Rattle.wfc_run_commands.proofs.MakingLemmas.{length-entrants}
use Rattle.wfc_run_commands.proofs.OfKindLemmas.{runner_is}
use Rattle.wfc_run_commands.proofs.RacerLemmas.{as_many, entrant_at, handed, inside, runners_asked}
use Rattle.wfc_run_commands.proofs.RacingLemmas.{race_given}
use Rattle.wfc_run_commands.specs.RaceClaims.{HasNoRacedMap, HasRacedMap, IsAsRace, IsAsRunner, IsNeverAllSpent, IsOwnRun, IsRaceText, IsRacedMap, NamesRun, RacePromise, RaceWork}
use Rattle.wfc_run_commands.specs.RaceCommand.{RaceAnswers, race_command}
use Rattle.wfc_run_commands.specs.Races.{entrants}
use Rattle.wfc_run_commands.specs.Racing.{race_answer, race_end, race_status, race_text, race_verdict, retractions_in, runners_of}
use Rattle.wfc_runs.proofs.CallerLemmas.{plain_runs}
use Rattle.wfc_runs.specs.Words.{words_of_seed}
use Rattle.wfc_search.specs.Volume.{volume_of}
use Rattle.wfc_search.specs.declared.Outcome.{Outcome}
use Rattle.wfc_search.specs.declared.Outcome.TheVariants as outcome
use Rattle.wfc_task.proofs.CallerLemmas.{IsBridged, TakesSides, command_bridged, no_legal}
use Rattle.wfc_words.proofs.RangeLemmas.{asked-in_range}
use Rattle.wfc_words.specs.Named.{is_rankable}
use Rattle.wfc_words.specs.RequestView.{RequestView}
use Rattle.wfc_words.specs.declared.kinds.CommandKind.TheVariants as commands

-- what `race` answered
pub record HasRaced (rules : List Rule) (asked : RequestView) (files : List File) (answered : Answered) : Type 0 where
  pub work : RaceWork rules asked files
  pub ended : RaceEnd × List Racer
  pub ends : race_end rules asked work.P ≡ Some ended
  pub is : answered ≡ record { verdict = race_verdict asked.budget ended.0; text = race_text asked ended; whole = true }

pub race_answered : (rules : List Rule) (asked : RequestView) (files : List File) (answered : Answered) → HasAnswered race_command rules asked files answered → HasRaced rules asked files answered
race_answered rules asked files answered has =
    let given = race_given (kinds_of rules) asked files has.task has.is in
    by_end (record { P = given.0; task = given.2 }) (race_end rules asked given.0) refl (subst (λ task. RaceAnswers rules asked task answered) (sym given.1) has.answers)
  where
    by_end : (work : RaceWork rules asked files) (ended : Option (RaceEnd × List Racer)) → race_end rules asked work.P ≡ ended → race_answer asked ended ≡ Some answered → HasRaced rules asked files answered
    by_end work None ends answers = absurd (cc (answers))
    by_end work (Some ended) ends answers = record { work = work; ended = ended; ends = ends; is = sym (cc (answers)) }

verdict_raced : (budget : ℕ) (ended : RaceEnd) → verdict_status (race_verdict budget ended) ≡ race_status ended
verdict_raced budget (end.Map who) = refl
verdict_raced budget (end.NoMap who) = refl
verdict_raced budget end.AllSpent = refl

-- the runners before their first turn
abbrev entered_by : (rules : List Rule) → RequestView → List Racer
entered_by rules asked = entrants (runners_of rules asked) asked.budget asked.seed

-- a front of the rounds ends the race so
front : (rules : List Rule) (asked : RequestView) (P : Network) (ended : RaceEnd) (now : List Racer) → race_end rules asked P ≡ Some (ended, now)
    → EndsWithin P (entered_by rules asked) (rounds_of P (entered_by rules asked) asked.quantum) ended now
front rules asked P ended now ends = within P (entered_by rules asked) (rounds_of P (entered_by rules asked) asked.quantum) ended now ends

pub is_as_race : (call : Call) (asked : RequestView) (files : List File) → CameTo race_command call asked files → IsAsRace call asked files
is_as_race call asked files came low =
    let with = came_with race_command call asked files came low in
    let raced = race_answered call.rules asked files with.answered with.has in (
      raced.work,
      raced.ended,
      raced.ends,
      with.same_status ∙ ap (λ (a : Answered). verdict_status a.verdict) raced.is ∙ verdict_raced asked.budget raced.ended.0,
      subst (λ (a : Answered). TakesWhole a.whole a.text call.before.out call.after.out) raced.is with.taken,
    )

-- ---- what an end means

sides_of_race : TakesSides commands.Race
sides_of_race = record { model = refl; width = refl; height = refl }

-- what is known of the problem of a race
known : (call : Call) (asked : RequestView) (files : List File) → IsCommand commands.Race call asked files → (work : RaceWork call.rules asked files)
    → IsBridged asked.source asked files work.P work.task.posed
known call asked files is work = command_bridged commands.Race call.words asked files work.P work.task.posed sides_of_race is.given.spelled is.command_is

-- and what it says is true
says : (call : Call) (asked : RequestView) (files : List File) → IsCommand commands.Race call asked files → (work : RaceWork call.rules asked files) (ended : RaceEnd) (now : List Racer)
    → race_end call.rules asked work.P ≡ Some (ended, now) → IsTrueRaceEnd work.P now ended
says call asked files is work ended now ends =
    let w = front call.rules asked work.P ended now ends in
    subst (λ (rs : List Racer). IsTrueRaceEnd work.P rs ended) (sym w.now_is)
    (ends_true work.P (known call asked files is work).problem (entered_by call.rules asked) w.front ended (handed work.P (runners_of call.rules asked) asked.budget asked.seed) w.is)

pub has_raced_map : (call : Call) (asked : RequestView) (files : List File) → IsCommand commands.Race call asked files → CameTo race_command call asked files → HasRacedMap call asked files
has_raced_map call asked files is came nought =
    let raced = is_as_race call asked files came (inl (omega (arith, nought))) in by_end raced.0 raced.1.0 raced.1.1 raced.2 raced.3
  where
    by_end : (work : RaceWork call.rules asked files) (ended : RaceEnd) (now : List Racer) → race_end call.rules asked work.P ≡ Some (ended, now) → call.status ≡ race_status ended
        → (work : RaceWork call.rules asked files) × (m : Raster) × IsRacedMap asked work m
    by_end work (end.Map who) now ends same =
        let legal = says call asked files is work (end.Map who) now ends in (work, _, (known call asked files is work).makes _ legal.3)
    by_end work (end.NoMap who) now ends same = absurd (omega (arith, same, nought))
    by_end work end.AllSpent now ends same = absurd (omega (arith, same, nought))

pub has_no_raced_map : (call : Call) (asked : RequestView) (files : List File) → IsCommand commands.Race call asked files → CameTo race_command call asked files → HasNoRacedMap call asked files
has_no_raced_map call asked files is came one =
    let raced = is_as_race call asked files came (inl (omega (arith, one))) in by_end raced.0 raced.1.0 raced.1.1 raced.2 raced.3
  where
    by_end : (work : RaceWork call.rules asked files) (ended : RaceEnd) (now : List Racer) → race_end call.rules asked work.P ≡ Some (ended, now) → call.status ≡ race_status ended
        → (work : RaceWork call.rules asked files) × ((m : Raster) → IsRacedMap asked work m → ⊥)
    by_end work (end.NoMap who) now ends same =
        let has_none = says call asked files is work (end.NoMap who) now ends in
        (work, no_legal asked files work.P work.task.posed (known call asked files is work) has_none.3)
    by_end work (end.Map who) now ends same = absurd (omega (arith, same, one))
    by_end work end.AllSpent now ends same = absurd (omega (arith, same, one))

pub is_never_all_spent : (call : Call) (asked : RequestView) (files : List File) → IsCommand commands.Race call asked files → CameTo race_command call asked files → IsNeverAllSpent call asked files
is_never_all_spent call asked files is came two =
    let raced = is_as_race call asked files came (inl (omega (arith, two))) in by_end raced.0 raced.1.0 raced.1.1 raced.2 raced.3
  where
    -- the first runner has this budget
    below : (work : RaceWork call.rules asked files) (now : List Racer) → race_end call.rules asked work.P ≡ Some (end.AllSpent, now) → asked.budget + 1 ≤ volume_of work.P
    below work now ends =
        let w = front call.rules asked work.P end.AllSpent now ends in
        let range = runners_asked asked (asked-in_range call.words asked is.given.spelled) is.command_is in
        let first = entrant_at (runners_of call.rules asked) asked.budget asked.seed 0 (omega (arith, range.some, length-first_rules asked.seeds asked.rule call.rules work.task.choosers)) in
        elim (cases_lt asked.budget (volume_of work.P)) [
          | inl low ↦ omega (arith, low)
          | inr enough ↦ absurd (volume_enough work.P (known call asked files is work).problem (entered_by call.rules asked) w.front 0 _ (handed work.P (runners_of call.rules asked) asked.budget asked.seed) first.1.1 enough w.is)
        ]

    by_end : (work : RaceWork call.rules asked files) (ended : RaceEnd) (now : List Racer) → race_end call.rules asked work.P ≡ Some (ended, now) → call.status ≡ race_status ended
        → (work : RaceWork call.rules asked files) × (asked.budget + 1 ≤ volume_of work.P)
    by_end work end.AllSpent now ends same = (work, below work now ends)
    by_end work (end.Map who) now ends same = absurd (omega (arith, same, two))
    by_end work (end.NoMap who) now ends same = absurd (omega (arith, same, two))

-- the runner that an end names ends alone as the race does, and as `fill` with its seed, since no race goes by ranks
pub is_as_runner : (call : Call) (asked : RequestView) (files : List File) → IsCommand commands.Race call asked files → IsAsRunner call asked files
is_as_runner call asked files is work ended ends = by_end ended.0 ended.1 ends
  where
    own : (sort : RaceEnd) (now : List Racer) (who : ℕ) (r : Racer) (o : Outcome) → race_end call.rules asked work.P ≡ Some (sort, now) → slice_get now who ≡ Some r → r.outcome ≡ Some o
        → IsOwnRun call.rules asked work.P who o (retractions_in (slice_get now who))
    own sort now who r o ends here out =
        let rounds = rounds_of work.P (entered_by call.rules asked) asked.quantum in
        let many = as_many work.P (entered_by call.rules asked) now rounds sort ends ∙ length-entrants (runners_of call.rules asked) asked.budget asked.seed in
        let at = entrant_at (runners_of call.rules asked) asked.budget asked.seed who (omega (arith, inside now who r here, many)) in
        let alone = named_end work.P (known call asked files is work).problem (entered_by call.rules asked) now rounds sort who at.0 asked.budget (words_of_seed (asked.seed + who)) r o ends at.1.1 here out in
        let words = words_of_seed (asked.seed + who) in
        let found = runner_is asked.rule call.rules asked.seeds who at.0 at.1.0 in
        let range = asked-in_range call.words asked is.given.spelled in
        let plain = plain_kind asked.rule (range.run.unranked (ap is_rankable is.command_is)) in
        record {
          rule = at.0;
          there = at.1.0;
          state = _;
          ends = alone.1;
          same = sym (ap retractions_in here);
          as_fill = ap (λ (r : Option Rule). end_by r work.P asked.budget (asked.seed + who)) found.chosen_is ∙ plain_runs work.P found.first at.0 asked.rule asked.budget words found.first_is found.is plain ∙ alone.1;
        }

    by_end : (sort : RaceEnd) (now : List Racer) → race_end call.rules asked work.P ≡ Some (sort, now) → NamesRun call.rules asked work.P (sort, now)
    by_end (end.Map who) now ends = let legal = says call asked files is work (end.Map who) now ends in own (end.Map who) now who legal.0 outcome.Map ends legal.1 legal.2
    by_end (end.NoMap who) now ends = let has_none = says call asked files is work (end.NoMap who) now ends in own (end.NoMap who) now who has_none.0 outcome.NoMap ends has_none.1 has_none.2
    by_end end.AllSpent now ends = tt

-- ---- what is written

tells_race : (call : Call) → AnswersOnly commands.Race race_command (IsRaceText call.rules) call
tells_race call asked files is answered has text same =
    let raced = race_answered call.rules asked files answered has in
    (raced.work, raced.ended, raced.ends, sym (ap (λ (a : Answered). a.text) raced.is) ∙ same)

pub race_cut : (call : Call) (asked : RequestView) (files : List File) → IsCommand commands.Race call asked files → CameTo race_command call asked files → CutsText (IsRaceText call.rules) call asked files
race_cut call = cuts_text commands.Race race_command (IsRaceText call.rules) call (tells_race call)

pub race_ends : EndsSo commands.Race race_command
race_ends call asked files answered is has takes =
    let raced = race_answered call.rules asked files answered has in
    subst (λ (a : Answered). IsEnding race_command call.rules asked files a.verdict) (sym raced.is) (by_end raced.ended.0)
  where
    by_end : (ended : RaceEnd) → IsEnding race_command call.rules asked files (race_verdict asked.budget ended)
    by_end (end.Map who) = as_asked refl
    by_end (end.NoMap who) = as_no no_map_text refl (inl refl) refl
    by_end end.AllSpent = as_spent refl

-- all that `race` promises
pub race_promise : (call : Call) (asked : RequestView) (files : List File) → IsCommand commands.Race call asked files → CameTo race_command call asked files → RacePromise call asked files
race_promise call asked files is came = record {
  as_race = is_as_race call asked files came;
  as_runner = is_as_runner call asked files is;
  legal = has_raced_map call asked files is came;
  no_map = has_no_raced_map call asked files is came;
  never_spent = is_never_all_spent call asked files is came;
  cut = race_cut call asked files is came;
}

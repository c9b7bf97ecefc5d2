-- What `race` promises, in the words of its subject.
use Rattle.std.specs.List.{slice_get}
use Rattle.std.specs.Prelude.{List, Some, ℕ, ◌+◌, ◌≡◌, ◌≤◌}
use Rattle.wfc_choose.specs.Pick.{Rule}
use Rattle.wfc_model.specs.Raster.{Raster}
use Rattle.wfc_outside.specs.Folder.{File}
use Rattle.wfc_problem.specs.Network.{Network}
use Rattle.wfc_race.specs.Racers.{Racer}
use Rattle.wfc_race.specs.declared.RaceEnd.{RaceEnd}
use Rattle.wfc_race.specs.declared.RaceEnd.TheVariants as end
use Rattle.wfc_reply.specs.Asking.{Promises}
use Rattle.wfc_reply.specs.Call.{Call}
use Rattle.wfc_reply.specs.Choosers.{kinds_of}
use Rattle.wfc_reply.specs.CutClaims.{CutsText}
use Rattle.wfc_reply.specs.Reply.{HasAnswer, Takes}
use Rattle.wfc_reply.specs.RunEnds.{end_of}
use Rattle.wfc_run_commands.specs.RaceGiven.{IsRaceTask}
use Rattle.wfc_run_commands.specs.Racing.{race_end, race_status, race_text, retractions_in, runners_of}
use Rattle.wfc_runs.specs.Words.{words_of_seed}
use Rattle.wfc_search.specs.Run.{State, outcome_of}
use Rattle.wfc_search.specs.Volume.{volume_of}
use Rattle.wfc_search.specs.declared.Outcome.{Outcome}
use Rattle.wfc_search.specs.declared.Outcome.TheVariants as outcome
use Rattle.wfc_task.specs.Maps.{IsLegal}
use Rattle.wfc_words.specs.RequestView.{RequestView}
use Rattle.wfc_words.specs.declared.kinds.CommandKind.TheVariants as commands

-- what `race` works on over these files: for each seed a chooser goes by the rule, the problem is that of the request, and
-- the race isn't too large
pub record RaceWork (rules : List Rule) (asked : RequestView) (files : List File) : Type 0 where
  pub P : Network
  pub task : IsRaceTask (kinds_of rules) asked files P

-- the map is one that the request asks for
abbrev pub IsRacedMap : {rules : List Rule} {files : List File} (asked : RequestView)
    → RaceWork rules asked files → Raster → Type 0
IsRacedMap {files = files} asked work m = IsLegal asked files work.P work.task.posed m

-- statuses 0, 1 and 2 of `race`: its race by the schedule in rounds ends in this order in a map, in no map, or with all
-- budgets spent, and what is written is the line of the runner that the end names, or nothing
abbrev pub IsAsRace : Call → RequestView → List File → Type 0
IsAsRace call asked files =
    HasAnswer call.status
    → (work : RaceWork call.rules asked files) × (ended : RaceEnd × List Racer)
    × (race_end call.rules asked work.P ≡ Some ended)
    × (call.status ≡ race_status ended.0) × Takes (race_text asked ended) call.before.out call.after.out

-- the run of the runner in this place, with its own seed, ends so, after so many retractions; it is the run of `fill` with
-- that seed
pub record IsOwnRun (rules : List Rule) (asked : RequestView) (P : Network) (who : ℕ) (o : Outcome) (retractions : ℕ) : Type 0 where
  pub rule : Rule
  pub there : slice_get (runners_of rules asked) who ≡ Some rule
  pub state : State
  pub ends : outcome_of P rule asked.budget (words_of_seed (asked.seed + who)) ≡ Some (o, state)
  pub same : state.retractions ≡ retractions
  pub as_fill : end_of rules asked.rule P asked.budget (asked.seed + who) ≡ Some (o, state)

-- the run of the runner that an end names ends as the race does
abbrev pub NamesRun : List Rule → RequestView → Network → RaceEnd × List Racer → Type 0
NamesRun rules asked P (end.Map who, now) = IsOwnRun rules asked P who outcome.Map (retractions_in (slice_get now who))
NamesRun rules asked P (end.NoMap who, now) = IsOwnRun rules asked P who outcome.NoMap (retractions_in (slice_get now who))
NamesRun rules asked P (end.AllSpent, now) = Unit {0}

-- so it is, whatever the race of this work ends in
abbrev pub IsAsRunner : Call → RequestView → List File → Type 0
IsAsRunner call asked files =
    (work : RaceWork call.rules asked files) (ended : RaceEnd × List Racer)
    → race_end call.rules asked work.P ≡ Some ended → NamesRun call.rules asked work.P ended

-- status 0 of `race`: some map is legal
abbrev pub HasRacedMap : Call → RequestView → List File → Type 0
HasRacedMap call asked files =
    call.status ≡ 0 → (work : RaceWork call.rules asked files) × (m : Raster) × IsRacedMap asked work m

-- status 1 of `race`: no map is legal
abbrev pub HasNoRacedMap : Call → RequestView → List File → Type 0
HasNoRacedMap call asked files =
    call.status ≡ 1 → (work : RaceWork call.rules asked files) × ((m : Raster) → IsRacedMap asked work m → ⊥)

-- with status 2 of `race` the budget is below the volume of the problem
abbrev pub IsNeverAllSpent : Call → RequestView → List File → Type 0
IsNeverAllSpent call asked files =
    call.status ≡ 2 → (work : RaceWork call.rules asked files) × (asked.budget + 1 ≤ volume_of work.P)

-- the text is the line of the race asked for
abbrev pub IsRaceText : List Rule → RequestView → List File → List ℕ → Type 0
IsRaceText rules asked files text =
    (work : RaceWork rules asked files) × (ended : RaceEnd × List Racer)
    × (race_end rules asked work.P ≡ Some ended) × (race_text asked ended ≡ Some text)

-- what a call promises of a request for `race`
pub record RacePromise (call : Call) (asked : RequestView) (files : List File) : Type 0 where
  pub as_race : IsAsRace call asked files
  pub as_runner : IsAsRunner call asked files
  pub legal : HasRacedMap call asked files
  pub no_map : HasNoRacedMap call asked files
  pub never_spent : IsNeverAllSpent call asked files
  pub cut : CutsText (IsRaceText call.rules) call asked files

-- this, of each request over told files
abbrev pub RacePromises : Call → Type 0
RacePromises call = Promises commands.Race RacePromise call

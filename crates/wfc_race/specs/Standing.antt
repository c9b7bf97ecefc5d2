-- How a race stands before and after a call, told how its stores, words and choosers are seen.
use Rattle.std.specs.Prelude.{◌≡◌, ℕ, Option}
use Rattle.rand_core.specs.Stream.{Stream}
use Rattle.wfc_choose.specs.Told.{Told}
use Rattle.wfc_domains.specs.Store.{StoreView}
use Rattle.wfc_search.specs.Shown.{search_seen}
use Rattle.wfc_search.specs.declared.search.Search.{Search}
use Rattle.wfc_race.specs.declared.RaceEnd.{RaceEnd}
use Rattle.wfc_race.specs.declared.race.Race.{Race}
use Rattle.wfc_race.specs.declared.runner.Runner.{Runner}
use Rattle.wfc_race.specs.Race.{IsTrueRaceEnd}
use Rattle.wfc_race.specs.Racers.{next_racer}
use Rattle.wfc_race.specs.Seen.{Comes, EndsInRounds, IsSearchIn, MakesTurn, lap_in, problem_of}
use Rattle.wfc_race.specs.Seen.{racer_of, racers_of, runner_seen, seens, stint_in}

-- a runner made one turn of its run
abbrev pub MovesOn
    : {S R D : Type 0} {V : D → Type 0} → (S → StoreView) → (R → Stream) → ((v : D) × V v → Told)
    → Runner S R D V → Runner S R D V → Type 0
MovesOn view stream told old new =
    racer_of (runner_seen view stream told new)
    ≡ next_racer old.search.problem.now (racer_of (runner_seen view stream told old))

-- this runner of the race made one turn of its run, and the state of each other run is as it was
abbrev pub TakesTurn
    : {S R D : Type 0} {V : D → Type 0} → (S → StoreView) → (R → Stream) → ((v : D) × V v → Told)
    → Race S R D V → ℕ → Race S R D V → Type 0
TakesTurn view stream told old who new =
    MakesTurn who (seens view stream told old) (seens view stream told new)

-- the problem is the same
abbrev pub KeepsProblem
    : {S R D : Type 0} {V : D → Type 0} → (S → StoreView) → (R → Stream) → ((v : D) × V v → Told)
    → Race S R D V → Race S R D V → Type 0
KeepsProblem view stream told old new =
    problem_of (seens view stream told new) ≡ problem_of (seens view stream told old)

-- what the end says is true of the race
abbrev pub EndsTruly
    : {S R D : Type 0} {V : D → Type 0} → (S → StoreView) → (R → Stream) → ((v : D) × V v → Told)
    → Race S R D V → RaceEnd → Type 0
EndsTruly view stream told race end =
    IsTrueRaceEnd (problem_of (seens view stream told race))
    (racers_of (seens view stream told race)) end

-- by the turns of this runner in a round the race comes to this end, if it is one
abbrev pub ComesByStint
    : {S R D : Type 0} {V : D → Type 0} → (S → StoreView) → (R → Stream) → ((v : D) × V v → Told)
    → Race S R D V → ℕ → ℕ → Option RaceEnd → Race S R D V → Type 0
ComesByStint view stream told old quantum who answer new =
    Comes (seens view stream told old) (stint_in (seens view stream told old) quantum who) answer
    (seens view stream told new)

-- so by one round
abbrev pub ComesByLap
    : {S R D : Type 0} {V : D → Type 0} → (S → StoreView) → (R → Stream) → ((v : D) × V v → Told)
    → Race S R D V → ℕ → Option RaceEnd → Race S R D V → Type 0
ComesByLap view stream told old quantum answer new =
    Comes (seens view stream told old) (lap_in (seens view stream told old) quantum) answer
    (seens view stream told new)

-- in rounds it ends so, and its runners stand where these rounds leave them
abbrev pub EndsByRounds
    : {S R D : Type 0} {V : D → Type 0} → (S → StoreView) → (R → Stream) → ((v : D) × V v → Told)
    → Race S R D V → ℕ → RaceEnd → Race S R D V → Type 0
EndsByRounds view stream told old quantum end new =
    EndsInRounds (seens view stream told old) quantum end (seens view stream told new)

-- the search is that of this runner
abbrev pub HasSearch
    : {S R D : Type 0} {V : D → Type 0} → (S → StoreView) → (R → Stream) → ((v : D) × V v → Told)
    → Race S R D V → ℕ → Search S D V → Type 0
HasSearch view stream told race who search =
    IsSearchIn who (seens view stream told race) (search_seen view told search)

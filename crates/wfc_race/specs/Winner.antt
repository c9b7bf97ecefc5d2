-- Who wins a race in rounds, told from the run of each runner alone.
use Rattle.std.specs.Prelude.{◌≡◌, ℕ, ◌-◌, ◌/◌, ◌<◌, ◌≤◌, ◌⊎◌, List, All, Some}
use Rattle.std.specs.List.{slice_get}
use Rattle.wfc_problem.specs.Network.{Network}
use Rattle.wfc_search.specs.Run.{State, end_from}
use Rattle.wfc_search.specs.declared.Outcome.{Outcome}
use Rattle.wfc_search.specs.declared.Outcome.TheVariants as outcome
use Rattle.wfc_race.specs.declared.RaceEnd.{RaceEnd}
use Rattle.wfc_race.specs.declared.RaceEnd.TheVariants.{Map, NoMap, AllSpent}
use Rattle.wfc_race.specs.Racers.{Racer, state_of}
use Rattle.wfc_race.specs.Rounds.{turns_left}

-- the run of a runner alone, from where it stands, ends so
abbrev pub EndsAlone : Network → Racer → Outcome → Type 0
EndsAlone P r outcome =
    (s : State) × (end_from P r.rule r.budget (state_of r 0) ≡ Some (outcome, s))

-- it ends in a map or in no map
abbrev pub IsDecisive : Network → Racer → Type 0
IsDecisive P r = EndsAlone P r outcome.Map ⊎ EndsAlone P r outcome.NoMap

-- the round in which it ends, counted from 0: its turns less one, divided by the turns of a round
abbrev pub last_round : Network → ℕ → Racer → ℕ
last_round P quantum r = (turns_left P r - 1) / quantum

-- one round and number come before others, or are those: the round is earlier, or it is the same
-- and the number is no greater
abbrev pub IsNoLater : ℕ → ℕ → ℕ → ℕ → Type 0
IsNoLater round who other_round other =
    (round < other_round) ⊎ ((round ≡ other_round) × (who ≤ other))

-- the run of this runner alone ends so, and none that ends in a map or in no map comes before it
pub record IsWinner (P : Network) (racers : List Racer) (quantum who : ℕ) (o : Outcome)
    : Type 0 where
  pub racer : Racer
  pub there : slice_get racers who ≡ Some racer
  pub ends : EndsAlone P racer o
  pub first : (i : ℕ) (other : Racer) → slice_get racers i ≡ Some other → IsDecisive P other
      → IsNoLater (last_round P quantum racer) who (last_round P quantum other) i

-- so the race is won, or the budget of each run alone is spent
abbrev pub IsWonBy : Network → List Racer → ℕ → RaceEnd → Type 0
IsWonBy P racers quantum (Map who) = IsWinner P racers quantum who outcome.Map
IsWonBy P racers quantum (NoMap who) = IsWinner P racers quantum who outcome.NoMap
IsWonBy P racers quantum AllSpent = All (λ (r : Racer). EndsAlone P r outcome.Spent) racers

-- A race of seeds, and how the code holds its end.
use Rattle.std.specs.List.{slice_get}
use Rattle.std.specs.Prelude.{List, Some, [], ℕ, ⊤, ◌+◌, ◌∷◌, ◌≡◌}
use Rattle.rand_pcg.specs.Lcg.{Lcg}
use Rattle.wfc_choose.specs.Pick.{Rule}
use Rattle.wfc_choose.specs.Told.{Told}
use Rattle.wfc_domains.specs.Store.{StoreView}
use Rattle.wfc_problem.specs.Network.{Network}
use Rattle.wfc_race.specs.Racers.{Racer, new_racer}
use Rattle.wfc_race.specs.Rounds.{round_end_of}
use Rattle.wfc_race.specs.Seen.{racer_of, racers_of, runners_seen, seen}
use Rattle.wfc_race.specs.declared.RaceEnd.{RaceEnd}
use Rattle.wfc_race.specs.declared.RaceEnd.TheVariants as end
use Rattle.wfc_race.specs.declared.runner.Runner.{Runner}
use Rattle.wfc_run_commands.specs.declared.races.Raced.{Raced}
use Rattle.wfc_run_commands.specs.declared.races.Raced.TheVariants as raced
use Rattle.wfc_runs.specs.Words.{generator_words, words_of_seed}

-- one runner for each of these rules, with the words of a seed, of the next one, and so on
abbrev pub entrants : List Rule → ℕ → ℕ → List Racer
entrants [] budget seed = []
entrants (rule ∷ rules) budget seed = new_racer rule budget (words_of_seed seed) ∷ entrants rules budget (seed + 1)

-- a runner of the code as a racer, told what its chooser is
abbrev pub racer_seen : {D : Type 0} {V : D → Type 0} → Told → Runner StoreView Lcg D V → Racer
racer_seen chooser it = racer_of (seen (λ store. store) generator_words chooser it)

-- some runners of the code as racers, told what the chooser of each is
abbrev pub racers_seen : {D : Type 0} {V : D → Type 0} → (Runner StoreView Lcg D V → Told) → List (Runner StoreView Lcg D V) → List Racer
racers_seen chooser runners = racers_of (runners_seen (λ store. store) generator_words chooser runners)

-- the runner in this place of the runners at the end has made so many retractions
abbrev pub IsRacerWith : List Racer → ℕ → ℕ → Type 0
IsRacerWith now who retractions = (r : Racer) × (slice_get now who ≡ Some r) × (r.retractions ≡ retractions)

-- what is answered of an end: who is named, and how many retractions it made
abbrev pub AnswersTo : RaceEnd → List Racer → Raced → Type 0
AnswersTo (end.Map who) now (raced.Map runner retractions) = (runner ≡ who) × IsRacerWith now who retractions
AnswersTo (end.NoMap who) now (raced.NoMap runner retractions) = (runner ≡ who) × IsRacerWith now who retractions
AnswersTo end.AllSpent now raced.AllSpent = ⊤
AnswersTo _ now _ = ⊥

-- in rounds the race of these rules, with the words of a seed and those that follow it, ended so
abbrev pub IsRaced : Network → List Rule → ℕ → ℕ → ℕ → Raced → Type 0
IsRaced P rules budget seed quantum answer =
    (end : RaceEnd) × (now : List Racer)
    × (round_end_of P (entrants rules budget seed) quantum ≡ Some (end, now)) × AnswersTo end now answer

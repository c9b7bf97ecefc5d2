-- Which runners `race` has, how their race ends, and what is answered of it.
use Rattle.std.specs.List.{slice_get}
use Rattle.std.specs.Prelude.{List, None, Option, Some, codes, decimal, true, ℕ, ⊤, ◌++◌, ◌+◌, ◌≤◌}
use Rattle.wfc_choose.specs.Pick.{Rule}
use Rattle.wfc_problem.specs.Network.{Network}
use Rattle.wfc_race.specs.Racers.{Racer}
use Rattle.wfc_race.specs.Rounds.{round_end_of}
use Rattle.wfc_race.specs.declared.RaceEnd.{RaceEnd}
use Rattle.wfc_race.specs.declared.RaceEnd.TheVariants as end
use Rattle.wfc_reply.specs.Choosers.{first_rules}
use Rattle.wfc_reply.specs.Reply.{Answered}
use Rattle.wfc_reply.specs.declared.reply.CommandVerdict.{CommandVerdict}
use Rattle.wfc_reply.specs.declared.reply.CommandVerdict.TheVariants.{Done, NoMap, Spent}
use Rattle.wfc_run_commands.specs.Races.{entrants}
use Rattle.wfc_run_commands.specs.declared.races.Raced.{Raced}
use Rattle.wfc_run_commands.specs.declared.races.Raced.TheVariants as raced
use Rattle.wfc_words.specs.RequestView.{RequestView}

-- the rules of the runners that a request asks for
abbrev pub runners_of : List Rule → RequestView → List Rule
runners_of rules asked = first_rules asked.seeds asked.rule rules

-- how their race ends by the schedule in rounds, and the runners then
abbrev pub race_end : List Rule → RequestView → Network → Option (RaceEnd × List Racer)
race_end rules asked P =
    round_end_of P (entrants (runners_of rules asked) asked.budget asked.seed) asked.quantum

-- how many retractions a runner made; none where there is no runner
abbrev pub retractions_in : Option Racer → ℕ
retractions_in None = 0
retractions_in (Some r) = r.retractions

-- the line of a race: a seed, how many retractions its runner made, and how it ended
abbrev pub race_line : ℕ → ℕ → List ℕ → List ℕ
race_line seed retractions said =
    codes "seed " ++ decimal seed ++ codes " retractions " ++ decimal retractions ++ codes " " ++ said ++ codes "\n"

-- what `race` writes of an end: the line of the runner that it names, or nothing
abbrev pub race_text : RequestView → RaceEnd × List Racer → Option (List ℕ)
race_text asked (end.Map who, now) =
    Some (race_line (asked.seed + who) (retractions_in (slice_get now who)) (codes "map"))
race_text asked (end.NoMap who, now) =
    Some (race_line (asked.seed + who) (retractions_in (slice_get now who)) (codes "no map"))
race_text asked (end.AllSpent, now) = None

-- how `race` ends whose race ends so
abbrev pub race_verdict : ℕ → RaceEnd → CommandVerdict
race_verdict budget (end.Map who) = Done
race_verdict budget (end.NoMap who) = NoMap
race_verdict budget end.AllSpent = Spent budget

-- the status of it
abbrev pub race_status : RaceEnd → ℕ
race_status (end.Map who) = 0
race_status (end.NoMap who) = 1
race_status end.AllSpent = 2

-- the answer of `race`, where its race has this end
abbrev pub race_answer : RequestView → Option (RaceEnd × List Racer) → Option Answered
race_answer asked None = None
race_answer asked (Some ended) =
    Some (record { verdict = race_verdict asked.budget ended.0; text = race_text asked ended; whole = true })

-- the answer to an end as the code holds it
abbrev pub raced_answer : RequestView → Raced → Answered
raced_answer asked (raced.Map runner retractions) =
    record { verdict = Done; text = Some (race_line (asked.seed + runner) retractions (codes "map")); whole = true }
raced_answer asked (raced.NoMap runner retractions) =
    record { verdict = NoMap; text = Some (race_line (asked.seed + runner) retractions (codes "no map")); whole = true }
raced_answer asked raced.AllSpent = record { verdict = Spent asked.budget; text = None; whole = true }

-- the seed of the runner that is named fits 64 bits
abbrev pub IsSeedIn : ℕ → Raced → Type 0
IsSeedIn seed (raced.Map runner retractions) = seed + runner ≤ 18446744073709551615
IsSeedIn seed (raced.NoMap runner retractions) = seed + runner ≤ 18446744073709551615
IsSeedIn seed raced.AllSpent = ⊤

-- what a request has to say, so that its race can be made: one to eight runners, whose seeds fit 64 bits, and their turns
pub record IsRaceAsked (asked : RequestView) : Type 0 where
  pub some : 1 ≤ asked.seeds
  pub few : asked.seeds ≤ 8
  pub fits : asked.seed + asked.seeds ≤ 18446744073709551616
  pub quantum : 1 ≤ asked.quantum

-- The runners of `race`, and what its code says of their race.
use Rattle.std.proofs.Common.{All, List, Some, [], ap, arith, codes, length, refl, subst, suc, sym, true, zero, ℕ, ◌+◌, ◌<◌, ◌∙◌, ◌∷◌, ◌≡◌, ◌≤◌}
use Rattle.std.proofs.lemmas.List.Elements.{All-cons, All-nil}
use Rattle.std.specs.List.{slice_get}
use Rattle.std.specs.Prelude.{Err, IfOk, Ok, Result}
use Rattle.wfc_choose.specs.Pick.{Rule}
use Rattle.wfc_outside.specs.declared.NoMemory.{NoMemory}
use Rattle.wfc_problem.specs.Network.{Network}
use Rattle.wfc_race.proofs.CallerLemmas.{entered_of_run, within}
use Rattle.wfc_race.specs.Handed.{IsHandedIn}
use Rattle.wfc_race.specs.Race.{race_of}
use Rattle.wfc_race.specs.Racers.{Racer, after_from, new_racer}
use Rattle.wfc_race.specs.Rounds.{rounds_of}
use Rattle.wfc_race.specs.declared.RaceEnd.{RaceEnd}
use Rattle.wfc_race.specs.declared.RaceEnd.TheVariants as end
use Rattle.wfc_reply.specs.Reply.{Answered}
use Rattle.wfc_reply.specs.ReplyView.{answer_view}
use Rattle.wfc_reply.specs.declared.reply.Answer.{Answer}
use Rattle.wfc_reply.specs.declared.reply.CommandVerdict.TheVariants.{Done, NoMap}
use Rattle.wfc_run_commands.proofs.MakingLemmas.{length-entrants}
use Rattle.wfc_run_commands.specs.Races.{AnswersTo, IsRaced, entrants}
use Rattle.wfc_run_commands.specs.Racing.{IsRaceAsked, IsSeedIn, race_answer, race_end, race_line, raced_answer, retractions_in, runners_of}
use Rattle.wfc_run_commands.specs.declared.races.Raced.{Raced}
use Rattle.wfc_run_commands.specs.declared.races.Raced.TheVariants as raced
use Rattle.wfc_runs.specs.Words.{words_of_seed}
use Rattle.wfc_words.specs.Commands.{requires_word}
use Rattle.wfc_words.specs.InRange.{IsInRange}
use Rattle.wfc_words.specs.RequestView.{RequestView}
use Rattle.wfc_words.specs.declared.kinds.CommandKind.TheVariants as commands

-- a request in its ranges asks for a race
pub runners_asked : (asked : RequestView) → IsInRange asked → asked.command ≡ commands.Race → IsRaceAsked asked
runners_asked asked within is = record {
  some = within.race.some_seeds (ap (λ c. requires_word c (codes "seeds")) is);
  few = within.race.eight_seeds;
  fits = within.race.seeds_fit;
  quantum = within.race.some_quantum;
}

-- ---- what the code says

-- a place in a list that has an element is one of it
pub inside : {X : Type 0} (xs : List X) (i : ℕ) (x : X) → slice_get xs i ≡ Some x → i < length xs
inside [] i x there = absurd (cc (there))
inside (y ∷ ys) zero x there = omega arith
inside (y ∷ ys) (suc i) x there = omega (arith, inside ys i x there)

length_after : (first : ℕ) (P : Network) (schedule : List ℕ) (racers : List Racer) → length (after_from first P schedule racers) ≡ length racers
length_after first P schedule [] = refl
length_after first P schedule (r ∷ racers) = omega (arith, length_after (first + 1) P schedule racers)

-- at its end a race has the runners that it began with
pub as_many : (P : Network) (racers now : List Racer) (schedule : List ℕ) (ended : RaceEnd) → race_of P racers schedule ≡ Some (ended, now) → length now ≡ length racers
as_many P racers now schedule ended is =
    let w = within P racers schedule ended now is in ap (λ (rs : List Racer). length rs) w.now_is ∙ length_after 0 P w.front racers

-- the seed of the runner that is named fits
pub seed_in : (P : Network) (rules : List Rule) (budget seed quantum : ℕ) (it : Raced) → IsRaced P rules budget seed quantum it → seed + length rules ≤ 18446744073709551616 → IsSeedIn seed it
seed_in P rules budget seed quantum it is fits = by_end is.0 it is.3
  where
    racers : List Racer
    racers = entrants rules budget seed

    many : length is.1 ≡ length rules
    many = as_many P (entrants rules budget seed) is.1 (rounds_of P (entrants rules budget seed) quantum) is.0 is.2 ∙ length-entrants rules budget seed

    below : (who runner : ℕ) (r : Racer) → runner ≡ who → slice_get is.1 who ≡ Some r → seed + runner ≤ 18446744073709551615
    below who runner r same there = omega (arith, same, inside is.1 who r there, many, fits)

    by_end : (ended : RaceEnd) (it : Raced) → AnswersTo ended is.1 it → IsSeedIn seed it
    by_end (end.Map who) (raced.Map runner retractions) told = below who runner told.1.0 told.0 told.1.1
    by_end (end.NoMap who) (raced.NoMap runner retractions) told = below who runner told.1.0 told.0 told.1.1
    by_end end.AllSpent raced.AllSpent told = tt
    by_end (end.Map who) (raced.NoMap runner retractions) told = absurd told
    by_end (end.Map who) raced.AllSpent told = absurd told
    by_end (end.NoMap who) (raced.Map runner retractions) told = absurd told
    by_end (end.NoMap who) raced.AllSpent told = absurd told
    by_end end.AllSpent (raced.Map runner retractions) told = absurd told
    by_end end.AllSpent (raced.NoMap runner retractions) told = absurd told

-- what is said of an end is its answer
pub raced_said : (rules runners : List Rule) (P : Network) (asked : RequestView) (it : Raced) (answered : Answered) → runners ≡ runners_of rules asked
    → IsRaced P runners asked.budget asked.seed asked.quantum it → answered ≡ raced_answer asked it → race_answer asked (race_end rules asked P) ≡ Some answered
raced_said rules runners P asked it answered same was said =
    let is = subst (λ (rs : List Rule). IsRaced P rs asked.budget asked.seed asked.quantum it) same was in
    ap (race_answer asked) is.2 ∙ by_end is.1 is.0 it is.3 ∙ ap Some (sym said)
  where
    by_end : (now : List Racer) (ended : RaceEnd) (it : Raced) → AnswersTo ended now it → race_answer asked (Some (ended, now)) ≡ Some (raced_answer asked it)
    by_end now (end.Map who) (raced.Map runner retractions) told =
        let made = ap retractions_in told.1.1 ∙ told.1.2 in
        λ i. Some (record { verdict = Done; text = Some (race_line (asked.seed + sym told.0 i) (made i) (codes "map")); whole = true })
    by_end now (end.NoMap who) (raced.NoMap runner retractions) told =
        let made = ap retractions_in told.1.1 ∙ told.1.2 in
        λ i. Some (record { verdict = NoMap; text = Some (race_line (asked.seed + sym told.0 i) (made i) (codes "no map")); whole = true })
    by_end now end.AllSpent raced.AllSpent told = refl
    by_end now (end.Map who) (raced.NoMap runner retractions) told = absurd told
    by_end now (end.Map who) raced.AllSpent told = absurd told
    by_end now (end.NoMap who) (raced.Map runner retractions) told = absurd told
    by_end now (end.NoMap who) raced.AllSpent told = absurd told
    by_end now end.AllSpent (raced.Map runner retractions) told = absurd told
    by_end now end.AllSpent (raced.NoMap runner retractions) told = absurd told

-- so of what is answered, if memory was enough
pub answers_said : (rules runners : List Rule) (P : Network) (asked : RequestView) (it : Raced) (result : Result Answer NoMemory) → runners ≡ runners_of rules asked
    → IsRaced P runners asked.budget asked.seed asked.quantum it → IfOk result (λ answer. answer_view answer ≡ raced_answer asked it)
    → IfOk result (λ answer. race_answer asked (race_end rules asked P) ≡ Some (answer_view answer))
answers_said rules runners P asked it (Err cause) same was said = tt
answers_said rules runners P asked it (Ok answer) same was said = raced_said rules runners P asked it (answer_view answer) same was said

-- ---- the runners before their first turn

pub handed : (P : Network) (rules : List Rule) (budget seed : ℕ) → All (IsHandedIn P) (entrants rules budget seed)
handed P [] budget seed = All-nil (IsHandedIn P)
handed P (rule ∷ rules) budget seed =
    All-cons (IsHandedIn P) (new_racer rule budget (words_of_seed seed)) (entrants rules budget (seed + 1)) (record { free = refl; of_run = entered_of_run P rule budget (words_of_seed seed) }) (handed P rules budget (seed + 1))

-- each has its own seed
pub entrant_at : (rules : List Rule) (budget seed who : ℕ) → who < length rules
    → (rule : Rule) × ((slice_get rules who ≡ Some rule) × (slice_get (entrants rules budget seed) who ≡ Some (new_racer rule budget (words_of_seed (seed + who)))))
entrant_at [] budget seed who low = absurd (omega (arith, low))
entrant_at (rule ∷ rules) budget seed zero low =
    let at : seed ≡ seed + 0 = omega arith in (rule, (refl, ap (λ n. Some (new_racer rule budget (words_of_seed n))) at))
entrant_at (rule ∷ rules) budget seed (suc who) low =
    let later = entrant_at rules budget (seed + 1) who (omega (arith, low)) in
    let at : seed + 1 + who ≡ seed + suc who = omega arith in
    (later.0, (later.1.0, later.1.1 ∙ ap (λ n. Some (new_racer later.0 budget (words_of_seed n))) at))

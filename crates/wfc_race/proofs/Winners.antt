-- Who wins a race in rounds.
use Rattle.std.proofs.Common.{◌≡◌, ◌≢◌, ℕ, ◌+◌, ◌-◌, ◌/◌, ◌<◌, ◌≤◌, Bool, true, false, List, [], ◌∷◌, ◌++◌, length, All, Option, None, Some, refl, sym, ◌∙◌, ap, subst, arith, inl, inr, append_assoc}
use Rattle.std.specs.Prelude.{sum, slice_index}
use Rattle.std.specs.List.{slice_get}
use Rattle.std.specs.Option.{option_map, unwrap_or}
use Rattle.std.proofs.lemmas.Bool.{cases_eq, cases_lt}
use Rattle.std.proofs.lemmas.Option.{slice_get-get_or, unwrap_or-slice_get}
use Rattle.std.proofs.Math.ListN.{get_or}
use Rattle.wfc_problem.specs.Network.{Network, IsProblem}
use Rattle.wfc_search.specs.Run.{State}
use Rattle.wfc_search.specs.declared.Outcome.{Outcome}
use Rattle.wfc_search.specs.declared.Outcome.TheVariants as outcome
use Rattle.wfc_race.specs.declared.RaceEnd.{RaceEnd}
use Rattle.wfc_race.specs.declared.RaceEnd.TheVariants.{Map, NoMap, AllSpent}
use Rattle.wfc_race.specs.Handed.{IsHandedIn}
use Rattle.wfc_race.specs.Race.{IsRaceEnd, IsOfRun, IsRacing, IsUndecided, all_spent, race_end_by, end_with, outcome_in, race_of}
use Rattle.wfc_race.specs.Racers.{Racer, moved_on, occurrences, after}
use Rattle.wfc_race.specs.Rounds.{turns_left, rounds_of, round_end_of}
use Rattle.wfc_race.specs.Winner.{EndsAlone, IsDecisive, IsNoLater, IsWinner, IsWonBy, last_round}
use Rattle.wfc_race.proofs.Afters.{after_place, both_lists, other_number}
use Rattle.wfc_race.proofs.Agree.{left_before}
use Rattle.wfc_race.proofs.Ends.{run_end}
use Rattle.wfc_race.proofs.Laps.{lefts, left_place}
use Rattle.wfc_race.proofs.Lefts.{left_more, left_on, on_of_run}
use Rattle.wfc_race.proofs.Orders.{at_most_sum, count_all, last_turns}
use Rattle.wfc_race.proofs.Races.{all_place, no_turn, none_or_some, racing_after, racing_first, within}
use Rattle.wfc_race.proofs.Stints.{rounds_come}
use Rattle.wfc_race.proofs.Truth.{all_spent_each}

-- ---- runs alone

-- a run alone has one end
one_end_alone : (P : Network) (r : Racer) (o x : Outcome) → EndsAlone P r o → EndsAlone P r x → o ≡ x
one_end_alone P r o x a b =
    let both : ◌≡◌ {A = Option (Outcome × State)} (Some (o, a.0)) (Some (x, b.0)) = sym a.1 ∙ b.1 in
    let pair : ◌≡◌ {A = Outcome × State} (o, a.0) (x, b.0) = cc in
    ap (λ (y : Outcome × State). y.0) pair

-- one that decides isn't spent
pub decisive_unspent : (P : Network) (r : Racer) → IsDecisive P r → EndsAlone P r outcome.Spent → ⊥
decisive_unspent P r (inl map) spent = let e = one_end_alone P r outcome.Map outcome.Spent map spent in cc
decisive_unspent P r (inr none) spent = let e = one_end_alone P r outcome.NoMap outcome.Spent none spent in cc

-- a runner that comes to an end after some turns ends so alone
comes_alone : (n : ℕ) (P : Network) → IsProblem P → (r : Racer) (o : Outcome) → IsHandedIn P r → (moved_on n P r).outcome ≡ Some o → EndsAlone P r o
comes_alone n P p r o handed out = let e = run_end n P p r o 0 handed.of_run handed.free out in (_, e.1)

-- after the turns that it has left, and more, it is at its end
ended_by : (n : ℕ) (P : Network) → IsProblem P → (r : Racer) → IsOfRun P r → turns_left P r ≤ n → (o : Outcome) × ((moved_on n P r).outcome ≡ Some o)
ended_by n P p r b enough = elim (none_or_some (moved_on n P r).outcome) [
  | inl free ↦
      let more = left_more P p (moved_on n P r) (on_of_run n P p r b) free in
      let none = left_on n P p r b in
      absurd (omega (arith, more, none, enough))
  | inr some ↦ some
]

-- so where its run alone decides, and it is undecided, it has turns left
has_turns : (n : ℕ) (P : Network) → IsProblem P → (r : Racer) → IsHandedIn P r → IsDecisive P r → IsUndecided (moved_on n P r) → n < turns_left P r
has_turns n P p r handed decides undecided = elim (cases_lt n (turns_left P r)) [
  | inl less ↦ less
  | inr enough ↦
      let e = ended_by n P p r handed.of_run enough in
      absurd (elim undecided [
        | inl free ↦ (let h = sym free ∙ e.1 in cc)
        | inr spent ↦ decisive_unspent P r decides (comes_alone n P p r outcome.Spent handed spent)
      ])
]

-- ---- the runners of a race

-- the turns that a runner has left, by its place
left_at : (P : Network) (racers : List Racer) (i : ℕ) (r : Racer) → slice_get racers i ≡ Some r → slice_index (lefts P racers) i ≡ turns_left P r
left_at P racers i r there = sym (unwrap_or-slice_get (lefts P racers) i 0) ∙ ap (λ (o : Option ℕ). unwrap_or o 0) (left_place P racers i r there)

-- the runner in a place after a schedule
placed : (P : Network) (racers : List Racer) (s : List ℕ) (i : ℕ) (r : Racer) → slice_get racers i ≡ Some r → slice_get (after P s racers) i ≡ Some (moved_on (occurrences i s) P r)
placed P racers s i r there = after_place i P s racers ∙ ap (option_map (moved_on (occurrences i s) P)) there

-- before its last turn a race has no end
going_none : (P : Network) (racers : List Racer) (front : List ℕ) (end : RaceEnd) → (is : IsRaceEnd P racers front end) → race_of P racers is.before ≡ None
going_none P racers front end is = elim (none_or_some (race_of P racers is.before)) [
  | inl none ↦ none
  | inr some ↦
      let w = within P racers is.before some.0.0 some.0.1 some.1 in
      let whole : is.before ≡ w.is.before ++ w.is.last ∷ w.later =
      w.whole ∙ ap (λ (t : List ℕ). t ++ w.later) w.is.whole ∙ append_assoc w.is.before (w.is.last ∷ []) w.later in
      let none = is.going w.is.before w.later w.is.last whole in
      let ends = subst (λ (t : List ℕ). race_end_by w.is.last (after P t racers) ≡ Some some.0.0) w.is.whole w.is.ends in
      absurd (let e = sym none ∙ ends in cc)
]

-- what is known of a race in rounds that has ended
record IsOver (P : Network) (racers : List Racer) (quantum : ℕ) (end : RaceEnd) : Type 0 where
  pub front : List ℕ
  pub later : List ℕ
  pub whole : rounds_of P racers quantum ≡ front ++ later
  pub is : IsRaceEnd P racers front end
  pub racing : IsRacing racers
  pub many : (i : ℕ) (r : Racer) → slice_get racers i ≡ Some r → occurrences i front + occurrences i later ≡ turns_left P r

-- the turns of a runner in rounds are those that it has left
turns_in : (P : Network) (racers : List Racer) (quantum : ℕ) (front later : List ℕ) → 1 ≤ quantum → rounds_of P racers quantum ≡ front ++ later → (i : ℕ) (r : Racer) → slice_get racers i ≡ Some r
    → occurrences i front + occurrences i later ≡ turns_left P r
turns_in P racers quantum front later some whole i r there =
    sym (both_lists i front later)
    ∙ ap (λ (t : List ℕ). occurrences i t) (sym whole)
    ∙ count_all (sum (lefts P racers)) quantum (lefts P racers) i some (at_most_sum (lefts P racers) i)
    ∙ left_at P racers i r there

-- runners that are handed in have not ended their race
racing_handed : (P : Network) (racers : List Racer) → All (IsHandedIn P) racers → 0 < length racers → IsRacing racers
racing_handed P racers handed some = racing_first racers some (λ k d l. (handed k d l).free)

over_some : (P : Network) (racers : List Racer) (quantum : ℕ) (end : RaceEnd) (now : List Racer) → All (IsHandedIn P) racers → 0 < length racers → 1 ≤ quantum → round_end_of P racers quantum ≡ Some (end, now)
    → IsOver P racers quantum end
over_some P racers quantum end now handed any some is =
    let w = within P racers (rounds_of P racers quantum) end now is in
    record {
      front = w.front;
      later = w.later;
      whole = w.whole;
      is = w.is;
      racing = racing_handed P racers handed any;
      many = turns_in P racers quantum w.front w.later some w.whole;
    }

-- without runners a race has no end
over : (P : Network) (racers : List Racer) (quantum : ℕ) (end : RaceEnd) (now : List Racer) → All (IsHandedIn P) racers → 1 ≤ quantum → round_end_of P racers quantum ≡ Some (end, now)
    → IsOver P racers quantum end
over P [] quantum end now handed some is = absurd (let e = sym (no_turn P []) ∙ is in cc)
over P (r ∷ racers) quantum end now handed some is = over_some P (r ∷ racers) quantum end now handed (omega arith) some is

-- ---- the winner

-- a runner that decides has turns left where the race ends by another
turns_behind : (P : Network) → IsProblem P → (racers : List Racer) (quantum : ℕ) (end : RaceEnd) → All (IsHandedIn P) racers → (v : IsOver P racers quantum end)
    → (i : ℕ) (q : Racer) → slice_get racers i ≡ Some q → i ≢ v.is.last → IsDecisive P q → 1 ≤ occurrences i v.later
turns_behind P p racers quantum end handed v i q there other decides =
    let going = racing_after P racers v.is.before v.racing (going_none P racers v.front end v.is) in
    let undecided = all_place IsUndecided (after P v.is.before racers) i (moved_on (occurrences i v.is.before) P q) going.undecided (placed P racers v.is.before i q there) in
    let more = has_turns (occurrences i v.is.before) P p q (all_place (IsHandedIn P) racers i q handed there) decides undecided in
    let front = ap (λ (t : List ℕ). occurrences i t) v.is.whole ∙ both_lists i v.is.before (v.is.last ∷ []) in
    let none = other_number i v.is.last [] (λ e. other (sym e)) in
    let all = v.many i q there in
    omega (arith, more, front, none, all)

-- so the runner whose turn ends the race is the first to decide
is_first : (P : Network) → IsProblem P → (racers : List Racer) (quantum : ℕ) (end : RaceEnd) → All (IsHandedIn P) racers → 1 ≤ quantum → (v : IsOver P racers quantum end)
    → (r : Racer) → slice_get racers v.is.last ≡ Some r → turns_left P r ≤ occurrences v.is.last v.front
    → (i : ℕ) (q : Racer) → slice_get racers i ≡ Some q → IsDecisive P q → IsNoLater (last_round P quantum r) v.is.last (last_round P quantum q) i
is_first P p racers quantum end handed some v r here enough i q there decides = elim (cases_eq i v.is.last) [
  | inl same ↦
      let one : q ≡ r = (let e = sym there ∙ ap (slice_get racers) same ∙ here in cc) in
      inr (ap (last_round P quantum) (sym one), omega (arith, same))
  | inr other ↦
      let left : List ℕ = lefts P racers in
      let more = turns_behind P p racers quantum end handed v i q there other decides in
      let all = v.many v.is.last r here in
      let whole : rounds_of P racers quantum ≡ v.is.before ++ v.is.last ∷ v.later =
      v.whole ∙ ap (λ (t : List ℕ). t ++ v.later) v.is.whole ∙ append_assoc v.is.before (v.is.last ∷ []) v.later in
      let order = last_turns (sum left) quantum left v.is.before v.is.last v.later i some
      (count_all (sum left) quantum left v.is.last some (at_most_sum left v.is.last)) whole (omega (arith, all, enough)) more in
      subst (λ n. IsNoLater (last_round P quantum r) v.is.last ((n - 1) / quantum) i) (left_at P racers i q there)
      (subst (λ n. IsNoLater ((n - 1) / quantum) v.is.last ((slice_index left i - 1) / quantum) i) (left_at P racers v.is.last r here) order)
]

-- it wins by its own end
wins : (P : Network) → IsProblem P → (racers : List Racer) (quantum : ℕ) (end : RaceEnd) → All (IsHandedIn P) racers → 1 ≤ quantum → (v : IsOver P racers quantum end)
    → (r : Racer) → slice_get racers v.is.last ≡ Some r → (o : Outcome) → (moved_on (occurrences v.is.last v.front) P r).outcome ≡ Some o → IsWinner P racers quantum v.is.last o
wins P p racers quantum end handed some v r here o out =
    let h = all_place (IsHandedIn P) racers v.is.last r handed here in
    record {
      racer = r;
      there = here;
      ends = comes_alone (occurrences v.is.last v.front) P p r o h out;
      first = is_first P p racers quantum end handed some v r here (elim (cases_lt (occurrences v.is.last v.front) (turns_left P r)) [
        | inl less ↦ absurd (let e = sym (left_before P p r (occurrences v.is.last v.front) h.of_run less) ∙ out in cc)
        | inr enough ↦ enough
      ]);
    }

-- where all are spent each is spent alone
each_spent : (P : Network) → IsProblem P → (racers : List Racer) (front : List ℕ) → All (IsHandedIn P) racers → all_spent (after P front racers) ≡ true → All (λ (r : Racer). EndsAlone P r outcome.Spent) racers
each_spent P p racers front handed spent k d l =
    let r : Racer = get_or racers k d in
    let there = slice_get-get_or racers k d l in
    let out = all_place (λ (x : Racer). x.outcome ≡ Some outcome.Spent) (after P front racers) k (moved_on (occurrences k front) P r) (all_spent_each (after P front racers) spent) (placed P racers front k r there) in
    comes_alone (occurrences k front) P p r outcome.Spent (handed k d l) out

-- the end by the outcome of the runner that made the last turn
won_by : (P : Network) → IsProblem P → (racers : List Racer) (quantum : ℕ) (end : RaceEnd) → All (IsHandedIn P) racers → 1 ≤ quantum → (v : IsOver P racers quantum end)
    → (r : Racer) → slice_get racers v.is.last ≡ Some r → (o : Option Outcome) (all : Bool) → (moved_on (occurrences v.is.last v.front) P r).outcome ≡ o → all_spent (after P v.front racers) ≡ all
    → end_with v.is.last o all ≡ Some end → IsWonBy P racers quantum end
won_by P p racers quantum end handed some v r here None all out spent is = absurd (let e = is in cc)
won_by P p racers quantum end handed some v r here (Some outcome.Map) all out spent is =
    let same : Map v.is.last ≡ end = (let e = is in cc) in
    subst (λ (e : RaceEnd). IsWonBy P racers quantum e) same (wins P p racers quantum end handed some v r here outcome.Map out)
won_by P p racers quantum end handed some v r here (Some outcome.NoMap) all out spent is =
    let same : NoMap v.is.last ≡ end = (let e = is in cc) in
    subst (λ (e : RaceEnd). IsWonBy P racers quantum e) same (wins P p racers quantum end handed some v r here outcome.NoMap out)
won_by P p racers quantum end handed some v r here (Some outcome.Spent) true out spent is =
    let same : AllSpent ≡ end = (let e = is in cc) in
    subst (λ (e : RaceEnd). IsWonBy P racers quantum e) same (each_spent P p racers v.front handed spent)
won_by P p racers quantum end handed some v r here (Some outcome.Spent) false out spent is = absurd (let e = is in cc)

-- a race in rounds is won by the first to decide
pub rounds_won : (P : Network) → IsProblem P → (racers : List Racer) (quantum : ℕ) → All (IsHandedIn P) racers → 1 ≤ quantum → (end : RaceEnd) (now : List Racer)
    → round_end_of P racers quantum ≡ Some (end, now) → IsWonBy P racers quantum end
rounds_won P p racers quantum handed some end now is =
    let v = over P racers quantum end now handed some is in
    elim (none_or_some (slice_get racers v.is.last)) [
      | inl gone ↦
          let none : slice_get (after P v.front racers) v.is.last ≡ None =
          after_place v.is.last P v.front racers ∙ ap (option_map (moved_on (occurrences v.is.last v.front) P)) gone in
          absurd (let e = sym v.is.ends ∙ ap (λ (o : Option Racer). end_with v.is.last (outcome_in o) (all_spent (after P v.front racers))) none in cc)
      | inr here ↦
          won_by P p racers quantum end handed some v here.0 here.1 _ _ refl refl
          (ap (λ (o : Option Racer). end_with v.is.last (outcome_in o) (all_spent (after P v.front racers))) (sym (placed P racers v.front v.is.last here.0 here.1)) ∙ v.is.ends)
    ]

-- ---- one winner

-- each of two winners is no later than the other
same_winner : (P : Network) (racers : List Racer) (quantum i j : ℕ) (o x : Outcome) → (a : IsWinner P racers quantum i o) → (b : IsWinner P racers quantum j x) → IsDecisive P a.racer → IsDecisive P b.racer → i ≡ j
same_winner P racers quantum i j o x a b da db = antisymmetric (last_round P quantum a.racer) (last_round P quantum b.racer) (a.first j b.racer b.there db) (b.first i a.racer a.there da)
  where
    antisymmetric : (r q : ℕ) → IsNoLater r i q j → IsNoLater q j r i → i ≡ j
    antisymmetric r q (inl less) (inl more) = absurd (omega (arith, less, more))
    antisymmetric r q (inl less) (inr same) = (let e = same.0 in absurd (omega (arith, less, e)))
    antisymmetric r q (inr same) (inl less) = (let e = same.0 in absurd (omega (arith, less, e)))
    antisymmetric r q (inr same) (inr other) = (let a = same.1 in let b = other.1 in omega (arith, a, b))

-- and ends alone in one way
same_outcome : (P : Network) (racers : List Racer) (quantum i : ℕ) (o x : Outcome) → (a : IsWinner P racers quantum i o) → (b : IsWinner P racers quantum i x) → o ≡ x
same_outcome P racers quantum i o x a b =
    let one : b.racer ≡ a.racer = (let e = sym b.there ∙ a.there in cc) in
    one_end_alone P a.racer o x a.ends (subst (λ (r : Racer). EndsAlone P r x) one b.ends)

-- where all are spent alone none wins
none_wins : (P : Network) (racers : List Racer) (quantum i : ℕ) (o : Outcome) → (a : IsWinner P racers quantum i o) → IsDecisive P a.racer → All (λ (r : Racer). EndsAlone P r outcome.Spent) racers → ⊥
none_wins P racers quantum i o a decides spent = decisive_unspent P a.racer decides (all_place (λ (r : Racer). EndsAlone P r outcome.Spent) racers i a.racer spent a.there)

-- so a race is won in one way
pub one_winner : (P : Network) (racers : List Racer) (quantum : ℕ) (end other : RaceEnd) → IsWonBy P racers quantum end → IsWonBy P racers quantum other → end ≡ other
one_winner P racers quantum (Map i) (Map j) a b = ap Map (same_winner P racers quantum i j outcome.Map outcome.Map a b (inl a.ends) (inl b.ends))
one_winner P racers quantum (NoMap i) (NoMap j) a b = ap NoMap (same_winner P racers quantum i j outcome.NoMap outcome.NoMap a b (inr a.ends) (inr b.ends))
one_winner P racers quantum (Map i) (NoMap j) a b =
    let same = same_winner P racers quantum i j outcome.Map outcome.NoMap a b (inl a.ends) (inr b.ends) in
    absurd (let e = same_outcome P racers quantum j outcome.Map outcome.NoMap (subst (λ k. IsWinner P racers quantum k outcome.Map) same a) b in cc)
one_winner P racers quantum (NoMap i) (Map j) a b =
    let same = same_winner P racers quantum i j outcome.NoMap outcome.Map a b (inr a.ends) (inl b.ends) in
    absurd (let e = same_outcome P racers quantum j outcome.NoMap outcome.Map (subst (λ k. IsWinner P racers quantum k outcome.NoMap) same a) b in cc)
one_winner P racers quantum AllSpent AllSpent a b = refl
one_winner P racers quantum (Map i) AllSpent a b = absurd (none_wins P racers quantum i outcome.Map a (inl a.ends) b)
one_winner P racers quantum (NoMap i) AllSpent a b = absurd (none_wins P racers quantum i outcome.NoMap a (inr a.ends) b)
one_winner P racers quantum AllSpent (Map j) a b = absurd (none_wins P racers quantum j outcome.Map b (inl b.ends) a)
one_winner P racers quantum AllSpent (NoMap j) a b = absurd (none_wins P racers quantum j outcome.NoMap b (inr b.ends) a)

-- and who wins is who the rounds name
pub winner_named : (P : Network) → IsProblem P → (racers : List Racer) (quantum : ℕ) → All (IsHandedIn P) racers → 0 < length racers → 1 ≤ quantum → (end : RaceEnd)
    → IsWonBy P racers quantum end → (now : List Racer) × (round_end_of P racers quantum ≡ Some (end, now))
winner_named P p racers quantum handed any some end won =
    let e = rounds_come P p racers quantum (λ k d l. (handed k d l).of_run) (racing_handed P racers handed any) some in
    let same = one_winner P racers quantum e.0 end (rounds_won P p racers quantum handed some e.0 e.1 e.2) won in
    (e.1, e.2 ∙ ap (λ (x : RaceEnd). Some (x, e.1)) same)

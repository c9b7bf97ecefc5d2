use Rattle.std.proofs.Common.{◌≡◌, ℕ, zero, suc, [], ◌∷◌, Some, refl, sym, ◌∙◌, ap, subst, inl, inr, lit<, lit≤, arith}
use Rattle.std.specs.List.{slice_get}
use Rattle.std.proofs.lemmas.List.Elements.{All-cons, All-nil}
use Rattle.rand_core.specs.Stream.{next_u64}
use Rattle.wfc_choose.specs.Draw.{drawn_value}
use Rattle.wfc_choose.specs.Pick.{picked_cell}
use Rattle.wfc_problem.specs.Rounds.{greatest}
use Rattle.wfc_search.specs.Run.{end_from, end_within, turn_of}
use Rattle.wfc_search.specs.Small.{pair, ring, twos}
use Rattle.wfc_search.specs.declared.Outcome.TheVariants as outcome
use Rattle.wfc_race.specs.Racers.{Racer}
use Rattle.wfc_race.specs.Rounds.{turns_within}
use Rattle.wfc_race.specs.Small.{ahead, fresh}
use Rattle.wfc_race.specs.Winner.{EndsAlone, IsDecisive, IsNoLater, last_round}
use Rattle.wfc_race.proofs.Winners.{decisive_unspent}
use Rattle.wfc_race.proofs.examples.winners.Goals as goal

-- the runs alone
none_ahead : EndsAlone ring (ahead 1) outcome.NoMap
unfolding pair ring twos greatest picked_cell drawn_value next_u64 turn_of end_from end_within
none_ahead = (_, refl)

none_fresh : EndsAlone ring (fresh 1) outcome.NoMap
unfolding pair ring twos greatest picked_cell drawn_value next_u64 turn_of end_from end_within
none_fresh = (_, refl)

spent_fresh : EndsAlone ring (fresh 0) outcome.Spent
unfolding pair ring twos greatest picked_cell drawn_value next_u64 turn_of end_from end_within
spent_fresh = (_, refl)

spent_ahead : EndsAlone ring (ahead 0) outcome.Spent
unfolding pair ring twos greatest picked_cell drawn_value next_u64 turn_of end_from end_within
spent_ahead = (_, refl)

-- their rounds
rounds_one : (last_round ring 1 (fresh 1) ≡ 2) × (last_round ring 1 (ahead 1) ≡ 1)
unfolding pair ring twos greatest picked_cell drawn_value next_u64 turn_of turns_within
rounds_one = (refl, refl)

rounds_three : (last_round ring 3 (fresh 1) ≡ 0) × (last_round ring 3 (ahead 1) ≡ 0)
unfolding pair ring twos greatest picked_cell drawn_value next_u64 turn_of turns_within
rounds_three = (refl, refl)

pub returns-clause-by_one : goal.returns-clause-by_one
returns-clause-by_one c = record { racer = ahead 1; there = refl; ends = none_ahead; first = first }
  where
    first : (i : ℕ) (other : Racer) → slice_get (fresh 1 ∷ ahead 1 ∷ []) i ≡ Some other → IsDecisive ring other → IsNoLater (last_round ring 1 (ahead 1)) 1 (last_round ring 1 other) i
    first zero other there decides =
        let same : fresh 1 ≡ other = (let e = there in cc) in
        let round = ap (last_round ring 1) (sym same) ∙ rounds_one.0 in
        let own = rounds_one.1 in
        inl (omega (arith, round, own))
    first (suc zero) other there decides =
        let same : ahead 1 ≡ other = (let e = there in cc) in
        inr (ap (last_round ring 1) same, lit≤ tt)
    first (suc (suc i)) other there decides = absurd (let e = there in cc)

pub returns-clause-not_first : goal.returns-clause-not_first
returns-clause-not_first c won =
    let same : fresh 1 ≡ won.racer = (let e = won.there in cc) in
    let round = ap (last_round ring 1) (sym same) ∙ rounds_one.0 in
    let own = rounds_one.1 in
    elim (won.first 1 (ahead 1) refl (inr none_ahead)) [
      | inl less ↦ omega (arith, less, round, own)
      | inr both ↦ (let e = both.0 in omega (arith, e, round, own))
    ]

pub returns-clause-by_three : goal.returns-clause-by_three
returns-clause-by_three c = record { racer = fresh 1; there = refl; ends = none_fresh; first = first }
  where
    first : (i : ℕ) (other : Racer) → slice_get (fresh 1 ∷ ahead 1 ∷ []) i ≡ Some other → IsDecisive ring other → IsNoLater (last_round ring 3 (fresh 1)) 0 (last_round ring 3 other) i
    first zero other there decides =
        let same : fresh 1 ≡ other = (let e = there in cc) in
        inr (ap (last_round ring 3) same, lit≤ tt)
    first (suc zero) other there decides =
        let same : ahead 1 ≡ other = (let e = there in cc) in
        inr (rounds_three.0 ∙ sym rounds_three.1 ∙ ap (last_round ring 3) same, lit≤ tt)
    first (suc (suc i)) other there decides = absurd (let e = there in cc)

pub returns-clause-spent : goal.returns-clause-spent
returns-clause-spent c = record { racer = fresh 1; there = refl; ends = none_fresh; first = first }
  where
    first : (i : ℕ) (other : Racer) → slice_get (fresh 0 ∷ fresh 1 ∷ []) i ≡ Some other → IsDecisive ring other → IsNoLater (last_round ring 1 (fresh 1)) 1 (last_round ring 1 other) i
    first zero other there decides =
        let same : fresh 0 ≡ other = (let e = there in cc) in
        absurd (decisive_unspent ring other decides (subst (λ (r : Racer). EndsAlone ring r outcome.Spent) same spent_fresh))
    first (suc zero) other there decides =
        let same : fresh 1 ≡ other = (let e = there in cc) in
        inr (ap (last_round ring 1) same, lit≤ tt)
    first (suc (suc i)) other there decides = absurd (let e = there in cc)

pub returns-clause-not_spent : goal.returns-clause-not_spent
returns-clause-not_spent c spent = decisive_unspent ring (fresh 1) (inr none_fresh) (spent 1 (fresh 1) (lit< tt))

pub returns-clause-all_spent : goal.returns-clause-all_spent
returns-clause-all_spent c =
    let Q : Racer → Type 0 = λ r. EndsAlone ring r outcome.Spent in
    All-cons Q (fresh 0) (ahead 0 ∷ []) spent_fresh (All-cons Q (ahead 0) [] spent_ahead (All-nil Q))

use Rattle.std.proofs.Common.{refl, inl, inr, lit<, lit≤, arith}
use Rattle.rand_core.specs.Stream.{next_u64}
use Rattle.wfc_choose.specs.Draw.{drawn_value}
use Rattle.wfc_choose.specs.Pick.{picked_cell}
use Rattle.wfc_problem.specs.Rounds.{greatest}
use Rattle.wfc_search.specs.Run.{turn_of}
use Rattle.wfc_search.specs.Small.{pair, ring, twos}
use Rattle.wfc_race.specs.Rounds.{turns_within}
use Rattle.wfc_race.specs.Winner.{IsNoLater}
use Rattle.wfc_race.proofs.examples.last_rounds.Goals as goal

pub returns-clause-by_one : goal.returns-clause-by_one
unfolding pair ring twos greatest picked_cell drawn_value next_u64 turn_of turns_within
returns-clause-by_one c = refl

pub returns-clause-by_two : goal.returns-clause-by_two
unfolding pair ring twos greatest picked_cell drawn_value next_u64 turn_of turns_within
returns-clause-by_two c = refl

pub returns-clause-by_three : goal.returns-clause-by_three
unfolding pair ring twos greatest picked_cell drawn_value next_u64 turn_of turns_within
returns-clause-by_three c = refl

pub returns-clause-earlier : goal.returns-clause-earlier
returns-clause-earlier c = (inl (lit< tt), inr (refl, lit≤ tt), inr (refl, lit≤ tt))

pub returns-clause-later : goal.returns-clause-later
returns-clause-later c = (first, second)
  where
    first : IsNoLater 2 0 1 5 → ⊥
    first (inl less) = omega (arith, less)
    first (inr same) = (let e = same.0 in omega (arith, e))

    second : IsNoLater 1 3 1 2 → ⊥
    second (inl less) = omega (arith, less)
    second (inr same) = (let e = same.1 in omega (arith, e))

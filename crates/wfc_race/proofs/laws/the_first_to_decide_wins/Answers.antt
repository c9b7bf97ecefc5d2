use Rattle.wfc_race.proofs.Winners.{one_winner, rounds_won, winner_named}
use Rattle.wfc_race.proofs.laws.the_first_to_decide_wins.Goals as goal

pub returns : goal.returns
returns c = record {
  won = λ P racers quantum handed some end ended. rounds_won P handed.problem racers quantum handed.each some end ended.0 ended.1;
  one = one_winner;
  named = λ P racers quantum handed some end won. winner_named P handed.problem racers quantum handed.each handed.some some end won;
}

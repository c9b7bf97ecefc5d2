use Rattle.std.proofs.Common.{[], arith, lit<, refl}
use Rattle.rand_core.specs.Stream.{next_u64}
use Rattle.wfc_choose.specs.Draw.{drawn_value}
use Rattle.wfc_choose.specs.Pick.{picked_cell}
use Rattle.wfc_problem.specs.Rounds.{greatest}
use Rattle.wfc_search.specs.Run.{turn_of, end_within, end_from}
use Rattle.wfc_blocks.proofs.examples.grown_boards.Goals as goal

pub returns-clause-map : goal.returns-clause-map
unfolding greatest picked_cell drawn_value next_u64 turn_of end_within end_from
returns-clause-map c = refl

pub returns-clause-stuck : goal.returns-clause-stuck
unfolding greatest picked_cell drawn_value next_u64 turn_of end_within end_from
returns-clause-stuck c = refl

pub returns-clause-not_below : goal.returns-clause-not_below
returns-clause-not_below c below = omega (arith, below 0 [] (lit< tt) 1 0 (lit< tt))

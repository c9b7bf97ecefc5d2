use Rattle.std.proofs.Common.{refl}
use Rattle.rand_core.specs.Stream.{next_u64}
use Rattle.wfc_choose.specs.Draw.{drawn_value}
use Rattle.wfc_choose.specs.Pick.{picked_cell}
use Rattle.wfc_problem.specs.Rounds.{greatest}
use Rattle.wfc_search.specs.Run.{turn_of, end_within, end_from}
use Rattle.wfc_search.specs.Small.{pair, ring, twos}
use Rattle.wfc_search.proofs.examples.small_runs.Goals as goal

pub returns : goal.returns
unfolding pair ring twos greatest picked_cell drawn_value next_u64 turn_of end_within end_from
returns c = record { pair = refl; spent = refl; none = refl; volumes = refl; turns = refl }

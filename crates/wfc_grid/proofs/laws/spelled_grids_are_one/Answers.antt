use Rattle.wfc_grid.proofs.GridLemmas.{one_grid}
use Rattle.wfc_grid.proofs.laws.spelled_grids_are_one.Goals as goal

pub returns : goal.returns
returns c = record { one = one_grid }

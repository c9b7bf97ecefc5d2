use Rattle.wfc_grid.proofs.GridLemmas.{written_grid}
use Rattle.wfc_grid.proofs.laws.written_grids_are_spelled.Goals as goal

pub returns : goal.returns
returns c = record { spelled = written_grid }

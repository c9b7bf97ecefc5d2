use Rattle.wfc_grid.proofs.GridLemmas.{grid_read, read_grid}
use Rattle.wfc_grid.proofs.laws.spelled_grids_are_read.Goals as goal

pub returns : goal.returns
returns c = record { read = λ text grid. (read_grid text grid, λ spelled. grid_read text grid spelled.0 spelled.1) }

use Rattle.wfc_tiled.proofs.TileLemmas.{tiles_problem}
use Rattle.wfc_tiled.proofs.laws.tile_sets_make_problems.Goals as goal

pub returns : goal.returns
returns c = record { problem = λ s. tiles_problem s.set s.mask s.wrap s.pins }

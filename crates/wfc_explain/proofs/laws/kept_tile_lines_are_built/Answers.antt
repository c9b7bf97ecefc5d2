use Rattle.wfc_explain.proofs.ProblemLemmas.{tiles_as_many, tiles_kept}
use Rattle.wfc_explain.proofs.laws.kept_tile_lines_are_built.Goals as goal

pub returns : goal.returns
returns c = record { as_many = tiles_as_many; built = tiles_kept }

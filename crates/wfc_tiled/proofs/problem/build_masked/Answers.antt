use Rattle.std.proofs.Common.{sym, subst}
use Rattle.wfc_problem.specs.Network.{IsProblem}
use Rattle.wfc_tiled.proofs.TileLemmas.{tiles_problem}
use Rattle.wfc_tiled.proofs.problem.build_masked.Goals as goal

pub from_known-requires : goal.from_known-requires
from_known-requires c =
    let given = c.in_ok-marks.ensures in
    record { problem = subst IsProblem (sym c.in_ok-parts.ensures.value) (tiles_problem c.args.tiles.now c.args.mask.now c.args.wrap c.deref.result.now given.tile_set given.mask given.few_pairs) }

use Rattle.wfc_task.proofs.TilingLemmas.{tiled_result}
use Rattle.wfc_task.proofs.tile_steps.posed_tiles.Goals as goal
use Rattle.wfc_task.specs.Tiling.{mask_or_whole}

pub returns-clause-tiled : goal.returns-clause-tiled
returns-clause-tiled c =
    let asked = c.args.request.now in
    tiled_result asked c.args.tiles.now (mask_or_whole asked c.args.mask.now) c.args.lines.now c.in_ok-masked_problem.field-0 c.requires.sides c.in_ok-masked_problem.ensures.exact

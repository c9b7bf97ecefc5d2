use Rattle.wfc_explain.proofs.ProblemLemmas.{tiles_as_many}
use Rattle.wfc_run_commands.proofs.ExplainGivenLemmas.{given_pins}
use Rattle.wfc_run_commands.proofs.explaining.tile_pins.Goals as goal
use Rattle.wfc_task.specs.Tiling.{mask_or_whole}

pub returns-clause-each_line : goal.returns-clause-each_line
returns-clause-each_line c =
    tiles_as_many c.args.tiles.now (mask_or_whole c.args.request.now c.args.mask.now) c.args.request.now.wrap_out c.args.lines.now c.in_ok-masked_pins.field-0 (given_pins _ c.in_ok-masked_pins.field-0 c.in_ok-masked_pins.ensures.exact)

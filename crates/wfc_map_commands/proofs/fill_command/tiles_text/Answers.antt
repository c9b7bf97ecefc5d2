use Rattle.wfc_map_commands.proofs.FillLemmas.{tiles_written}
use Rattle.wfc_map_commands.proofs.fill_command.tiles_text.Goals as goal

pub tile_bytes-requires : goal.tile_bytes-requires
tile_bytes-requires c = record {
  written = tiles_written c.args.request.now c.args.filling.now c.kind.result c.args.assignment.now c.in_ok-map.map c.requires.output c.requires.filling c.cells.ensures.problem
      c.kind.ensures.value c.kind.ensures.complete c.requires.legal c.in_ok-map.ensures.map;
}

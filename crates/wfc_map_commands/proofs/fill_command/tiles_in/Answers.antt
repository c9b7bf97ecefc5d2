use Rattle.std.proofs.Common.{None, Option, ap, length, sym, ◌*◌, ◌∙◌, ◌≡◌}
use Rattle.wfc_map_commands.proofs.FillLemmas.{each_plain_tile, each_tile}
use Rattle.wfc_map_commands.proofs.fill_command.tiles_in.Goals as goal
use Rattle.wfc_task.specs.Tiling.{mask_or_whole}
use Rattle.wfc_tiled.specs.Mask.{MaskView}
use Rattle.wfc_words.specs.RequestView.{RequestView}

pub tiles_of-requires-clause-each_cell : goal.tiles_of-requires-clause-each_cell
tiles_of-requires-clause-each_cell c =
    let asked = c.args.request.now in
    let task = c.args.filling.now in
    let tiled = c.requires.filling.tiled in
    let many = each_tile task.tiles (mask_or_whole asked task.mask) asked.wrap_out tiled.pins task.problem c.args.assignment.now tiled.problem c.requires.legal in
    let none : task.mask ≡ None = c.in-None.is in
    let plain = each_plain_tile asked c.args.assignment.now (many ∙ ap (λ (m : Option MaskView). length (mask_or_whole asked m).places) none) in
    plain ∙ sym (ap (λ (r : RequestView). r.width * r.height) c.request.view_is)

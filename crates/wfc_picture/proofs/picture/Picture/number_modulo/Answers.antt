use Rattle.std.proofs.Common.{◌+◌, ◌*◌, ◌%◌, get_or, ap, ◌∙◌}
use Rattle.wfc_picture.proofs.PictureLemmas.{number_wrapped}
use Rattle.wfc_picture.proofs.picture.Picture.number_modulo.Goals as goal

pub returns : goal.returns
returns c =
    let read = c.index.ensures
    ∙ ap (λ row. get_or c.self.inside.cells.items (row * c.self.inside.width + c.modulo-column.result) c.index.result.now) c.modulo-row.ensures.value
    ∙ ap (λ column. get_or c.self.inside.cells.items (c.args.y % c.self.inside.height * c.self.inside.width + column) c.index.result.now) c.modulo-column.ensures.value
    in record { value = number_wrapped c.self.inside.width c.self.inside.height c.self.inside.cells.items _ c.self.view_is c.self.invariant c.args.x c.args.y _ read }

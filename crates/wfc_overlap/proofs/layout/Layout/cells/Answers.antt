use Rattle.std.proofs.Common.{◌*◌, sym, ap, ◌∙◌}
use Rattle.wfc_model.specs.Window.{starts}
use Rattle.wfc_model.proofs.CallerLemmas.{length-places}
use Rattle.wfc_overlap.proofs.layout.Layout.cells.Goals as goal

pub returns-clause-value : goal.returns-clause-value
returns-clause-value c =
    let l = c.args.self.now in
    ap (λ rows. rows * l.columns) l.rows_are ∙ ap (λ columns. starts l.height l.n l.wrap * columns) l.columns_are ∙ sym (length-places l.width l.height l.n l.wrap)

use Rattle.std.proofs.Common.{◌+◌, ◌%◌, arith}
use Rattle.wfc_model.specs.Raster.{height_of, number_at}
use Rattle.wfc_model.proofs.CallerLemmas.{some_side, next_row, next_column, square_more, square_all}
use Rattle.wfc_picture.proofs.picture.Picture.window_into.Goals as goal
use Rattle.wfc_picture.proofs.picture.Picture.window_into.Goals.{then-column-side, else-column-side}

pub loop-cell-preserved : goal.loop-cell-preserved
loop-cell-preserved c =
    let n = c.args.n in
    let m = c.args.self.now in
    let inside = c.loop-cell.invariant.inside (some_side n _ _ c.requires.room c.loop-cell-test.true) in
    record {
      place = elim c.if-column-side.branch [
        | then-column-side w ↦ next_row n _ c.loop-cell.column c.loop-cell.row _ _ c.loop-cell.invariant.place (omega arith) (omega arith) (omega arith)
        | else-column-side w ↦ next_column n _ c.loop-cell.column c.loop-cell.row _ _ c.loop-cell.invariant.place (omega arith) (omega arith)
      ];
      inside = elim c.if-column-side.branch [ then-column-side w ↦ omega arith | else-column-side w ↦ omega arith ];
      written =
          square_more n (λ i j. number_at m ((c.args.x + i) % m.width) ((c.args.y + j) % height_of m)) _ _ _ _ _ c.loop-cell.invariant.place inside (omega arith) c.number_modulo.ensures.value c.loop-cell.invariant.written;
    }

pub returns : goal.returns
returns c =
    let m = c.args.self.now in
    record { exact = square_all c.args.n (λ i j. number_at m ((c.args.x + i) % m.width) ((c.args.y + j) % height_of m)) _ _ (omega arith) (omega arith) c.loop-cell.invariant.written }

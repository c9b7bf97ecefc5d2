use Rattle.std.proofs.Common.{◌-◌, refl, arith}
use Rattle.wfc_model.specs.Image.{cell_at}
use Rattle.wfc_model.proofs.CallerLemmas.{some_side, row_below, place_below, square_more, square_all, next_row, next_column}
use Rattle.wfc_symmetry.proofs.reflect_into.Goals as goal
use Rattle.wfc_symmetry.proofs.reflect_into.Goals.{then-x-side, else-x-side}

pub loop-cell-preserved : goal.loop-cell-preserved
loop-cell-preserved c =
    let n = c.args.n in
    let column = c.loop-cell.invariant.column (some_side n _ _ c.requires.room c.loop-cell-test.true) in
    record {
      place = elim c.if-x-side.branch [ then-x-side w ↦ next_row n _ c.loop-cell.x c.loop-cell.y _ _ c.loop-cell.invariant.place (omega arith) (omega arith) (omega arith) | else-x-side w ↦ next_column n _ c.loop-cell.x c.loop-cell.y _ _ c.loop-cell.invariant.place (omega arith) (omega arith) ];
      column = elim c.if-x-side.branch [ then-x-side w ↦ omega arith | else-x-side w ↦ omega arith ];
      written = square_more n (λ x y. cell_at n c.args.window.now (n - 1 - x) y) _ _ _ _ _ c.loop-cell.invariant.place column (omega arith) refl c.loop-cell.invariant.written;
    }

pub returns : goal.returns
returns c =
    let n = c.args.n in
    record { exact = square_all n (λ x y. cell_at n c.args.window.now (n - 1 - x) y) _ _ (omega arith) (omega arith) c.loop-cell.invariant.written }

pub bounds-window-y : goal.bounds-window-y
bounds-window-y c =
    let n = c.args.n in
    let column = c.loop-cell.invariant.column (some_side n _ _ c.requires.room c.loop-cell-test.true) in
    let row = row_below n _ _ _ _ c.requires.room c.loop-cell-test.true c.loop-cell.invariant.place column in
    place_below n _ (n - 1 - c.loop-cell.x) c.loop-cell.y c.requires.square (omega arith) row

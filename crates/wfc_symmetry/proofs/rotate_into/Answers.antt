use Rattle.std.proofs.Common.{◌-◌, refl, arith}
use Rattle.wfc_model.specs.Image.{cell_at}
use Rattle.wfc_model.proofs.CallerLemmas.{some_side, square_more, square_all, next_row, next_column}
use Rattle.wfc_symmetry.proofs.rotate_into.Goals as goal
use Rattle.wfc_symmetry.proofs.rotate_into.Goals.{then-x-side, else-x-side}

pub loop-cell-preserved : goal.loop-cell-preserved
loop-cell-preserved c =
    let n = c.args.n in
    let column = c.loop-cell.invariant.column (some_side n _ _ c.requires.room c.loop-cell-test.true) in
    record {
      place = elim c.if-x-side.branch [ then-x-side w ↦ next_row n _ c.loop-cell.x c.loop-cell.y _ _ c.loop-cell.invariant.place (omega arith) (omega arith) (omega arith) | else-x-side w ↦ next_column n _ c.loop-cell.x c.loop-cell.y _ _ c.loop-cell.invariant.place (omega arith) (omega arith) ];
      column = elim c.if-x-side.branch [ then-x-side w ↦ omega arith | else-x-side w ↦ omega arith ];
      written = square_more n (λ x y. cell_at n c.args.window.now (n - 1 - y) x) _ _ _ _ _ c.loop-cell.invariant.place column (omega arith) refl c.loop-cell.invariant.written;
    }

pub returns : goal.returns
returns c =
    let n = c.args.n in
    record { exact = square_all n (λ x y. cell_at n c.args.window.now (n - 1 - y) x) _ _ (omega arith) (omega arith) c.loop-cell.invariant.written }

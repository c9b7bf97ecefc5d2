use Rattle.std.proofs.Common.{◌++◌, ◌+◌, ◌*◌, ◌≤◌, List, ℕ, map, sym, ap, arith, ◌∙◌}
use Rattle.std.proofs.Math.Nat.{mul-le-mul_right}
use Rattle.std.specs.List.{flat_map, range_with_len}
use Rattle.wfc_overlap.specs.Layout.{output_of}
use Rattle.wfc_overlap.specs.Sample.{window_beside}
use Rattle.wfc_lists.proofs.Growing.{rows_more}
use Rattle.wfc_overlap.proofs.neighbours.neighbours.Goals as goal

pub push_row-requires : goal.push_row-requires
push_row-requires c =
    let l = c.args.layout in
    let left : (c.loop-y.y + 1) * l.columns ≤ l.rows * l.columns = mul-le-mul_right l.columns (omega arith) in
    record { y_in = omega arith; room = omega (arith, left, c.loop-y.invariant.length, c.loop-y.invariant.room) }

pub loop-y-preserved : goal.loop-y-preserved
loop-y-preserved c =
    let l = c.args.layout in
    let F : ℕ × ℕ → List ℕ = λ place. map (λ d. window_beside l.n (output_of l) place d) (range_with_len 0 4) in
    let G : ℕ → List (ℕ × ℕ) = λ y. map (λ x. (x, y)) (range_with_len 0 l.columns) in
    record {
      items = c.push_row.ensures.row ∙ ap (λ t. t ++ flat_map F (G c.loop-y.y)) c.loop-y.invariant.items ∙ sym (rows_more F G c.loop-y.y);
      length = omega (arith, c.push_row.ensures.length, c.loop-y.invariant.length);
      room = omega (arith, c.push_row.ensures.capacity, c.loop-y.invariant.room);
    }

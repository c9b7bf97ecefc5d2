use Rattle.std.proofs.Common.{◌++◌, List, ℕ, map, sym, ap, arith, ◌∙◌, append_assoc}
use Rattle.std.specs.List.{flat_map, range_with_len}
use Rattle.wfc_overlap.specs.Layout.{output_of}
use Rattle.wfc_overlap.specs.Sample.{window_beside}
use Rattle.wfc_lists.proofs.Growing.{row_more}
use Rattle.wfc_overlap.proofs.neighbours.push_row.Goals as goal

pub loop-x-preserved : goal.loop-x-preserved
loop-x-preserved c =
    let l = c.args.layout in
    let F : ℕ × ℕ → List ℕ = λ place. map (λ d. window_beside l.n (output_of l) place d) (range_with_len 0 4) in
    let g : ℕ → ℕ × ℕ = λ x. (x, c.args.y) in
    let x = c.loop-x.x in
    record {
      items = c.push_place.ensures.place
          ∙ ap (λ t. t ++ F (g x)) c.loop-x.invariant.items
          ∙ append_assoc c.args.table.now.items (flat_map F (map g (range_with_len 0 x))) (F (g x))
          ∙ ap (λ t. c.args.table.now.items ++ t) (sym (row_more F g x));
      length = omega (arith, c.push_place.ensures.length, c.loop-x.invariant.length);
      capacity = omega (arith, c.push_place.ensures.capacity, c.loop-x.invariant.capacity);
    }

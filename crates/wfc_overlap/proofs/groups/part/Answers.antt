use Rattle.std.proofs.Common.{◌+◌, ◌-◌, ◌*◌, ◌≤◌, ◌++◌, length, List, ℕ, map, sym, ap, ◌∙◌, arith, refl}
use Rattle.std.specs.List.{range_with_len}
use Rattle.wfc_model.specs.Image.{cell_at}
use Rattle.wfc_lists.proofs.Ranges.{lists_more}
use Rattle.wfc_overlap.proofs.SideLemmas.{inside_part, part_row}
use Rattle.wfc_overlap.proofs.groups.part.Goals as goal

pub loop-row-preserved : goal.loop-row-preserved
loop-row-preserved c =
    let n = c.args.n in
    let w = c.args.window.now in
    let F : ℕ → List ℕ = λ j. map (λ i. cell_at n w (c.args.left + i) (c.args.top + j)) (range_with_len 0 c.args.columns) in
    let row = c.loop-row.row in
    let start = (c.args.top + row) * n + c.args.left in
    let inside : start + c.args.columns ≤ length w = omega (arith, inside_part n c.args.left c.args.top c.args.columns c.args.rows row c.requires.columns_in c.requires.rows_in c.loop-row-test.true, c.requires.square) in
    c.in_ok-extend_from_slice.ensures.items
    ∙ ap (λ r. c.loop-row.numbers.items ++ r) (part_row n w c.args.left c.args.top c.args.columns row start (start + c.args.columns - start) refl (omega arith) inside)
    ∙ ap (λ front. front ++ F row) c.loop-row.invariant
    ∙ sym (lists_more F row)

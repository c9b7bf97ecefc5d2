use Rattle.std.proofs.Common.{◌++◌, sym, ap, ◌∙◌}
use Rattle.wfc_lists.proofs.Ranges.{lists_more}
use Rattle.wfc_box.specs.BoxProblem.{all_beside_in_box}
use Rattle.wfc_box.proofs.neighbours.neighbours.Goals as goal

pub loop-cell-preserved : goal.loop-cell-preserved
loop-cell-preserved c =
    c.in_ok-push_cell.ensures.cell
    ∙ ap (λ t. t ++ all_beside_in_box c.args.frame c.loop-cell.cell) c.loop-cell.invariant
    ∙ sym (lists_more (all_beside_in_box c.args.frame) c.loop-cell.cell)

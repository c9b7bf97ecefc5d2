use Rattle.std.proofs.Common.{ℕ, ◌++◌, List, sym, ap, ◌∙◌}
use Rattle.wfc_model.specs.Legal.{Pin, kept_pin}
use Rattle.wfc_lists.proofs.Ranges.{lists_more}
use Rattle.wfc_blocks.specs.Canvas.{made_in_row}
use Rattle.wfc_blocks.specs.CanvasView.{canvas_of}
use Rattle.wfc_blocks.proofs.pins.set_marks.Goals as goal

pub loop-row-preserved : goal.loop-row-preserved
loop-row-preserved c =
    let F : ℕ → List Pin = λ j. made_in_row kept_pin (canvas_of c.args.canvas.now) c.args.block j in
    c.in_ok-push_row.ensures.row ∙ ap (λ pins. pins ++ F c.loop-row.row) c.loop-row.invariant ∙ sym (lists_more F c.loop-row.row)

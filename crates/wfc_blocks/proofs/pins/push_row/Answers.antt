use Rattle.std.proofs.Common.{ℕ, ◌+◌, ◌++◌, List, Option, ap, ◌∙◌}
use Rattle.wfc_model.specs.Legal.{Pin, kept_pin}
use Rattle.wfc_lists.proofs.Ranges.{lists_behind}
use Rattle.wfc_blocks.specs.Canvas.{made_if_set}
use Rattle.wfc_blocks.specs.CanvasView.{canvas_of}
use Rattle.wfc_blocks.proofs.pins.push_row.Goals as goal

pub loop-column-preserved : goal.loop-column-preserved
loop-column-preserved c =
    let block = c.args.block in
    let i = c.loop-column.column in
    let F : ℕ → List Pin = λ i. made_if_set kept_pin i c.args.row (canvas_of c.args.canvas.now (block.x + i) (block.y + c.args.row)) in
    lists_behind F i c.args.found.now.items c.loop-column.found.items c.push_if_set.new.found.items c.loop-column.invariant
    (c.in_ok-push_if_set.ensures.pushed ∙ ap (λ (o : Option ℕ). c.loop-column.found.items ++ made_if_set kept_pin i c.args.row o) c.get-number.ensures.value)

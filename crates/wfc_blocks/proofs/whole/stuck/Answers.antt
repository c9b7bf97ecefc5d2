use Rattle.std.proofs.Common.{ℕ, List, map, ap, ◌∙◌}
use Rattle.wfc_pins.specs.PinView.{PinView}
use Rattle.wfc_blocks.specs.Canvas.{lines_of_block}
use Rattle.wfc_blocks.specs.CanvasView.{canvas_of}
use Rattle.wfc_blocks.specs.StuckView.{StuckView}
use Rattle.wfc_blocks.proofs.whole.stuck.Goals as goal

pub returns : goal.returns
returns c = record {
  value = ap (λ (pins : List PinView). let v : StuckView = record { block = c.args.block; pins = pins } in v)
      (c.in_ok-block_lines.ensures.value
      ∙ ap (λ (texts : List (List ℕ)). lines_of_block texts c.args.pins.now (canvas_of c.args.canvas.now) c.args.block)
      (ap (map (λ text. text.items)) c.deref.ensures.value ∙ c.in_ok-texts.ensures.value));
}

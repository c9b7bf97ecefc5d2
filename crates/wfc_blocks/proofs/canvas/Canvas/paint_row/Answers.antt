use Rattle.std.proofs.Common.{◌+◌, ap, ◌∙◌}
use Rattle.wfc_blocks.specs.Canvas.{Canvas}
use Rattle.wfc_blocks.specs.CanvasView.{canvas_with, part_of_row, canvas_of, with_pixel}
use Rattle.wfc_blocks.proofs.PaintLemmas.{row_step}
use Rattle.wfc_blocks.proofs.canvas.Canvas.paint_row.Goals as goal

pub loop-i-preserved : goal.loop-i-preserved
loop-i-preserved c =
    let block = c.args.block in
    record {
      set = c.put.ensures.put
          ∙ ap (λ (canvas : Canvas). with_pixel canvas (block.x + c.loop-i.i) (block.y + c.args.j) c.at.result) c.loop-i.invariant.set
          ∙ ap (λ number. with_pixel (canvas_with (canvas_of c.args.self.now) block c.args.picture.now (part_of_row block c.args.j c.loop-i.i)) (block.x + c.loop-i.i) (block.y + c.args.j) number) c.at.ensures.value
          ∙ row_step (canvas_of c.args.self.now) block c.args.picture.now c.args.j c.loop-i.i;
      alike = record {
        width = c.put.ensures.alike.width ∙ c.loop-i.invariant.alike.width;
        height = c.put.ensures.alike.height ∙ c.loop-i.invariant.alike.height;
      };
    }

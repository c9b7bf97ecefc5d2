use Rattle.std.proofs.Common.{◌≡◌, ap, ◌∙◌, arith}
use Rattle.wfc_blocks.specs.Canvas.{Canvas}
use Rattle.wfc_blocks.specs.CanvasView.{canvas_with, part_of_row, rows_of_block, canvas_of}
use Rattle.wfc_blocks.proofs.PaintLemmas.{rows_step}
use Rattle.wfc_blocks.proofs.canvas.Canvas.paint.Goals as goal

pub loop-j-preserved : goal.loop-j-preserved
loop-j-preserved c =
    let block = c.args.block in
    let m = c.args.picture.now in
    record {
      set = c.paint_row.ensures.painted
          ∙ ap (λ (canvas : Canvas). canvas_with canvas block m (part_of_row block c.loop-j.j block.width)) c.loop-j.invariant.set
          ∙ rows_step (canvas_of c.args.self.now) block m c.loop-j.j;
      alike = record {
        width = c.paint_row.ensures.alike.width ∙ c.loop-j.invariant.alike.width;
        height = c.paint_row.ensures.alike.height ∙ c.loop-j.invariant.alike.height;
      };
    }

pub returns-clause-painted : goal.returns-clause-painted
returns-clause-painted c =
    let all : c.loop-j.j ≡ c.args.block.height = omega (arith, c.loop-j-test.false, c.loop-j.auto.j-end) in
    c.loop-j.invariant.set ∙ ap (λ j. canvas_with (canvas_of c.args.self.now) c.args.block c.args.picture.now (rows_of_block c.args.block j)) all

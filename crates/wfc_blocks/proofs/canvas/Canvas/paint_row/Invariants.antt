-- So many pixels of the row are set.
use Rattle.std.proofs.Common.{◌≡◌}
use Rattle.wfc_blocks.specs.CanvasView.{HaveSameSides, canvas_with, part_of_row, canvas_of}
use Rattle.wfc_blocks.proofs.canvas.Canvas.paint_row.Given as goal

abbrev pub invariant-loop-i : goal.invariant-loop-i
invariant-loop-i l = record {
  set : canvas_of l.self ≡ canvas_with (canvas_of l.fn.self) l.block l.picture (part_of_row l.block l.j l.i);
  alike : HaveSameSides l.fn.self l.self;
}

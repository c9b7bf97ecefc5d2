-- So many rows of the block are set.
use Rattle.std.proofs.Common.{◌≡◌}
use Rattle.wfc_blocks.specs.CanvasView.{HaveSameSides, canvas_with, rows_of_block, canvas_of}
use Rattle.wfc_blocks.proofs.canvas.Canvas.paint.Given as goal

abbrev pub invariant-loop-j : goal.invariant-loop-j
invariant-loop-j l = record {
  set : canvas_of l.self ≡ canvas_with (canvas_of l.fn.self) l.block l.picture (rows_of_block l.block l.j);
  alike : HaveSameSides l.fn.self l.self;
}

-- The pins of the rows so far.
use Rattle.std.proofs.Common.{◌≡◌}
use Rattle.std.specs.List.{flat_map, range_with_len}
use Rattle.wfc_model.specs.Legal.{kept_pin}
use Rattle.wfc_blocks.specs.Canvas.{made_in_row}
use Rattle.wfc_blocks.specs.CanvasView.{canvas_of}
use Rattle.wfc_blocks.proofs.pins.set_marks.Given as goal

abbrev pub invariant-loop-row : goal.invariant-loop-row
invariant-loop-row l = l.found.items ≡ flat_map (λ j. made_in_row kept_pin (canvas_of l.canvas) l.block j) (range_with_len 0 l.row)

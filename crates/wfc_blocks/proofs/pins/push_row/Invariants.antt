-- The pins of the columns so far, behind those before.
use Rattle.std.proofs.Common.{◌≡◌, ◌+◌, ◌++◌}
use Rattle.std.specs.List.{flat_map, range_with_len}
use Rattle.wfc_model.specs.Legal.{kept_pin}
use Rattle.wfc_blocks.specs.Canvas.{made_if_set}
use Rattle.wfc_blocks.specs.CanvasView.{canvas_of}
use Rattle.wfc_blocks.proofs.pins.push_row.Given as goal

abbrev pub invariant-loop-column : goal.invariant-loop-column
invariant-loop-column l = l.found.items ≡ l.fn.found.items ++ flat_map (λ i. made_if_set kept_pin i l.row (canvas_of l.canvas (l.block.x + i) (l.block.y + l.row))) (range_with_len 0 l.column)

-- The rows so far are written.
use Rattle.std.proofs.Common.{◌≡◌, map, take}
use Rattle.wfc_grid.specs.Spelling.{grid_text}
use Rattle.wfc_render.specs.Tiled.{spaced_cells}
use Rattle.wfc_render.proofs.tiled.cell_rows.Given as goal

abbrev pub invariant-loop-y : goal.invariant-loop-y
invariant-loop-y l = l.text.items ≡ grid_text (map spaced_cells (take l.y l.picture.rows))

-- The rows so far are written.
use Rattle.std.proofs.Common.{◌≡◌, map, take}
use Rattle.wfc_grid.specs.Spelling.{grid_text}
use Rattle.wfc_render.specs.Map.{symbol_bytes}
use Rattle.wfc_render.proofs.maps.symbol_rows.Given as goal

abbrev pub invariant-loop-y : goal.invariant-loop-y
invariant-loop-y l = l.text.items ≡ grid_text (map (symbol_bytes l.palette) (take l.y l.picture.rows))

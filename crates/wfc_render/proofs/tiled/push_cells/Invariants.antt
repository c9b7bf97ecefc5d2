-- The numbers of the columns so far are written.
use Rattle.std.proofs.Common.{◌≡◌, ◌++◌, [], take, get_or}
use Rattle.wfc_render.specs.Tiled.{spaced_cells}
use Rattle.wfc_render.proofs.tiled.push_cells.Given as goal

abbrev pub invariant-loop-x : goal.invariant-loop-x
invariant-loop-x l = l.text.items ≡ l.fn.text.items ++ spaced_cells (take l.x (get_or l.picture.rows l.y []))

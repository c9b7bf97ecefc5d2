-- The rows of pixels so far are written.
use Rattle.std.proofs.Common.{◌≡◌, ◌++◌, [], get_or}
use Rattle.std.specs.List.{flat_map, range_with_len}
use Rattle.wfc_render.specs.Drawn.{drawn_line}
use Rattle.wfc_render.proofs.tiled.push_lines.Given as goal

abbrev pub invariant-loop-j : goal.invariant-loop-j
invariant-loop-j l = l.text.items ≡ l.initial.text.items ++ flat_map (drawn_line l.form l.tiles (get_or l.picture.rows l.y [])) (range_with_len 0 l.j)

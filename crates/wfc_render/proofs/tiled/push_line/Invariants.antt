-- The row of the places so far is written.
use Rattle.std.proofs.Common.{◌≡◌, ◌++◌, [], get_or, take}
use Rattle.std.specs.List.{flat_map}
use Rattle.wfc_render.specs.Drawn.{drawn_place}
use Rattle.wfc_render.proofs.tiled.push_line.Given as goal

abbrev pub invariant-loop-x : goal.invariant-loop-x
invariant-loop-x l = l.text.items ≡ l.initial.text.items ++ flat_map (drawn_place l.form l.tiles l.j) (take l.x (get_or l.picture.rows l.y []))

-- The rows of places so far are written.
use Rattle.std.proofs.Common.{◌≡◌, ◌++◌, take}
use Rattle.std.specs.List.{flat_map}
use Rattle.wfc_render.specs.Drawn.{drawn_lines, start_in}
use Rattle.wfc_render.proofs.tiled.drawn_rows.Given as goal

abbrev pub invariant-loop-y : goal.invariant-loop-y
invariant-loop-y l = l.text.items ≡ start_in l.form l.tiles l.picture ++ flat_map (drawn_lines l.form l.tiles) (take l.y l.picture.rows)

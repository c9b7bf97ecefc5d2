-- The pixels of the columns so far are written.
use Rattle.std.proofs.Common.{◌≡◌, ◌++◌, [], take, get_or}
use Rattle.wfc_render.specs.Colours.{pixels_in}
use Rattle.wfc_render.proofs.colours.push_colours.Given as goal

abbrev pub invariant-loop-x : goal.invariant-loop-x
invariant-loop-x l = l.text.items ≡ l.initial.text.items ++ pixels_in l.form l.maxval l.palette (take l.x (get_or l.picture.rows l.y []))

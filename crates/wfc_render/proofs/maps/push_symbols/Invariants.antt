-- The bytes of the columns so far are written.
use Rattle.std.proofs.Common.{◌≡◌, ◌++◌, [], take, get_or}
use Rattle.wfc_render.specs.Map.{symbol_bytes}
use Rattle.wfc_render.proofs.maps.push_symbols.Given as goal

abbrev pub invariant-loop-x : goal.invariant-loop-x
invariant-loop-x l = l.text.items ≡ l.initial.text.items ++ symbol_bytes l.palette (take l.x (get_or l.picture.rows l.y []))

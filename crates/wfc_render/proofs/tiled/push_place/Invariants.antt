-- The pixels so far are written.
use Rattle.std.proofs.Common.{◌≡◌, ◌++◌}
use Rattle.std.specs.List.{flat_map, range_with_len}
use Rattle.wfc_tileset.specs.Pictures.{kind_of}
use Rattle.wfc_render.specs.Drawn.{symbol_in}
use Rattle.wfc_render.specs.Map.{maxval_of}
use Rattle.wfc_render.specs.Tiled.{shown_at}
use Rattle.wfc_render.proofs.tiled.push_place.Given as goal

abbrev pub invariant-loop-i : goal.invariant-loop-i
invariant-loop-i l = l.text.items ≡ l.initial.text.items ++ flat_map (λ i. symbol_in l.form (maxval_of (kind_of l.tiles.pictures)) (shown_at l.tiles l.j l.number i)) (range_with_len 0 l.i)

-- The colours so far are written.
use Rattle.std.proofs.Common.{◌≡◌, ◌++◌}
use Rattle.std.specs.List.{flat_map, range_with_len}
use Rattle.wfc_render.specs.Learned.{colour_line}
use Rattle.wfc_render.proofs.learned.push_colours.Given as goal

abbrev pub invariant-loop-k : goal.invariant-loop-k
invariant-loop-k l = l.text.items ≡ l.initial.text.items ++ flat_map (colour_line l.palette) (range_with_len 0 l.k)

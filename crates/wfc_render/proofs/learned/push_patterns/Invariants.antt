-- The patterns so far are written.
use Rattle.std.proofs.Common.{◌≡◌, ◌++◌}
use Rattle.std.specs.List.{flat_map, range_with_len}
use Rattle.wfc_render.specs.Learned.{pattern_line}
use Rattle.wfc_render.proofs.learned.push_patterns.Given as goal

abbrev pub invariant-loop-p : goal.invariant-loop-p
invariant-loop-p l = l.text.items ≡ l.initial.text.items ++ flat_map (pattern_line l.patterns) (range_with_len 0 l.p)

-- The pairs with the variants so far are written.
use Rattle.std.proofs.Common.{◌≡◌, ◌++◌, filter}
use Rattle.std.specs.List.{flat_map, range_with_len}
use Rattle.wfc_render.specs.LearnedTiles.{is_allowed, pair_line}
use Rattle.wfc_render.proofs.tile_texts.push_pairs_of.Given as goal

abbrev pub invariant-loop-w : goal.invariant-loop-w
invariant-loop-w l = l.text.items ≡ l.initial.text.items ++ flat_map (pair_line l.v) (filter (is_allowed l.way l.tiles l.v) (range_with_len 0 l.w))

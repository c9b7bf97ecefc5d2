-- The pairs of the variants so far are written.
use Rattle.std.proofs.Common.{◌≡◌, ◌++◌}
use Rattle.std.specs.List.{flat_map, range_with_len}
use Rattle.wfc_render.specs.LearnedTiles.{pair_lines}
use Rattle.wfc_render.proofs.tile_texts.push_pairs.Given as goal

abbrev pub invariant-loop-v : goal.invariant-loop-v
invariant-loop-v l = l.text.items ≡ l.initial.text.items ++ flat_map (pair_lines l.way l.tiles) (range_with_len 0 l.v)

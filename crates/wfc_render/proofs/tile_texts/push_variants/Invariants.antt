-- The variants so far are written.
use Rattle.std.proofs.Common.{◌≡◌, ◌++◌}
use Rattle.std.specs.List.{flat_map, range_with_len}
use Rattle.wfc_render.specs.LearnedTiles.{variant_line}
use Rattle.wfc_render.proofs.tile_texts.push_variants.Given as goal

abbrev pub invariant-loop-v : goal.invariant-loop-v
invariant-loop-v l = l.text.items ≡ l.initial.text.items ++ flat_map (variant_line l.tiles) (range_with_len 0 l.v)

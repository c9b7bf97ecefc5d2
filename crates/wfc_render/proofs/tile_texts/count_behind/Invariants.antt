-- Those of the variants so far are counted that may stand behind.
use Rattle.std.proofs.Common.{◌≡◌, ◌≤◌, filter, length}
use Rattle.std.specs.List.{range_with_len}
use Rattle.wfc_render.specs.LearnedTiles.{is_allowed}
use Rattle.wfc_render.proofs.tile_texts.count_behind.Given as goal

abbrev pub invariant-loop-w : goal.invariant-loop-w
invariant-loop-w l = record {
  counted : l.count ≡ length (filter (is_allowed l.way l.tiles l.v) (range_with_len 0 l.w));
  limit : l.count ≤ l.w;
}

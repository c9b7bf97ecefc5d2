-- The pairs of the variants so far are counted.
use Rattle.std.proofs.Common.{◌≡◌, ◌*◌, ◌≤◌, length}
use Rattle.std.specs.List.{range_with_len, sum_by}
use Rattle.wfc_render.specs.LearnedTiles.{allowed_behind}
use Rattle.wfc_render.proofs.tile_texts.count_pairs.Given as goal

abbrev pub invariant-loop-v : goal.invariant-loop-v
invariant-loop-v l = record {
  counted : l.count ≡ sum_by (λ v. length (allowed_behind l.way l.tiles v)) (range_with_len 0 l.v);
  limit : l.count ≤ l.v * 4096;
}

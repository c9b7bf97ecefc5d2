use Rattle.std.proofs.Common.{◌+◌, ℕ, length, ap, sym, ◌∙◌, arith}
use Rattle.std.proofs.lemmas.List.Sums.{sum_by_push}
use Rattle.std.specs.List.{range_with_len, sum_by}
use Rattle.wfc_render.specs.LearnedTiles.{allowed_behind}
use Rattle.wfc_render.proofs.RangeLemmas.{range_next}
use Rattle.wfc_render.proofs.tile_texts.count_pairs.Goals as goal

pub loop-v-preserved : goal.loop-v-preserved
loop-v-preserved c =
    let f : ℕ → ℕ = λ v. length (allowed_behind c.args.way c.args.tiles.now v) in
    let v = c.loop-v.v in
    let one = c.count_behind-count.result in
    record {
      counted = ap (λ n. n + one) c.loop-v.invariant.counted ∙ ap (λ n. sum_by f (range_with_len 0 v) + n) c.count_behind-count.ensures.value
          ∙ sym (ap (sum_by f) (range_next v) ∙ sum_by_push f (range_with_len 0 v) v);
      limit = omega (arith, c.loop-v.invariant.limit, c.count_behind-count.ensures.limit);
    }

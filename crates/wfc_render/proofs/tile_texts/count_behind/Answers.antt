use Rattle.std.proofs.Common.{◌≡◌, ◌≤◌, ℕ, Bool, ap, ◌∙◌, arith, if◌then◌else◌}
use Rattle.wfc_render.specs.LearnedTiles.{is_allowed}
use Rattle.wfc_render.proofs.KeptLemmas.{count_next, one_at_most}
use Rattle.wfc_render.proofs.tile_texts.count_behind.Goals as goal

pub loop-w-preserved : goal.loop-w-preserved
loop-w-preserved c =
    let p : ℕ → Bool = λ w. is_allowed c.args.way c.args.tiles.now c.args.v w in
    let w = c.loop-w.w in
    let one : c.one_if-count.result ≡ (if p w then 1 else 0) = c.one_if-count.ensures.value ∙ ap (λ (b : Bool). if b then 1 else 0) c.is_allowed.ensures.value in
    let most : c.one_if-count.result ≤ 1 = one_at_most (p w) c.one_if-count.result one in
    record {
      counted = count_next p w c.loop-w.count c.one_if-count.result c.loop-w.invariant.counted one;
      limit = omega (arith, c.loop-w.invariant.limit);
    }

use Rattle.std.proofs.Common.{ℕ, Bool, ◌++◌, [], ◌∷◌, cond, filter, sym, ap, ◌∙◌}
use Rattle.std.specs.List.{range_with_len}
use Rattle.wfc_lists.proofs.Growing.{kept_more}
use Rattle.wfc_tiled.specs.Tiles.{variants_fit}
use Rattle.wfc_tiled.proofs.supports.fitting_variants.Goals as goal

pub loop-w-preserved : goal.loop-w-preserved
loop-w-preserved c =
    let p : ℕ → Bool = λ w. variants_fit c.args.tiles.now c.args.dir c.args.v w in
    let w = c.loop-w.w in
    c.in_ok-push_if.ensures.pushed
    ∙ ap (λ t. t ++ cond c.variants_fit.result (w ∷ []) []) c.loop-w.invariant
    ∙ ap (λ b. filter p (range_with_len 0 w) ++ cond b (w ∷ []) []) c.variants_fit.ensures.value
    ∙ sym (kept_more p w)

use Rattle.std.proofs.Common.{ℕ, Bool, ◌++◌, [], ◌∷◌, cond, filter, sym, ap, ◌∙◌}
use Rattle.std.specs.List.{range_with_len}
use Rattle.wfc_lists.proofs.Growing.{kept_more}
use Rattle.wfc_box.specs.BoxProblem.{fits_in}
use Rattle.wfc_box.proofs.supports.support_list.Goals as goal

pub loop-w-preserved : goal.loop-w-preserved
loop-w-preserved c =
    let p : ℕ → Bool = λ w. fits_in c.args.tiles.now c.args.stacks.now c.args.dir c.args.v w in
    let w = c.loop-w.w in
    c.in_ok-push_if.ensures.pushed
    ∙ ap (λ t. t ++ cond c.fits_in.result (w ∷ []) []) c.loop-w.invariant
    ∙ ap (λ b. filter p (range_with_len 0 w) ++ cond b (w ∷ []) []) c.fits_in.ensures.value
    ∙ sym (kept_more p w)

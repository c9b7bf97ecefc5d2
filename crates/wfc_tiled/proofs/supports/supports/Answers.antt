use Rattle.std.proofs.Common.{◌++◌, List, ℕ, sym, ap, ◌∙◌}
use Rattle.wfc_lists.proofs.Ranges.{lists_more}
use Rattle.wfc_tiled.specs.Tiles.{all_fitting}
use Rattle.wfc_tiled.proofs.supports.supports.Goals as goal

pub loop-v-preserved : goal.loop-v-preserved
loop-v-preserved c =
    let F : ℕ → List (List ℕ) = λ v. all_fitting c.args.tiles.now v in
    c.in_ok-push_lists.ensures.lists ∙ ap (λ t. t ++ F c.loop-v.v) c.loop-v.invariant ∙ sym (lists_more F c.loop-v.v)

use Rattle.std.proofs.Common.{◌++◌, List, ℕ, sym, ap, ◌∙◌}
use Rattle.wfc_lists.proofs.Ranges.{lists_more}
use Rattle.wfc_box.specs.BoxProblem.{all_fitting_in_box}
use Rattle.wfc_box.proofs.supports.supports.Goals as goal

pub loop-v-preserved : goal.loop-v-preserved
loop-v-preserved c =
    let F : ℕ → List (List ℕ) = λ v. all_fitting_in_box c.args.tiles.now c.args.stacks.now v in
    c.in_ok-push_lists.ensures.lists ∙ ap (λ t. t ++ F c.loop-v.v) c.loop-v.invariant ∙ sym (lists_more F c.loop-v.v)

use Rattle.std.proofs.Common.{◌++◌, List, ℕ, map, sym, ap, ◌∙◌}
use Rattle.std.specs.List.{range_with_len}
use Rattle.wfc_overlap.specs.Sample.{agreeing_patterns}
use Rattle.wfc_lists.proofs.Ranges.{lists_more}
use Rattle.wfc_overlap.proofs.supports.support_lists.Goals as goal

pub loop-p-preserved : goal.loop-p-preserved
loop-p-preserved c =
    let F : ℕ → List (List ℕ) = λ p. map (agreeing_patterns c.args.patterns.now p) (range_with_len 0 4) in
    c.in_ok-push_lists.ensures.lists ∙ ap (λ t. t ++ F c.loop-p.p) c.loop-p.invariant ∙ sym (lists_more F c.loop-p.p)

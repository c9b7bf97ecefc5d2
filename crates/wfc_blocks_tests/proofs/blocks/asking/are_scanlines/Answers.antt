use Rattle.std.proofs.Common.{ap, refl, sym, take, [], ◌++◌, ◌+◌, ◌∙◌, ◌∷◌}
use Rattle.std.proofs.lemmas.List.{take_more}
use Rattle.wfc_blocks_tests.proofs.PushLemmas.{least-push}
use Rattle.wfc_blocks_tests.proofs.blocks.asking.are_scanlines.Goals as goal

pub loop-chooser-preserved : goal.loop-chooser-preserved
loop-chooser-preserved g c =
    let all = c.args.choosers.now in
    let at = c.loop-chooser.chooser-index in
    least-push _ (take at all) (take (at + 1) all) c.chooser-item.result
    (take_more all at c.chooser-item.result c.loop-chooser-test.true ∙ ap (λ x. take at all ++ x ∷ []) (sym c.chooser-item.is))
    (c.if-not-is_scanline.ensures.kind refl) c.loop-chooser.invariant

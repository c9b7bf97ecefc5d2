use Rattle.wfc_overlap.specs.Layout.{output_of}
use Rattle.wfc_overlap.specs.Sample.{window_suits_at}
use Rattle.wfc_overlap.proofs.FlagLemmas.{all_more, cut_more}
use Rattle.wfc_overlap.proofs.base.cut_column.Goals as goal

pub loop-j-preserved : goal.loop-j-preserved
loop-j-preserved c =
    let l = c.args.layout in
    cut_more c.args.patterns.now (output_of l) _ _ _ _ _ _ c.loop-j.invariant c.cut_entry.ensures.cut
    (λ place w. all_more (λ j. window_suits_at l.n (output_of l) place w c.args.mark.now c.args.i j) c.loop-j.j)

use Rattle.std.specs.List.{list_all, range_with_len}
use Rattle.wfc_overlap.specs.Layout.{output_of}
use Rattle.wfc_overlap.specs.Sample.{window_suits_at}
use Rattle.wfc_overlap.proofs.FlagLemmas.{all_more, cut_more}
use Rattle.wfc_overlap.proofs.base.cut_by_mark.Goals as goal

pub loop-i-preserved : goal.loop-i-preserved
loop-i-preserved c =
    let l = c.args.layout in
    cut_more c.args.patterns.now (output_of l) _ _ _ _ _ _ c.loop-i.invariant c.cut_column.ensures.cut
    (λ place w. all_more (λ i. list_all (λ j. window_suits_at l.n (output_of l) place w c.args.mark.now i j) (range_with_len 0 l.n)) c.loop-i.i)

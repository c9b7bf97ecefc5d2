use Rattle.std.specs.List.{list_all, range_with_len}
use Rattle.wfc_overlap.specs.Flags.{AreCut}
use Rattle.wfc_overlap.specs.Layout.{output_of}
use Rattle.wfc_overlap.specs.Sample.{window_suits_at}
use Rattle.wfc_overlap.proofs.base.cut_by_mark.Given as goal

abbrev pub invariant-loop-i : goal.invariant-loop-i
invariant-loop-i l = AreCut l.patterns (output_of l.layout) l.initial.flags l.flags
    (λ place w. list_all (λ i. list_all (λ j. window_suits_at l.layout.n (output_of l.layout) place w l.mark i j) (range_with_len 0 l.layout.n)) (range_with_len 0 l.i))

use Rattle.std.specs.List.{list_all, range_with_len}
use Rattle.wfc_overlap.specs.Flags.{AreCut}
use Rattle.wfc_overlap.specs.Layout.{output_of}
use Rattle.wfc_overlap.specs.Sample.{window_suits_at}
use Rattle.wfc_overlap.proofs.base.cut_column.Given as goal

abbrev pub invariant-loop-j : goal.invariant-loop-j
invariant-loop-j l = AreCut l.patterns (output_of l.layout) l.initial.flags l.flags (λ place w. list_all (λ j. window_suits_at l.layout.n (output_of l.layout) place w l.mark l.i j) (range_with_len 0 l.j))

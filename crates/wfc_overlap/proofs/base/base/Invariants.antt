use Rattle.std.proofs.Common.{take}
use Rattle.wfc_overlap.specs.Flags.{AreCut}
use Rattle.wfc_overlap.specs.Layout.{output_of}
use Rattle.wfc_overlap.specs.Sample.{window_meets_pins}
use Rattle.wfc_overlap.proofs.base.base.Given as goal

abbrev pub invariant-loop-mark : goal.invariant-loop-mark
invariant-loop-mark l = AreCut l.patterns (output_of l.layout) l.initial.flags.items l.flags.items (λ place w. window_meets_pins l.layout.n (output_of l.layout) place w (take l.mark-index l.marks))

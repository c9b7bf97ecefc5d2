use Rattle.std.proofs.Common.{take}
use Rattle.wfc_box.specs.StackTable.{AreStackFlags}
use Rattle.wfc_box.proofs.allowed.set_all.Given as goal

abbrev pub invariant-loop-pair : goal.invariant-loop-pair
invariant-loop-pair l = AreStackFlags l.side (take l.pair-index l.pairs) l.flags

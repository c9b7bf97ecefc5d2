use Rattle.std.proofs.Common.{take}
use Rattle.wfc_places.specs.Flags.{HasFlags}
use Rattle.wfc_box.specs.Boxes.{places_in}
use Rattle.wfc_box.specs.BoxProblem.{meets_in_box}
use Rattle.wfc_box.proofs.base.cut_all.Given as goal

abbrev pub invariant-loop-mark : goal.invariant-loop-mark
invariant-loop-mark l = HasFlags l.count (places_in l.frame) l.flags (meets_in_box l.frame (take l.mark-index l.marks))

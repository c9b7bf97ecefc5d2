use Rattle.std.proofs.Common.{◌*◌}
use Rattle.wfc_places.specs.Marks.{suits}
use Rattle.wfc_places.proofs.FlagLemmas.{IsCutTo}
use Rattle.wfc_places.proofs.flags.cut_row.Given as goal

abbrev pub invariant-loop-v : goal.invariant-loop-v
invariant-loop-v l = IsCutTo l.initial.flags l.flags (l.cell * l.count) l.v (suits l.mark)

use Rattle.std.proofs.Common.{◌≡◌, false, drop}
use Rattle.wfc_ppm.specs.Field.{stop_of}
use Rattle.wfc_ppm.proofs.field.stop.Given as goal

abbrev pub invariant-loop-at : goal.invariant-loop-at
invariant-loop-at l = stop_of l.opened (drop l.at l.text) ≡ stop_of false l.text

use Rattle.std.proofs.Common.{◌≡◌, drop}
use Rattle.std.specs.List.{find}
use Rattle.wfc_check.specs.Entries.{standing}
use Rattle.wfc_check.proofs.nodes.first_among.Given as goal

abbrev pub invariant-loop-value : goal.invariant-loop-value
invariant-loop-value l = find (standing l.trail l.cell) l.among ≡ find (standing l.trail l.cell) (drop l.value-index l.among)

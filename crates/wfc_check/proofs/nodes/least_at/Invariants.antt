use Rattle.std.proofs.Common.{◌≡◌, ◌-◌}
use Rattle.std.specs.List.{find, range_with_len}
use Rattle.wfc_problem.specs.Network.{values}
use Rattle.wfc_check.specs.Entries.{standing}
use Rattle.wfc_check.proofs.nodes.least_at.Given as goal

abbrev pub invariant-loop-value : goal.invariant-loop-value
invariant-loop-value l = find (standing l.trail l.cell) (range_with_len 0 (values l.trail.problem)) ≡ find (standing l.trail l.cell) (range_with_len l.value (values l.trail.problem - l.value))

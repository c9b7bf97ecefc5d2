use Rattle.std.proofs.Common.{◌≡◌, ◌-◌}
use Rattle.std.specs.Prelude.{◌==◌, ◌||◌, not}
use Rattle.std.specs.List.{list_all, range_with_len}
use Rattle.wfc_problem.specs.Network.{values}
use Rattle.wfc_check.specs.Entries.{standing}
use Rattle.wfc_check.proofs.nodes.has_other.Given as goal

abbrev pub invariant-loop-other : goal.invariant-loop-other
invariant-loop-other l = list_all (λ w. w == l.value || not (standing l.trail l.cell w)) (range_with_len 0 (values l.trail.problem))
    ≡ list_all (λ w. w == l.value || not (standing l.trail l.cell w)) (range_with_len l.other (values l.trail.problem - l.other))

use Rattle.std.proofs.Common.{IsTrue, ◌-◌, ◌≡◌, ◌+◌, ◌*◌, ◌<◌, ◌≤◌}
use Rattle.std.specs.List.{sum_by}
use Rattle.wfc_problem.specs.Network.{values, value_weight}
use Rattle.wfc_problem.specs.Sizes.{values_at}
use Rattle.wfc_log.specs.Domains.{has}
use Rattle.wfc_choose.proofs.DrawLemmas.{rest_from}
use Rattle.wfc_choose.proofs.draws.weights_at.Given as goal

-- with the weights of the values that stand from here on the sum is whole
abbrev pub invariant-loop-value : goal.invariant-loop-value
invariant-loop-value l = record {
  whole : l.sum + sum_by (value_weight l.problem) (rest_from (has l.domains l.cell) l.value (values l.problem))
      ≡ sum_by (value_weight l.problem) (values_at l.problem (has l.domains) l.cell);
  small : l.sum ≤ 16777216 * l.value;
  stands : l.value < l.values → IsTrue (has l.domains l.cell l.value);
  within : l.value ≤ l.values;
}

abbrev pub decreases-loop-value : goal.decreases-loop-value
decreases-loop-value l = l.values - l.value

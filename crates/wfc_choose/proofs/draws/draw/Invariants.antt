use Rattle.std.proofs.Common.{IsTrue, ◌-◌, ◌≡◌, ◌+◌, ◌*◌, ◌<◌, ◌≤◌}
use Rattle.std.specs.List.{sum_by}
use Rattle.wfc_problem.specs.Network.{values, value_weight}
use Rattle.wfc_problem.specs.Sizes.{values_at}
use Rattle.wfc_log.specs.Domains.{has}
use Rattle.wfc_choose.specs.Draw.{first_above}
use Rattle.wfc_choose.proofs.DrawLemmas.{rest_from}
use Rattle.wfc_choose.proofs.draws.draw.Given as goal

-- what is drawn is among the values that stand from here on
abbrev pub invariant-loop-value : goal.invariant-loop-value
invariant-loop-value l = record {
  whole : l.running + sum_by (value_weight l.problem) (rest_from (has l.domains l.cell) l.value (values l.problem))
      ≡ sum_by (value_weight l.problem) (values_at l.problem (has l.domains) l.cell);
  behind : first_above l.problem l.number l.running (rest_from (has l.domains l.cell) l.value (values l.problem))
      ≡ first_above l.problem l.number 0 (values_at l.problem (has l.domains) l.cell);
  below : l.running ≤ l.number;
  small : l.running ≤ 16777216 * l.value;
  stands : l.value < l.values → IsTrue (has l.domains l.cell l.value);
  within : l.value ≤ l.values;
}

abbrev pub decreases-loop-value : goal.decreases-loop-value
decreases-loop-value l = l.values - l.value

use Rattle.std.proofs.Common.{◌≡◌, ◌≤◌, take}
use Rattle.std.specs.Prelude.{count_by}
use Rattle.wfc_problem.specs.Network.{row_of, values}
use Rattle.wfc_log.proofs.domains.base_size.Given as goal

abbrev pub invariant-loop-value : goal.invariant-loop-value
invariant-loop-value l = record {
  few : l.count ≤ l.value;
  counted : l.count ≡ count_by (λ flag. flag) (take l.value (row_of (values l.problem) l.problem.base l.cell));
}

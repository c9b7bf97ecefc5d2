use Rattle.std.proofs.Common.{◌≡◌, ◌<◌, ℕ, length, get_or}
use Rattle.std.specs.Prelude.{count_by}
use Rattle.wfc_problem.specs.Network.{row_of, values}
use Rattle.wfc_log.proofs.domains.base_sizes.Given as goal

abbrev pub invariant-loop-cell : goal.invariant-loop-cell
invariant-loop-cell l = record {
  sized : length l.sizes.items ≡ l.cell;
  each : (c : ℕ) → c < l.cell → get_or l.sizes.items c 0 ≡ count_by (λ flag. flag) (row_of (values l.problem) l.problem.base c);
}

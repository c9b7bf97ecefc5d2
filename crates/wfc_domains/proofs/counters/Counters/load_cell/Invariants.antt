use Rattle.std.proofs.Common.{◌≡◌, ◌+◌, ◌*◌}
use Rattle.wfc_domains.specs.Counters.{counter_place}
use Rattle.wfc_log.specs.Domains.{has}
use Rattle.wfc_domains.specs.Loaded.{AreLoaded}
use Rattle.wfc_domains.proofs.counters.Counters.load_cell.Given as goal

abbrev pub invariant-loop-value : goal.invariant-loop-value
invariant-loop-value g l = record {
  loaded : AreLoaded l.problem (has l.domains) l.self (counter_place l.problem l.cell l.value 0);
  steps : l.steps ≡ l.fn.steps + l.value * l.problem.dirs;
}

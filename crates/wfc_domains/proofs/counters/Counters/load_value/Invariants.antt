use Rattle.std.proofs.Common.{◌≡◌, ◌+◌}
use Rattle.wfc_domains.specs.Counters.{counter_place}
use Rattle.wfc_log.specs.Domains.{has}
use Rattle.wfc_domains.specs.Loaded.{AreLoaded}
use Rattle.wfc_domains.proofs.counters.Counters.load_value.Given as goal

abbrev pub invariant-loop-dir : goal.invariant-loop-dir
invariant-loop-dir g l = record {
  loaded : AreLoaded l.problem (has l.domains) l.self (counter_place l.problem l.cell l.value l.dir);
  steps : l.steps ≡ l.fn.steps + l.dir;
}

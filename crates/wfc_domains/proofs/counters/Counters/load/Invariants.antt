use Rattle.std.proofs.Common.{◌≡◌, ◌+◌, ◌*◌}
use Rattle.std.specs.Prelude.{IfSome}
use Rattle.wfc_problem.specs.Network.{values}
use Rattle.wfc_domains.specs.Counters.{counter_place}
use Rattle.wfc_log.specs.Domains.{has}
use Rattle.wfc_domains.specs.Loaded.{AreLoaded, IsLike}
use Rattle.wfc_domains.proofs.counters.Counters.load.Given as goal

abbrev pub invariant-loop-cell : goal.invariant-loop-cell
invariant-loop-cell g l = record {
  loaded : AreLoaded l.problem (has l.domains) l.self (counter_place l.problem l.cell 0 0);
  like : IfSome l.like (IsLike l.problem (has l.domains) l.cell);
  steps : l.steps ≡ l.fn.steps + l.cell * (values l.problem * l.problem.dirs);
}

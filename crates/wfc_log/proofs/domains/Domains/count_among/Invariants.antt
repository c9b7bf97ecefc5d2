use Rattle.std.proofs.Common.{◌≡◌, take}
use Rattle.std.specs.Prelude.{count_by}
use Rattle.wfc_log.specs.Domains.{has}
use Rattle.wfc_log.proofs.domains.Domains.count_among.Given as goal

abbrev pub invariant-loop-value : goal.invariant-loop-value
invariant-loop-value l = l.count ≡ count_by (has l.self l.cell) (take l.value-index l.among)

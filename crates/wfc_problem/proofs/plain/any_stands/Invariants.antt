use Rattle.std.proofs.Common.{◌≡◌, take, false}
use Rattle.std.specs.List.{list_any}
use Rattle.wfc_problem.specs.Network.{has_flag}
use Rattle.wfc_problem.proofs.plain.any_stands.Given as goal

abbrev pub invariant-loop-value : goal.invariant-loop-value
invariant-loop-value l = list_any (has_flag l.values l.flags l.cell) (take l.value-index l.wanted) ≡ false

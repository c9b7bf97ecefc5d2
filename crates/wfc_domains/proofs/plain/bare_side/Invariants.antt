use Rattle.std.proofs.Common.{◌≡◌, ◌<◌, ℕ, Some}
use Rattle.wfc_problem.specs.Network.{neighbour}
use Rattle.wfc_problem.specs.Domains.{support_count}
use Rattle.wfc_log.specs.Domains.{has}
use Rattle.wfc_domains.proofs.plain.bare_side.Given as goal

abbrev pub invariant-loop-dir : goal.invariant-loop-dir
invariant-loop-dir l = (d n : ℕ) → d < l.dir → neighbour l.board.problem.now l.cell d ≡ Some n → 0 < support_count l.board.problem.now (has l.board.domains) l.cell l.value d

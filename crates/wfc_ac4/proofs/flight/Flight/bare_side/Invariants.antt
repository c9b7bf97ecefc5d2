use Rattle.std.proofs.Common.{◌≡◌, ◌<◌, ℕ, Some}
use Rattle.wfc_problem.specs.Network.{neighbour}
use Rattle.wfc_domains.specs.Counters.{count_of}
use Rattle.wfc_ac4.proofs.flight.Flight.bare_side.Given as goal

abbrev pub invariant-loop-dir : goal.invariant-loop-dir
invariant-loop-dir l = (d n : ℕ) → d < l.dir → neighbour l.self.board.problem.now l.cell d ≡ Some n → 0 < count_of l.self.counters l.cell l.value d

use Rattle.std.proofs.Common.{◌+◌, ◌*◌}
use Rattle.wfc_problem.specs.Network.{values}
use Rattle.wfc_ac4.specs.State.{IsScanned}
use Rattle.wfc_ac4.specs.Flight.{GoesOn}
use Rattle.wfc_ac4.proofs.flight.Flight.scan_cell.Given as goal

abbrev pub invariant-loop-value : goal.invariant-loop-value
invariant-loop-value l = record {
  scanned : IsScanned l.self.board l.self.counters (l.cell * values l.self.board.problem.now + l.value);
  goes_on : GoesOn l.fn.self l.self;
}

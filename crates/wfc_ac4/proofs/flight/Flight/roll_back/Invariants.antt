use Rattle.std.proofs.Common.{◌+◌, ◌≤◌, length}
use Rattle.wfc_domains.specs.Counters.{cost_of}
use Rattle.wfc_ac4.specs.State.{IsRolled}
use Rattle.wfc_ac4.specs.Flight.{IsRolledTo}
use Rattle.wfc_ac4.proofs.flight.Flight.roll_back.Given as goal

abbrev pub invariant-loop-self : goal.invariant-loop-self
invariant-loop-self g l =
    let P = l.fn.self.board.problem.now in
    record {
      rolled : IsRolled l.self.board l.self.counters l.self.head;
      within : l.mark ≤ length l.self.board.trail.removals;
      back : IsRolledTo l.fn.self l.self (length l.self.board.trail.removals);
      steps : l.steps + cost_of P l.self.board.trail.removals ≤ l.fn.steps + cost_of P l.fn.self.board.trail.removals;
    }

abbrev pub decreases-loop-self : goal.decreases-loop-self
decreases-loop-self g l = length l.self.board.trail.removals

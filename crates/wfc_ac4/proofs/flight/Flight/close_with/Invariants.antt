use Rattle.std.proofs.Common.{take, ◌+◌, ◌-◌, ◌≡◌, ◌≤◌, []}
use Rattle.wfc_problem.specs.Rounds.{depth_of}
use Rattle.wfc_domains.specs.Counters.{cost_of}
use Rattle.wfc_domains.specs.Board.{Grows, IsListed}
use Rattle.wfc_ac4.specs.State.{IsBetweenRemovals}
use Rattle.wfc_ac4.proofs.flight.Flight.close_with.Given as goal

-- the removals before the place are worked off
abbrev pub invariant-loop-self : goal.invariant-loop-self
invariant-loop-self g l =
    let P = l.fn.self.board.problem.now in
    record {
      between : IsBetweenRemovals l.self.board l.counters (l.start + l.at);
      begun : l.self.board.trail.start ≡ l.start;
      limit : l.counters.limit ≡ l.fn.counters.limit;
      forward : l.fn.self.head ≤ l.start + l.at;
      idle : l.fn.self.board.trail.removals ≡ [] → l.self.board.trail.removals ≡ [];
      grows : Grows l.fn.self.board l.self.board;
      listed : IsListed l.self.board;
      steps : l.steps + cost_of P (take l.fn.self.head l.self.board.trail.removals) ≡ l.fn.steps + cost_of P (take (l.start + l.at) l.self.board.trail.removals);
    }

-- each turn works one removal off, and there are at most as many as pairs
abbrev pub decreases-loop-self : goal.decreases-loop-self
decreases-loop-self g l = depth_of l.fn.self.board.problem.now - (l.start + l.at)

use Rattle.std.proofs.Common.{◌+◌, ◌≡◌, length, take}
use Rattle.wfc_ac4.specs.Links.{link_places}
use Rattle.wfc_ac4.specs.State.{IsWorking}
use Rattle.wfc_ac4.specs.Flight.{GoesOn}
use Rattle.wfc_ac4.proofs.flight.Flight.work_sides.Given as goal

-- the counters of the links so far are lowered
abbrev pub invariant-loop-link : goal.invariant-loop-link
invariant-loop-link g l =
    record {
      working : IsWorking l.self.board l.counters l.index l.cell l.value (link_places l.self.board.problem.now l.cell (take l.link-index l.links));
      limit : l.counters.limit ≡ l.fn.counters.limit;
      goes_on : GoesOn l.fn.self l.self;
      steps : l.steps ≡ l.fn.steps + length (link_places l.fn.self.board.problem.now l.cell (take l.link-index l.links));
    }

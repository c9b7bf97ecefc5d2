use Rattle.std.proofs.Common.{◌+◌, ◌≡◌, ◌++◌, take, Some}
use Rattle.wfc_problem.specs.Network.{in_base}
use Rattle.wfc_domains.specs.Removals.{without}
use Rattle.wfc_ac4.specs.Places.{places_upto, side_places}
use Rattle.wfc_ac4.specs.State.{IsRaising}
use Rattle.wfc_ac4.specs.Flight.{Recounts, HasNoMore}
use Rattle.wfc_ac4.proofs.flight.Flight.raise_side.Given as goal

-- the places of the supports so far are raised
abbrev pub invariant-loop-w : goal.invariant-loop-w
invariant-loop-w g l =
    let P = l.fn.self.board.problem.now in
    record {
      raising : IsRaising P (without (in_base P) l.fn.self.board.trail.removals) l.cell l.value (places_upto P l.cell l.value l.dir ++ take l.w-index (side_places P l.value l.dir (Some l.next))) l.self.counters;
      same : Recounts l.fn.self l.self;
      marks : HasNoMore l.fn.self.counters l.self.counters;
      steps : l.steps ≡ l.fn.steps + l.w-index;
    }

use Rattle.std.proofs.Common.{◌+◌, length, ◌≡◌}
use Rattle.wfc_problem.specs.Network.{in_base}
use Rattle.wfc_domains.specs.Removals.{without}
use Rattle.wfc_ac4.specs.Places.{places_upto}
use Rattle.wfc_ac4.specs.State.{IsRaising}
use Rattle.wfc_ac4.specs.Flight.{Recounts, HasNoMore}
use Rattle.wfc_ac4.proofs.flight.Flight.raise.Given as goal

-- the places in the directions so far are raised
abbrev pub invariant-loop-dir : goal.invariant-loop-dir
invariant-loop-dir g l =
    let P = l.fn.self.board.problem.now in
    record {
      raising : IsRaising P (without (in_base P) l.fn.self.board.trail.removals) l.cell l.value (places_upto P l.cell l.value l.dir) l.self.counters;
      same : Recounts l.fn.self l.self;
      marks : HasNoMore l.fn.self.counters l.self.counters;
      steps : l.steps ≡ l.fn.steps + length (places_upto P l.cell l.value l.dir);
    }

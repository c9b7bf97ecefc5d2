use Rattle.std.proofs.Common.{◌∙◌, ap, arith, length}
use Rattle.std.proofs.lemmas.List.{length_push}
use Rattle.wfc_domains.specs.Counters.{cost_of}
use Rattle.wfc_ac4.proofs.Rolls.{front-shorter}
use Rattle.wfc_ac4.proofs.flight.Flight.roll_back.Goals as goal

pub loop-self-preserved : goal.loop-self-preserved
loop-self-preserved g c =
    let h = c.loop-self.invariant in
    let e = c.take_back.ensures in
    let one = length_push c.take_back.new.self.board.trail.removals e.shorter.last in
    let shorter = ap length e.shorter.removals in
    record {
      rolled = e.rolled;
      within = omega (arith, c.len.ensures.value);
      back = record {
        problem = e.shorter.problem ∙ h.back.problem;
        levels = e.shorter.levels ∙ h.back.levels;
        removals = front-shorter _ _ _ _ e.shorter.removals h.back.removals;
        head = omega (arith, e.shorter.head, h.back.head);
      };
      steps = omega (arith, e.steps, h.steps, ap (λ p. cost_of p.now c.take_back.new.self.board.trail.removals) h.back.problem, ap (λ p. cost_of p.now c.loop-self.self.board.trail.removals) h.back.problem);
    }

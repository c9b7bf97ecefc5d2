use Rattle.std.proofs.Common.{sym, ◌∙◌, ap, arith, length, ◌≡◌}
use Rattle.wfc_problem.specs.Network.{supports_of}
use Rattle.wfc_ac4.specs.declared.flight.Flight.{Flight}
use Rattle.wfc_ac4.specs.Places.{places_upto}
use Rattle.wfc_ac4.proofs.Steps.{raised_side, raised_none, all_raised}
use Rattle.wfc_ac4.proofs.Costs.{length-upto_some, length-upto_none, cost-is}
use Rattle.wfc_ac4.proofs.flight.Flight.raise.Goals as goal
use Rattle.wfc_ac4.proofs.flight.Flight.raise.Goals.{in-Some, in_default}

pub loop-dir-preserved : goal.loop-dir-preserved
loop-dir-preserved g c =
    elim c.match-neighbour.branch [
      | in-Some w ↦
          let e = w.raise_side.ensures in
          let raising = rw c.loop-dir.invariant.same at e.raising in
          rw (w.self-is, w.steps-is) (record {
            raising = raised_side _ _ _ _ _ _ _ (sym c.neighbour.ensures.value ∙ w.in-Some.is) raising;
            same = e.same ∙ ap (λ (f : Flight). record f { counters = w.raise_side.new.self.counters }) c.loop-dir.invariant.same;
            marks = λ x y z m. c.loop-dir.invariant.marks x y z (e.marks x y z m);
            steps = omega (arith, e.steps, c.loop-dir.invariant.steps, ap (λ (f : Flight). length (supports_of f.board.problem.now c.args.value c.loop-dir.dir)) c.loop-dir.invariant.same, length-upto_some c.args.self.now.board.problem.now c.args.cell c.args.value c.loop-dir.dir w.in-Some.next (sym c.neighbour.ensures.value ∙ w.in-Some.is));
          })
      | in_default w ↦
          rw (w.self-is, w.steps-is) (record {
            raising = raised_none _ _ _ _ _ _ (sym c.neighbour.ensures.value ∙ w.in_default.is) c.loop-dir.invariant.raising;
            same = c.loop-dir.invariant.same;
            marks = c.loop-dir.invariant.marks;
            steps = omega (arith, c.loop-dir.invariant.steps, length-upto_none c.args.self.now.board.problem.now c.args.cell c.args.value c.loop-dir.dir (sym c.neighbour.ensures.value ∙ w.in_default.is));
          })
    ]

pub returns-clause-counters : goal.returns-clause-counters
returns-clause-counters g c =
    let all : c.loop-dir.dir ≡ c.args.self.now.board.problem.now.dirs = omega (arith, c.dirs-dir-end.ensures.value) in
    all_raised _ _ _ _ _ _ c.loop-dir.invariant.raising all

pub returns-clause-steps : goal.returns-clause-steps
returns-clause-steps g c =
    let P = c.args.self.now.board.problem.now in
    let all : c.loop-dir.dir ≡ P.dirs = omega (arith, c.dirs-dir-end.ensures.value) in
    omega (arith, c.loop-dir.invariant.steps, cost-is P c.args.cell c.args.value, ap (λ d. length (places_upto P c.args.cell c.args.value d)) all)

use Rattle.std.proofs.Common.{◌<◌, ◌+◌, ◌-◌, ◌≡◌, length, take, refl, ap, sym, subst, arith, ◌∙◌}
use Rattle.wfc_problem.specs.Rounds.{depth_of}
use Rattle.wfc_domains.specs.Counters.{cost_of}
use Rattle.wfc_domains.specs.Store.{list_limit}
use Rattle.wfc_domains.proofs.Boards.{grows-none, grows-more, listed-grown, listed-settled, log-few}
use Rattle.wfc_ac4.specs.Links.{AreLinks}
use Rattle.wfc_ac4.proofs.Rolls.{log-depth}
use Rattle.wfc_ac4.proofs.Opening.{between-at}
use Rattle.wfc_ac4.proofs.Closing.{cost-front, last-at, last-in, between-listed, grows-listed}
use Rattle.wfc_ac4.proofs.flight.Flight.close_with.Goals as goal

pub work_off-requires-clause-linked : goal.work_off-requires-clause-linked
work_off-requires-clause-linked g c = subst (λ p. AreLinks p.now c.args.links.now) (sym c.loop-self.invariant.grows.problem) c.requires.linked

pub loop-self-init : goal.loop-self-init
loop-self-init g c =
    let b = c.args.self.now.board in
    let back : c.args.self.now.head ≡ c.start-start.result + (c.args.self.now.head - c.start-start.result) = omega (arith, c.requires.recent, c.start-start.ensures.value) in
    record {
      between = between-at _ _ _ _ c.requires.between back;
      begun = sym c.start-start.ensures.value;
      limit = refl;
      forward = omega (arith, back);
      idle = λ none. none;
      grows = grows-none _;
      listed = c.requires.listed;
      steps = ap (λ n. c.args.steps.now + cost_of b.problem.now (take n b.trail.removals)) back;
    }

pub overflow_add-start : goal.overflow_add-start
overflow_add-start g c =
    let h = c.loop-self.invariant in
    omega (arith, h.between.in_log, log-few c.loop-self.self.board h.between.board.traced)

pub work_off-requires-clause-there : goal.work_off-requires-clause-there
work_off-requires-clause-there g c =
    let h = c.loop-self.invariant in
    let begun = h.begun in
    let long = ap length (c.last.ensures.value ∙ sym c.last-in-loop-self.ensures.value) in
    let inside : c.loop-self.at < length c.last-in-loop-self.result.now = omega (arith, long) in
    last-at _ _ _ _ _ _ c.last-in-loop-self.ensures.value begun inside

pub loop-self-preserved : goal.loop-self-preserved
loop-self-preserved g c =
    let h = c.loop-self.invariant in
    let e = c.work_off.ensures in
    let P = c.args.self.now.board.problem.now in
    let start = c.loop-self.start in
    let at = c.loop-self.at in
    let rs = c.loop-self.self.board.trail.removals in
    let new = c.work_off.new.self.board.trail.removals in
    let begun = h.begun in
    let inside : start + at < length rs = last-in _ _ _ _ _ c.last.ensures.value begun (omega arith) in
    let one_more : start + at + 1 ≡ start + (at + 1) = omega arith in
    let front = cost-front P c.args.self.now.head rs new e.grows.more e.grows.removals (omega (arith, h.forward, inside)) in
    let next = cost-front P (start + at + 1) rs new e.grows.more e.grows.removals (omega (arith, inside)) in
    record {
      between = between-at _ _ _ _ e.between one_more;
      begun = e.start ∙ begun;
      limit = e.limit ∙ h.limit;
      forward = omega (arith, h.forward);
      idle = λ none. absurd (omega (arith, ap length (h.idle none), inside));
      grows = grows-more h.grows e.grows;
      listed = listed-grown _ _ h.listed e.grows e.start;
      steps = omega (
        arith,
        e.steps,
        h.steps,
        front,
        next,
        ap (λ p. cost_of p.now (take (start + at) rs)) h.grows.problem,
        ap (λ p. cost_of p.now (take (start + at + 1) rs)) h.grows.problem,
        ap (λ n. cost_of P (take n new)) one_more,
      );
    }

pub overflow_add-start-then-at-most_listed : goal.overflow_add-start-then-at-most_listed
overflow_add-start-then-at-most_listed g c =
    let b = c.work_off.new.self.board in
    let e = c.work_off.ensures in
    omega (arith, e.between.in_log, log-few b e.between.board.traced)

pub loop-self-preserved-then-at-most_listed : goal.loop-self-preserved-then-at-most_listed
loop-self-preserved-then-at-most_listed g c =
    let h = c.loop-self.invariant in
    let e = c.work_off.ensures in
    let P = c.args.self.now.board.problem.now in
    let start = c.loop-self.start in
    let at = c.loop-self.at in
    let rs = c.loop-self.self.board.trail.removals in
    let b = c.work_off.new.self.board in
    let new = b.trail.removals in
    let inside : start + at < length rs = last-in _ _ _ _ _ c.last.ensures.value h.begun (omega arith) in
    let one_more : start + at + 1 ≡ start + (at + 1) + 0 = omega arith in
    let limit : at + 1 ≡ list_limit b.problem.now = omega (arith, c.most_listed-most_listed.ensures.exact, ap (λ p. list_limit p.now) (e.grows.problem ∙ h.grows.problem)) in
    let front = cost-front P c.args.self.now.head rs new e.grows.more e.grows.removals (omega (arith, h.forward, inside)) in
    let next = cost-front P (start + at + 1) rs new e.grows.more e.grows.removals (omega (arith, inside)) in
    rw c.settle.ensures.settled (record {
      between = between-listed b _ _ _ (between-at _ _ _ _ e.between one_more);
      begun = ap (λ n. n + (at + 1)) (e.start ∙ h.begun);
      limit = e.limit ∙ h.limit;
      forward = omega (arith, h.forward);
      idle = λ none. absurd (omega (arith, ap length (h.idle none), inside));
      grows = grows-listed _ b _ (grows-more h.grows e.grows);
      listed = listed-settled b (at + 1) (listed-grown _ _ h.listed e.grows e.start) limit (omega (arith, e.start, h.begun, e.between.in_log));
      steps = omega (
        arith,
        e.steps,
        h.steps,
        front,
        next,
        ap (λ p. cost_of p.now (take (start + at) rs)) h.grows.problem,
        ap (λ p. cost_of p.now (take (start + at + 1) rs)) h.grows.problem,
        ap (λ n. cost_of P (take n new)) one_more,
      );
    })

pub loop-self-smaller-then-at-most_listed : goal.loop-self-smaller-then-at-most_listed
loop-self-smaller-then-at-most_listed g c =
    let h = c.loop-self.invariant in
    let inside : c.loop-self.start + c.loop-self.at < length c.loop-self.self.board.trail.removals = last-in _ _ _ _ _ c.last.ensures.value h.begun (omega arith) in
    omega (arith, log-depth c.loop-self.self.board h.between.board.traced, ap (λ p. depth_of p.now) h.grows.problem, inside)

pub loop-self-smaller : goal.loop-self-smaller
loop-self-smaller g c =
    let h = c.loop-self.invariant in
    let begun = h.begun in
    let inside : c.loop-self.start + c.loop-self.at < length c.loop-self.self.board.trail.removals = last-in _ _ _ _ _ c.last.ensures.value begun (omega arith) in
    omega (arith, log-depth c.loop-self.self.board h.between.board.traced, ap (λ p. depth_of p.now) h.grows.problem, inside)

pub overflow_add-self : goal.overflow_add-self
overflow_add-self g c =
    let h = c.loop-self.invariant in
    omega (arith, h.between.in_log, log-few c.loop-self.self.board h.between.board.traced)

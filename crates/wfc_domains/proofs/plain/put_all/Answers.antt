use Rattle.std.proofs.Common.{◌≡◌, ◌+◌, ◌++◌, ◌∷◌, [], ap, ◌∙◌, sym, arith, length, get_or, take}
use Rattle.std.proofs.lemmas.List.{length_push, take_more}
use Rattle.wfc_problem.specs.declared.Literal.TheVariants.{Is}
use Rattle.wfc_domains.proofs.Boards.{listed-grown, listed-fresh-grown}
use Rattle.wfc_domains.proofs.Sound.{board-alive}
use Rattle.wfc_domains.proofs.Sweeps.{fresh-cut, fresh-first, closed-fresh, closed-later, closed-alive}
use Rattle.wfc_domains.proofs.plain.put_all.Goals as goal

pub close-requires-clause-cut : goal.close-requires-clause-cut
close-requires-clause-cut c = fresh-cut c.args.board.now _ c.requires.fresh

pub loop-literal-init : goal.loop-literal-init
loop-literal-init c =
    let f = c.requires.fresh in
    let e = c.close.ensures in
    let levels = e.grows.levels ∙ f.levels in
    let closed = closed-fresh c.args.board.now c.close.new.board _ f e.board e.cut e.grows.problem e.grows.levels e.consistent (e.first (fresh-first c.args.board.now _ f)) e.dead (listed-fresh-grown c.args.board.now c.close.new.board _ f e.grows e.start) in
    record {
      closed = closed;
      alive = closed-alive c.close.new.board c.args.board.now.problem.now [] closed (ap (λ p. p.now) e.grows.problem) (ap (λ l. l.standing) levels) (c.requires.alive 0 (omega arith));
      problem = e.grows.problem;
      standing = ap (λ l. l.standing) levels;
      spare = omega (arith, ap (λ l. l.spare) levels);
    }

pub put-requires-clause-board : goal.put-requires-clause-board
put-requires-clause-board c =
    let h = c.loop-literal.invariant in
    board-alive c.loop-literal.board h.closed.traced h.closed.levels h.closed.sound h.alive

pub loop-literal-preserved : goal.loop-literal-preserved
loop-literal-preserved c =
    let h = c.loop-literal.invariant in
    let p = c.put.ensures.put in
    let e = c.close-in-loop-literal.ensures in
    let ls = c.args.literals.now in
    let i = c.loop-literal.literal-index in
    let levels = e.grows.levels ∙ p.levels in
    let problem = e.grows.problem ∙ p.problem ∙ h.problem in
    let l = get_or ls i (Is 0 0) in
    let standing : c.close-in-loop-literal.new.board.levels.standing ≡ take (i + 1) ls =
    ap (λ x. x.standing) levels ∙ ap (λ xs. xs ++ l ∷ []) h.standing ∙ sym (take_more ls i (Is 0 0) c.loop-literal-test.true) in
    let closed = closed-later c.close-in-loop-literal.new.board e.board e.cut e.consistent
    (omega (arith, ap (λ x. length x.standing) levels, length_push c.loop-literal.board.levels.standing l)) (listed-grown _ _ c.put.ensures.listed e.grows e.start) in
    record {
      closed = closed;
      alive = closed-alive c.close-in-loop-literal.new.board c.args.board.now.problem.now (take (i + 1) ls) closed (ap (λ q. q.now) problem) standing (c.requires.alive (i + 1) (omega arith));
      problem = problem;
      standing = standing;
      spare = omega (arith, ap (λ x. x.spare) levels, h.spare, c.requires.room);
    }

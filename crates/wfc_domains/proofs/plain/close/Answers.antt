use Rattle.std.proofs.Common.{ap, ◌∙◌, sym, arith}
use Rattle.wfc_problem.specs.Rounds.{depth_of}
use Rattle.wfc_domains.specs.declared.board.Board.{Board}
use Rattle.wfc_domains.proofs.Boards.{grows-more, log-depth}
use Rattle.wfc_domains.proofs.plain.close.Goals as goal

pub loop-board-preserved : goal.loop-board-preserved
loop-board-preserved c =
    let h = c.loop-board.invariant in
    let e = c.sweep.ensures in
    let alive = c.is_alive.ensures.value.0 c.loop-board-test.true in
    record {
      board = e.board;
      cut = e.cut;
      first = λ f. e.first (h.first f);
      grows = grows-more h.grows e.grows;
      start = e.start ∙ h.start;
      dead = λ dead. absurd (dead (ap (λ (x : Board). x.verdict) (sym (h.dead dead)) ∙ alive));
    }

pub loop-board-smaller : goal.loop-board-smaller
loop-board-smaller c =
    let h = c.loop-board.invariant in
    let e = c.sweep.ensures in
    omega (arith, log-depth c.sweep.new.board e.board.traced, ap (λ p. depth_of p.now) e.grows.problem, ap (λ p. depth_of p.now) h.grows.problem, e.more c.if-sweep.false)

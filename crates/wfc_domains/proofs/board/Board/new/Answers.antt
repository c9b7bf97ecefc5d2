use Rattle.std.proofs.Common.{ap, arith}
use Rattle.wfc_domains.specs.declared.board.Board.{Board}
use Rattle.wfc_domains.specs.Board.{IsBoard}
use Rattle.wfc_domains.proofs.Boards.{board-fresh}
use Rattle.wfc_domains.proofs.Sound.{opening-verdict}
use Rattle.wfc_domains.proofs.Problems.{few_pairs, depth-few}
use Rattle.wfc_domains.proofs.board.Board.new.Goals as goal

pub returns-clause-fresh : goal.returns-clause-fresh
returns-clause-fresh c =
    let b : Board = record { problem = c.args.problem; domains = c.in_ok-domains.domains; trail = c.in_ok-trail.trail; levels = c.in_ok-levels.levels; verdict = c.verdict-verdict.result } in
    let log = c.in_ok-trail.ensures.ok in
    let levels = c.in_ok-levels.ensures.ok in
    let told = c.verdict-verdict.ensures in
    let cells = ap (λ d. d.cells) c.in_ok-domains.ensures.ok in
    let none = ap (λ l. l.removals) log in
    let board : IsBoard b = board-fresh b c.depth.ensures.problem c.in_ok-domains.ensures.ok none
    (omega (arith, ap (λ l. l.room) log, c.depth.ensures.value, c.cells.ensures.value)) (ap (λ l. l.extent) log) (ap (λ l. l.standing) levels) (ap (λ l. l.marks) levels)
    (λ alive n l. told.alive alive n (omega arith))
    (λ cell e. let f = told.dead cell e in (omega (arith, f.cell_in), f.empty)) in
    record {
      board = board;
      levels = levels;
      removals = none;
      begun = ap (λ l. l.start) log;
      opening = opening-verdict b board none (λ cell e n l. (told.dead cell e).least n l);
    }

pub overflow_add-depth : goal.overflow_add-depth
overflow_add-depth c =
    let P = c.args.problem.now in
    let p = c.depth.ensures.problem in
    omega (arith, c.depth.ensures.value, depth-few P p, few_pairs P p)

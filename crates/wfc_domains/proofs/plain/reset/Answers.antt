use Rattle.std.proofs.Common.{◌≡◌, ◌+◌, [], length, ap, ◌∙◌, arith}
use Rattle.std.proofs.lemmas.List.{nil_from_length}
use Rattle.wfc_domains.specs.declared.board.Board.{Board}
use Rattle.wfc_domains.specs.Heights.{Heights}
use Rattle.wfc_domains.specs.Board.{IsBoard}
use Rattle.wfc_domains.proofs.Boards.{board-emptied}
use Rattle.wfc_domains.proofs.Sound.{opening-verdict}
use Rattle.wfc_domains.proofs.plain.reset.Goals as goal

pub returns-clause-fresh : goal.returns-clause-fresh
returns-clause-fresh c =
    let h = c.loop-board.invariant in
    let t = h.traced in
    let b : Board = record c.loop-board.board { levels = c.clear.new.self; verdict = c.verdict-board.result } in
    let none : c.loop-board.board.trail.removals ≡ [] = nil_from_length c.loop-board.board.trail.removals (omega (arith, c.len.ensures.value)) in
    let cleared = c.clear.ensures.none in
    let told = c.verdict-board.ensures in
    let board : IsBoard b = board-emptied b (record { problem = t.problem; same_cells = t.same_cells; same_values = t.same_values; whole = t.whole; stands = t.stands; stood = t.stood; room = t.room; extent = t.extent })
    none (ap (λ l. l.standing) cleared) (ap (λ l. l.marks) cleared)
    (λ alive n l. told.alive alive n (omega (arith, t.same_cells)))
    (λ cell e. let f = told.dead cell e in (omega (arith, f.cell_in, t.same_cells), f.empty)) in
    record {
      board = board;
      levels = cleared ∙ ap (λ (l : Heights). record { standing = []; marks = []; spare = l.spare + length l.standing }) h.levels;
      removals = none;
      begun = omega (arith, c.len.ensures.start);
      opening = opening-verdict b board none (λ cell e n l. (told.dead cell e).least n l);
    }

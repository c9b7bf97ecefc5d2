use Rattle.std.proofs.Common.{subst, sym}
use Rattle.wfc_domains.proofs.Boards.{board-board_without, board_without-gone, board_without-stays, stands-in}
use Rattle.wfc_domains.proofs.board.Board.cut_other.Goals as goal
use Rattle.wfc_domains.specs.Board.{IsBoard}

pub returns-then-other-value-clause-board : goal.returns-then-other-value-clause-board
returns-then-other-value-clause-board c =
    let b = c.args.self.now in
    let r = c.remove.ensures.removed in
    let within = stands-in b c.requires.board.traced c.args.cell c.args.other c.requires.stands in
    subst IsBoard (sym r.same) (board-board_without b _ c.args.cell c.args.other _ c.requires.board c.requires.alive r.less within.0 within.1 (c.requires.cut c.if-other-value.true))

pub returns-then-other-value-clause-gone : goal.returns-then-other-value-clause-gone
returns-then-other-value-clause-gone c = λ ne. board_without-gone c.remove.ensures.removed.less

pub returns-then-other-value-clause-stays : goal.returns-then-other-value-clause-stays
returns-then-other-value-clause-stays c = λ k gone. board_without-stays c.args.cell k c.remove.ensures.removed.less gone

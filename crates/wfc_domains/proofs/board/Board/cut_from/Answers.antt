use Rattle.std.proofs.Common.{sym, subst}
use Rattle.wfc_domains.specs.Board.{IsBoard}
use Rattle.wfc_domains.proofs.Boards.{board-board_without, board_without-gone}
use Rattle.wfc_domains.proofs.board.Board.cut_from.Goals as goal

pub returns-then-has-clause-board : goal.returns-then-has-clause-board
returns-then-has-clause-board c =
    let r = c.remove.ensures.removed in
    subst IsBoard (sym r.same) (board-board_without c.args.self.now _ _ _ _ c.requires.board c.requires.alive r.less c.requires.cell_in c.requires.value_in c.requires.cut)

pub returns-then-has-clause-gone : goal.returns-then-has-clause-gone
returns-then-has-clause-gone c = board_without-gone c.remove.ensures.removed.less

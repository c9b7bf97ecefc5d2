use Rattle.std.proofs.Common.{◌≡◌, length}
use Rattle.wfc_domains.specs.Board.{IsTraced}
use Rattle.wfc_domains.proofs.plain.reset.Given as goal

abbrev pub invariant-loop-board : goal.invariant-loop-board
invariant-loop-board l = record {
  traced : IsTraced l.board;
  problem : l.board.problem ≡ l.fn.board.problem;
  levels : l.board.levels ≡ l.fn.board.levels;
}

abbrev pub decreases-loop-board : goal.decreases-loop-board
decreases-loop-board l = length l.board.trail.removals

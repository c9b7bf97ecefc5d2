use Rattle.std.proofs.Common.{◌≡◌, ◌+◌, ◌*◌, length}
use Rattle.wfc_problem.specs.Network.{values}
use Rattle.wfc_domains.specs.Board.{IsBoard, IsCut, Grows}
use Rattle.wfc_domains.specs.Swept.{IsSwept, FirstIsLeast}
use Rattle.wfc_domains.proofs.plain.sweep.Given as goal

abbrev pub invariant-loop-cell : goal.invariant-loop-cell
invariant-loop-cell l = record {
  board : IsBoard l.board;
  cut : IsCut l.board;
  first : FirstIsLeast l.fn.board → FirstIsLeast l.board;
  grows : Grows l.fn.board l.board;
  start : l.board.trail.start ≡ l.fn.board.trail.start;
  swept : IsSwept l.board (length l.fn.board.trail.removals) (l.cell * values l.board.problem.now);
}

abbrev pub invariant-loop-value : goal.invariant-loop-value
invariant-loop-value l = record {
  board : IsBoard l.board;
  cut : IsCut l.board;
  first : FirstIsLeast l.fn.board → FirstIsLeast l.board;
  grows : Grows l.fn.board l.board;
  start : l.board.trail.start ≡ l.fn.board.trail.start;
  swept : IsSwept l.board (length l.fn.board.trail.removals) (l.cell * values l.board.problem.now + l.value);
}

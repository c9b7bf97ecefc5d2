use Rattle.std.proofs.Common.{◌≡◌, ◌-◌, length}
use Rattle.wfc_problem.specs.Rounds.{depth_of}
use Rattle.wfc_log.specs.declared.Verdict.TheVariants.{Alive}
use Rattle.wfc_domains.specs.Board.{IsBoard, IsCut, Grows}
use Rattle.wfc_domains.specs.Swept.{FirstIsLeast}
use Rattle.wfc_domains.proofs.plain.close.Given as goal

abbrev pub invariant-loop-board : goal.invariant-loop-board
invariant-loop-board l = record {
  board : IsBoard l.board;
  cut : IsCut l.board;
  first : FirstIsLeast l.fn.board → FirstIsLeast l.board;
  grows : Grows l.fn.board l.board;
  start : l.board.trail.start ≡ l.fn.board.trail.start;
  dead : (l.fn.board.verdict ≡ Alive → ⊥) → l.board ≡ l.fn.board;
}

-- each sweep but the last removes something, and there are at most as many removals as pairs
abbrev pub decreases-loop-board : goal.decreases-loop-board
decreases-loop-board l = depth_of l.fn.board.problem.now - length l.board.trail.removals

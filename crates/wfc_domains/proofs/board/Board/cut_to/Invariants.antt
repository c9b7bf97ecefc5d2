-- The board holds together, and of the values below the one that is next no other stands.
use Rattle.std.proofs.Common.{IsTrue, ◌-◌, ◌≡◌, ◌≢◌, ◌<◌, ◌≤◌, ℕ, false}
use Rattle.wfc_log.specs.declared.Verdict.TheVariants.{Alive}
use Rattle.wfc_log.specs.Domains.{has}
use Rattle.wfc_domains.specs.Board.{IsBoard, Grows}
use Rattle.wfc_domains.proofs.board.Board.cut_to.Given as goal

abbrev pub invariant-loop-other : goal.invariant-loop-other
invariant-loop-other l = record {
  board : IsBoard l.self;
  gone : (k : ℕ) → k < l.other → k ≢ l.value → has l.self.domains l.cell k ≡ false;
  stands : l.other < l.values → IsTrue (has l.self.domains l.cell l.other);
  grows : Grows l.fn.self l.self;
  start : l.self.trail.start ≡ l.fn.self.trail.start;
}

abbrev pub decreases-loop-other : goal.decreases-loop-other
decreases-loop-other l = l.values - l.other

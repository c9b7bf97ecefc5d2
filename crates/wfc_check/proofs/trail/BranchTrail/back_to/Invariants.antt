use Rattle.std.proofs.Common.{◌≡◌, ◌≤◌, length, take}
use Rattle.wfc_check.proofs.trail.BranchTrail.back_to.Given as goal

abbrev pub invariant-loop-self : goal.invariant-loop-self
invariant-loop-self l = record {
  same : l.self.problem ≡ l.initial.self.problem;
  mark_in : l.mark ≤ length l.self.entries;
  front : take l.mark l.self.entries ≡ take l.mark l.initial.self.entries;
}

abbrev pub decreases-loop-self : goal.decreases-loop-self
decreases-loop-self l = length l.self.entries

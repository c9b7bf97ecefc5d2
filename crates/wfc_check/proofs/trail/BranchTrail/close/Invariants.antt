use Rattle.std.proofs.Common.{◌≡◌, length}
use Rattle.wfc_check.specs.Entries.{waits_of}
use Rattle.wfc_check.proofs.trail.BranchTrail.close.Given as goal

abbrev pub invariant-loop-entry : goal.invariant-loop-entry
invariant-loop-entry l = record {
  same : l.self.problem ≡ l.initial.self.problem;
  waiting : waits_of l.self ≡ waits_of l.initial.self;
}

abbrev pub decreases-loop-entry : goal.decreases-loop-entry
decreases-loop-entry l = length l.self.entries

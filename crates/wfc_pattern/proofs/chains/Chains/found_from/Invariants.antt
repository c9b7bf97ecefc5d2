use Rattle.std.proofs.Common.{◌≡◌, ◌≢◌, ℕ, ◌-◌, ◌<◌, ◌≤◌, ◌%◌, length, slice_index}
use Rattle.wfc_pattern.specs.Chains.{hashes_of}
use Rattle.wfc_pattern.proofs.chains.Chains.found_from.Given as goal

abbrev pub invariant-loop-place : goal.invariant-loop-place
invariant-loop-place l = record {
  within : l.place ≤ l.initial.place;
  there : 0 < l.place → slice_index (hashes_of l.self.links.items) (l.place - 1) % length l.self.heads.items ≡ l.hash % length l.self.heads.items;
  last : (k : ℕ) → l.place ≤ k → k < l.initial.place → slice_index (hashes_of l.self.links.items) k ≢ l.hash;
}

abbrev pub decreases-loop-place : goal.decreases-loop-place
decreases-loop-place l = l.place

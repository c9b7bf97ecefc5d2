use Rattle.std.proofs.Common.{◌≡◌, ◌+◌, ◌≤◌, ℕ, length, get_or}
use Rattle.wfc_ac4.specs.Links.{all_upto}
use Rattle.wfc_ac4.proofs.links.Links.new.Given as goal

-- the values so far have their links
abbrev pub invariant-loop-value : goal.invariant-loop-value
invariant-loop-value l = record {
  sized : length l.starts.items ≡ l.value + 1;
  starts : (v : ℕ) → v ≤ l.value → get_or l.starts.items v 0 ≡ length (all_upto l.problem v);
  links : l.links.items ≡ all_upto l.problem l.value;
}

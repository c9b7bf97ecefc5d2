use Rattle.std.proofs.Common.{◌≡◌, ℕ, ◌%◌, ◌<◌, false, get_or}
use Rattle.wfc_domains.proofs.singles.has_zero.Given as goal

abbrev pub invariant-loop-entry : goal.invariant-loop-entry
invariant-loop-entry l = l.found ≡ false → (k : ℕ) → k < l.entry-index → 0 < get_or l.entries k 0 % 128

-- No flag is set from where it began up to where it is.
use Rattle.std.proofs.Common.{◌-◌, ◌≡◌, ◌<◌, ◌≤◌, ℕ, false, slice_index_or}
use Rattle.wfc_log.proofs.bits.Bits.next.Given as goal

abbrev pub invariant-loop-at : goal.invariant-loop-at
invariant-loop-at l = (l.fn.from ≤ l.at) × ((k : ℕ) → l.fn.from ≤ k → k < l.at → k < l.fn.end → slice_index_or l.fn.self k false ≡ false)

abbrev pub decreases-loop-at : goal.decreases-loop-at
decreases-loop-at l = l.end - l.at

use Rattle.std.proofs.Common.{ℕ, ◌/◌, ◌%◌, ◌<◌, ◌≤◌, get_or}
use Rattle.wfc_domains.proofs.pairs.has_zero_half.Given as goal

-- no count in the bytes so far is below the least
abbrev pub invariant-loop-byte : goal.invariant-loop-byte
invariant-loop-byte l = (k : ℕ) → k < l.byte-index → (l.least ≤ get_or l.bytes k 0 % 8) × (l.least ≤ get_or l.bytes k 0 / 16 % 8)

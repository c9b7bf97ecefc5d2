use Rattle.std.proofs.Common.{◌≡◌, ℕ, ◌<◌, false, nat_lt, get_or}
use Rattle.wfc_ppm.specs.Fault.{pairs_of}
use Rattle.wfc_ppm.proofs.raw.first_pair_above.Given as goal

abbrev pub invariant-loop-index : goal.invariant-loop-index
invariant-loop-index l = (k : ℕ) → k < l.index → nat_lt l.maxval (get_or (pairs_of l.bytes) k 0) ≡ false

use Rattle.std.proofs.Common.{◌≢◌, ℕ, ◌*◌, ◌<◌, ◌≤◌, get_or}
use Rattle.wfc_choose.specs.declared.index.TheConstants.{FAN}
use Rattle.wfc_choose.proofs.index.first_below.Given as goal

-- the entries of the block so far are others
abbrev pub invariant-loop-at : goal.invariant-loop-at
invariant-loop-at l = (j : ℕ) → l.block * FAN ≤ j → j < l.at → get_or l.below j 0 ≢ l.least

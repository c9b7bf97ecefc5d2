use Rattle.wfc_choose.proofs.IndexLemmas.{IsLeastBelow}
use Rattle.wfc_choose.proofs.index.least_of.Given as goal

-- the time that comes first in the block so far is known
abbrev pub invariant-loop-at : goal.invariant-loop-at
invariant-loop-at l = IsLeastBelow l.list l.block l.at l.least

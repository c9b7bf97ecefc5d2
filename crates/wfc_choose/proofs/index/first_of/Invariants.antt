use Rattle.wfc_choose.proofs.IndexLemmas.{IsFirstBelow}
use Rattle.wfc_choose.proofs.index.first_of.Given as goal

-- the first of the entries so far is known
abbrev pub invariant-loop-at : goal.invariant-loop-at
invariant-loop-at l = IsFirstBelow l.list l.at l.first

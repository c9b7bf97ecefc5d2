use Rattle.wfc_choose.specs.Pick.{IsBestBelow}
use Rattle.wfc_choose.proofs.scanning.best_of.Given as goal

-- the best of the cells before this one is known
abbrev pub invariant-loop-cell : goal.invariant-loop-cell
invariant-loop-cell l = IsBestBelow (record { kind = l.kind; ranks = l.ranks }) l.sizes l.cell l.best

use Rattle.std.proofs.Common.{◌≤◌, length, take}
use Rattle.wfc_choose.specs.Told.{Told}
use Rattle.wfc_domains.specs.Store.{StoreView, before_of}
use Rattle.wfc_search.proofs.Told.{AreTold}
use Rattle.wfc_search.proofs.follow.tell_restored.Given as goal

-- the cells of which no earlier removal is have their first sizes again
abbrev pub invariant-loop-at : goal.invariant-loop-at
invariant-loop-at g l =
    let told : Told = (goal.Chooser-dyn g (l.chooser.vtable, l.chooser.value)).told l.chooser.value in
    let first : Told = (goal.Chooser-dyn g (l.fn.chooser.vtable, l.fn.chooser.value)).told l.fn.chooser.value in
    let store : StoreView = g.S.Store.view l.store in
    record {
      within : l.at ≤ length l.added;
      told : AreTold store.problem (before_of store) (take l.at l.added) first.rule told;
    }

abbrev pub decreases-loop-at : goal.decreases-loop-at
decreases-loop-at g l = l.at

use Rattle.std.proofs.Common.{drop}
use Rattle.wfc_choose.specs.Told.{Told}
use Rattle.wfc_domains.specs.Store.{StoreView, left_of}
use Rattle.wfc_search.proofs.Told.{AreTold}
use Rattle.wfc_search.proofs.follow.tell_changed.Given as goal

-- the cells of which no removal comes any more have their last sizes
abbrev pub invariant-loop-removal : goal.invariant-loop-removal
invariant-loop-removal g l =
    let told : Told = (goal.Chooser-dyn g (l.chooser.vtable, l.chooser.value)).told l.chooser.value in
    let first : Told = (goal.Chooser-dyn g (l.fn.chooser.vtable, l.fn.chooser.value)).told l.fn.chooser.value in
    let store : StoreView = g.S.Store.view l.store in
    AreTold store.problem (left_of store) (drop l.removal-index l.added) first.rule told

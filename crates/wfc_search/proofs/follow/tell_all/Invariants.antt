use Rattle.wfc_choose.specs.Told.{Told}
use Rattle.wfc_domains.specs.Store.{StoreView, left_of}
use Rattle.wfc_search.proofs.Told.{AreFirstTold}
use Rattle.wfc_search.proofs.follow.tell_all.Given as goal

-- the cells before this one have their sizes
abbrev pub invariant-loop-cell : goal.invariant-loop-cell
invariant-loop-cell g l =
    let told : Told = (goal.Chooser-dyn g (l.chooser.vtable, l.chooser.value)).told l.chooser.value in
    let first : Told = (goal.Chooser-dyn g (l.fn.chooser.vtable, l.fn.chooser.value)).told l.fn.chooser.value in
    let store : StoreView = g.S.Store.view l.store in
    AreFirstTold store.problem (left_of store) l.cell first.rule told

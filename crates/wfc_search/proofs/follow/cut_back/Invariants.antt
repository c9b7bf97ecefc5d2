use Rattle.std.proofs.Common.{◌≡◌, ◌≤◌, length}
use Rattle.wfc_choose.specs.Told.{Told}
use Rattle.wfc_domains.specs.Store.{StoreView}
use Rattle.wfc_search.specs.Follow.{Keeps, IsCutBack}
use Rattle.wfc_search.proofs.follow.cut_back.Given as goal

-- the last ones are taken away, and no more than were to be
abbrev pub invariant-loop-store : goal.invariant-loop-store
invariant-loop-store g l =
    let now : StoreView = g.S.Store.view l.store in
    let first : StoreView = g.S.Store.view l.fn.store in
    let told : Told = (goal.Chooser-dyn g (l.chooser.vtable, l.chooser.value)).told l.chooser.value in
    let told_first : Told = (goal.Chooser-dyn g (l.fn.chooser.vtable, l.fn.chooser.value)).told l.fn.chooser.value in
    record {
      cut : IsCutBack first now (length now.standing);
      enough : l.keep ≤ length now.standing;
      keeps : Keeps now told;
      rule : told.rule ≡ told_first.rule;
    }

abbrev pub decreases-loop-store : goal.decreases-loop-store
decreases-loop-store g l = length (g.S.Store.view l.store).standing

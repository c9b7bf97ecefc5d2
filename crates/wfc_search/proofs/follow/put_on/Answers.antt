use Rattle.std.proofs.Common.{sym, ◌∙◌, ap}
use Rattle.wfc_domains.specs.Store.{StoreView, before_of}
use Rattle.wfc_problem.specs.Network.{Network}
use Rattle.wfc_problem.specs.Sizes.{sizes_of}
use Rattle.wfc_search.proofs.Stores.{before_put_on}
use Rattle.wfc_search.proofs.follow.put_on.Goals as goal

pub tell_removed-requires-clause-sizes : goal.tell_removed-requires-clause-sizes
tell_removed-requires-clause-sizes g c =
    let old : StoreView = g.S.Store.view c.args.store.now in
    let new : StoreView = g.S.Store.view c.assume.new.self in
    c.requires.keeps.sizes
    ∙ ap (sizes_of old.problem) (sym (before_put_on old new _ c.requires.keeps.sound c.assume.ensures.sound c.requires.alive c.assume.ensures.assumed.problem c.assume.ensures.assumed.standing))
    ∙ ap (λ (P : Network). sizes_of P (before_of new)) (sym c.assume.ensures.assumed.problem)

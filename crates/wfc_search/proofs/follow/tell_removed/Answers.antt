use Rattle.std.proofs.Common.{◌∙◌, ap, length}
use Rattle.wfc_domains.specs.Store.{StoreView, before_of}
use Rattle.wfc_problem.proofs.CallerLemmas.{length-sizes_of}
use Rattle.wfc_search.proofs.follow.tell_removed.Goals as goal

pub tell_all-requires-clause-cells : goal.tell_all-requires-clause-cells
tell_all-requires-clause-cells g c =
    let store : StoreView = g.S.Store.view c.args.store.now in
    ap length c.requires.sizes ∙ length-sizes_of store.problem (before_of store)

use Rattle.wfc_choose.specs.Told.{Told}
use Rattle.wfc_domains.specs.Store.{StoreView}
use Rattle.wfc_problem.specs.Network.{Network}
use Rattle.wfc_search.proofs.Values.{found_map, first_found}
use Rattle.wfc_search.proofs.search.Search.value_at.Goals as goal

pub returns : goal.returns
returns g c =
    let P : Network = c.args.self.now.problem.now in
    let store : StoreView = g.S.Store.view c.args.self.now.store in
    let told : Told = (goal.Chooser-dyn g (c.args.self.now.chooser.vtable, c.args.self.now.chooser.value)).told c.args.self.now.chooser.value in
    let found = found_map P store told c.args.self.now.course c.requires.ready c.requires.map in
    record {
      value = first_found P store found _ c.domains.ensures.value c.domains.ensures.stands c.args.cell c.next.result c.requires.cell_in c.requires.ready.problem c.next.ensures.within c.next.ensures.gone c.next.ensures.stands;
      legal = found.legal;
    }

use Rattle.wfc_search.specs.Search.{SearchView}
use Rattle.wfc_search.specs.Shown.{view_of_search}
use Rattle.wfc_search.proofs.Searches.{ready_alive, pick_open, choice_known}
use Rattle.wfc_search.proofs.search.Search.choose.Goals as goal

pub draw-value-requires-clause-cell_in : goal.draw-value-requires-clause-cell_in
draw-value-requires-clause-cell_in g c =
    let old : SearchView = view_of_search g.S.Store.view c.args.self.now ((goal.Chooser-dyn g (c.args.self.now.chooser.vtable, c.args.self.now.chooser.value)).told c.args.self.now.chooser.value) in
    (pick_open old.problem old.chooser.rule old.store old.chooser c.args.cell (ready_alive old.problem old.store old.chooser old.course c.requires.ready c.requires.alive) c.requires.picked).1

pub draw-value-requires-clause-some : goal.draw-value-requires-clause-some
draw-value-requires-clause-some g c =
    let old : SearchView = view_of_search g.S.Store.view c.args.self.now ((goal.Chooser-dyn g (c.args.self.now.chooser.vtable, c.args.self.now.chooser.value)).told c.args.self.now.chooser.value) in
    rw c.domains.ensures.stands
    (pick_open old.problem old.chooser.rule old.store old.chooser c.args.cell (ready_alive old.problem old.store old.chooser old.course c.requires.ready c.requires.alive) c.requires.picked).2

pub put_on-requires-clause-literal_in : goal.put_on-requires-clause-literal_in
put_on-requires-clause-literal_in g c =
    let old : SearchView = view_of_search g.S.Store.view c.args.self.now ((goal.Chooser-dyn g (c.args.self.now.chooser.vtable, c.args.self.now.chooser.value)).told c.args.self.now.chooser.value) in
    (choice_known old _ (g.R.Rng.stream c.args.words.now) (g.R.Rng.stream c.next_u64-word.new.self) c.args.cell c.draw-value.result c.next_u64-word.result
    c.requires.ready c.requires.alive c.requires.picked c.domains.ensures.stands c.next_u64-word.ensures c.draw-value.ensures.exact).in_problem

pub put_on-requires-clause-spare : goal.put_on-requires-clause-spare
put_on-requires-clause-spare g c =
    let old : SearchView = view_of_search g.S.Store.view c.args.self.now ((goal.Chooser-dyn g (c.args.self.now.chooser.vtable, c.args.self.now.chooser.value)).told c.args.self.now.chooser.value) in
    (choice_known old _ (g.R.Rng.stream c.args.words.now) (g.R.Rng.stream c.next_u64-word.new.self) c.args.cell c.draw-value.result c.next_u64-word.result
    c.requires.ready c.requires.alive c.requires.picked c.domains.ensures.stands c.next_u64-word.ensures c.draw-value.ensures.exact).room

pub returns-clause-turn : goal.returns-clause-turn
returns-clause-turn g c =
    let old : SearchView = view_of_search g.S.Store.view c.args.self.now ((goal.Chooser-dyn g (c.args.self.now.chooser.vtable, c.args.self.now.chooser.value)).told c.args.self.now.chooser.value) in
    (choice_known old _ (g.R.Rng.stream c.args.words.now) (g.R.Rng.stream c.next_u64-word.new.self) c.args.cell c.draw-value.result c.next_u64-word.result
    c.requires.ready c.requires.alive c.requires.picked c.domains.ensures.stands c.next_u64-word.ensures c.draw-value.ensures.exact).turn (g.S.Store.view c.put_on.new.store) c.put_on.ensures.put_on.standing

pub returns-clause-ready : goal.returns-clause-ready
returns-clause-ready g c =
    let old : SearchView = view_of_search g.S.Store.view c.args.self.now ((goal.Chooser-dyn g (c.args.self.now.chooser.vtable, c.args.self.now.chooser.value)).told c.args.self.now.chooser.value) in
    (choice_known old _ (g.R.Rng.stream c.args.words.now) (g.R.Rng.stream c.next_u64-word.new.self) c.args.cell c.draw-value.result c.next_u64-word.result
    c.requires.ready c.requires.alive c.requires.picked c.domains.ensures.stands c.next_u64-word.ensures c.draw-value.ensures.exact).ready (g.S.Store.view c.put_on.new.store) _ c.requires.going c.put_on.ensures.put_on c.put_on.ensures.keeps

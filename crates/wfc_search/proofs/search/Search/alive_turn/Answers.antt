use Rattle.std.proofs.Common.{ap, sym, ◌∙◌}
use Rattle.wfc_choose.specs.Pick.{picked_cell}
use Rattle.wfc_choose.specs.Told.{Told}
use Rattle.wfc_domains.specs.Store.{StoreView}
use Rattle.wfc_problem.specs.Network.{Network}
use Rattle.wfc_search.specs.Search.{state_at}
use Rattle.wfc_search.specs.declared.course.Course.{Course}
use Rattle.wfc_search.proofs.Made.{made_map}
use Rattle.wfc_search.proofs.Searches.{IsAlive, ready_alive}
use Rattle.wfc_search.proofs.search.Search.alive_turn.Goals as goal

pub returns-in-None-clause-turn : goal.returns-in-None-clause-turn
returns-in-None-clause-turn g c draws =
    let P : Network = c.args.self.now.problem.now in
    let store : StoreView = g.S.Store.view c.args.self.now.store in
    let course : Course = c.args.self.now.course in
    let told : Told = (goal.Chooser-dyn g (c.args.self.now.chooser.vtable, c.args.self.now.chooser.value)).told c.args.self.now.chooser.value in
    let alive : IsAlive P store told = ready_alive P store told course c.requires.ready c.requires.alive in
    made_map P told.rule course.budget (state_at store course draws (g.R.Rng.stream c.args.words.now)) alive.alive (ap (picked_cell told.rule) (sym alive.sizes) ∙ sym c.in-None.ensures.value)

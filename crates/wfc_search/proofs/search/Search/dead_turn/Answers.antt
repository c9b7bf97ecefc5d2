use Rattle.std.proofs.Common.{ap, sym, ◌∙◌, take}
use Rattle.wfc_domains.specs.Store.{StoreView}
use Rattle.wfc_problem.specs.Network.{Network}
use Rattle.wfc_search.specs.Run.{last_choice}
use Rattle.wfc_search.specs.Search.{state_at}
use Rattle.wfc_search.specs.declared.course.Course.{Course}
use Rattle.wfc_search.proofs.Made.{made_no_map, made_spent}
use Rattle.wfc_search.proofs.search.Search.dead_turn.Goals as goal

pub returns-in-None-clause-turn : goal.returns-in-None-clause-turn
returns-in-None-clause-turn g c words draws =
    let P : Network = c.args.self.now.problem.now in
    let store : StoreView = g.S.Store.view c.args.self.now.store in
    let course : Course = c.args.self.now.course in
    made_no_map P _ course.budget (state_at store course draws words) c.requires.dead (ap last_choice (sym c.standing.ensures.value) ∙ sym c.in-None.ensures.last)

pub returns-then-self-clause-turn : goal.returns-then-self-clause-turn
returns-then-self-clause-turn g c words draws =
    let P : Network = c.args.self.now.problem.now in
    let store : StoreView = g.S.Store.view c.args.self.now.store in
    let course : Course = c.args.self.now.course in
    made_spent P _ course.budget (state_at store course draws words) (record { before = take c.in-Some.last.at c.standing.result.now; cell = c.in-Some.last.cell; value = c.in-Some.last.value })
    c.requires.dead (ap last_choice (sym c.standing.ensures.value) ∙ sym c.in-Some.ensures.last) c.if-self.true

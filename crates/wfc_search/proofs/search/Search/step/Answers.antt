use Rattle.std.proofs.Common.{ap, subst, sym, Option}
use Rattle.wfc_choose.specs.Told.{Told}
use Rattle.wfc_domains.specs.Store.{StoreView}
use Rattle.wfc_problem.specs.Network.{Network}
use Rattle.wfc_search.specs.Search.{HoldsBetween}
use Rattle.wfc_search.specs.declared.course.Course.{Course}
use Rattle.wfc_search.specs.declared.Outcome.{Outcome}
use Rattle.wfc_search.proofs.Searches.{ready_problem, turn_ready, turn_cut_off}
use Rattle.wfc_search.proofs.search.Search.step.Goals as goal

pub returns-in-Err-tell_turn-clause-failed :
    goal.returns-in-Err-tell_turn-clause-failed
returns-in-Err-tell_turn-clause-failed g c =
    let P : Network = c.args.self.now.problem.now in
    let old : StoreView = g.S.Store.view c.args.self.now.store in
    let new : StoreView = g.S.Store.view c.turn-turn.new.self.store in
    let told : Told = (goal.Chooser-dyn g (c.args.self.now.chooser.vtable, c.args.self.now.chooser.value)).told c.args.self.now.chooser.value in
    let after : Told = (goal.Chooser-dyn g (c.turn-turn.new.self.chooser.vtable, c.turn-turn.new.self.chooser.value)).told c.turn-turn.new.self.chooser.value in
    turn_cut_off P told.rule old new after c.args.self.now.course c.turn-turn.new.self.course (g.R.Rng.stream c.args.words.now) (g.R.Rng.stream c.turn-turn.new.words) c.turn-turn.result _ _ _
    c.turn-turn.ensures.turn (subst (λ (Q : Network). HoldsBetween Q new after c.turn-turn.new.self.course) c.turn-turn.ensures.kept.problem c.turn-turn.ensures.ready) c.in_default.ensures.ok c.in-Err-tell_turn.ensures.failed

pub returns-clause-ready : goal.returns-clause-ready
returns-clause-ready g c =
    let P : Network = c.args.self.now.problem.now in
    let old : StoreView = g.S.Store.view c.args.self.now.store in
    let new : StoreView = g.S.Store.view c.turn-turn.new.self.store in
    let course : Course = c.args.self.now.course in
    let next : Course = c.turn-turn.new.self.course in
    let told : Told = (goal.Chooser-dyn g (c.args.self.now.chooser.vtable, c.args.self.now.chooser.value)).told c.args.self.now.chooser.value in
    let after : Told = (goal.Chooser-dyn g (c.turn-turn.new.self.chooser.vtable, c.turn-turn.new.self.chooser.value)).told c.turn-turn.new.self.chooser.value in
    let ready : HoldsBetween P new after next = subst (λ (Q : Network). HoldsBetween Q new after next) c.turn-turn.ensures.kept.problem c.turn-turn.ensures.ready in
    let done = turn_ready P (ready_problem P old told course c.requires.ready) told.rule old new after course next (g.R.Rng.stream c.args.words.now) (g.R.Rng.stream c.turn-turn.new.words) c.turn-turn.result
    c.requires.ready.between c.turn-turn.ensures.turn ready (ap (λ (k : Course). k.budget) c.turn-turn.ensures.kept.course) in
    subst (λ (Q : Network). HoldsBetween Q new after (record next { outcome = c.outcome-self.result })) (sym c.turn-turn.ensures.kept.problem)
    (subst (λ (o : Option Outcome). HoldsBetween P new after (record next { outcome = o })) (sym c.outcome-self.ensures.value) done)

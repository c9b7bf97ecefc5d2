use Rattle.std.proofs.Common.{◌<◌, ◌+◌, ◌++◌, ◌∷◌, [], List, refl, ap, subst, sym, ◌∙◌, arith}
use Rattle.wfc_choose.specs.Told.{Told}
use Rattle.wfc_domains.specs.Store.{StoreView}
use Rattle.wfc_problem.specs.Network.{Network, values}
use Rattle.wfc_problem.specs.declared.Literal.{Literal}
use Rattle.wfc_problem.specs.declared.Literal.TheVariants.{Not}
use Rattle.wfc_search.specs.declared.course.Course.{Course}
use Rattle.wfc_search.proofs.Searches.{Retracts, no_words, ready_problem, retraction_in_problem, retraction_made, retraction_ready}
use Rattle.wfc_search.proofs.search.Search.retract.Goals as goal

pub put_on-requires-clause-literal_in : goal.put_on-requires-clause-literal_in
put_on-requires-clause-literal_in g c =
    let P : Network = c.args.self.now.problem.now in
    let old : StoreView = g.S.Store.view c.args.self.now.store in
    let r : Retracts P old c.args.self.now.course c.args.last = record { dead = c.requires.dead; found = c.requires.last; within = c.requires.within; left = c.requires.left } in
    let p = ready_problem P old _ _ c.requires.ready in
    subst (λ (Q : Network). (c.args.last.cell < Q.cells) × (c.args.last.value < values Q)) (sym (c.cut_back.ensures.cut_back.problem ∙ c.requires.ready.problem))
    (retraction_in_problem P p old c.args.self.now.course c.args.last r c.requires.ready.between)

pub overflow_add-self : goal.overflow_add-self
overflow_add-self g c = omega (arith, c.requires.ready.between.within, c.requires.left, c.requires.few)

pub returns-clause-turn : goal.returns-clause-turn
returns-clause-turn g c words =
    let P : Network = c.args.self.now.problem.now in
    let old : StoreView = g.S.Store.view c.args.self.now.store in
    let new : StoreView = g.S.Store.view c.put_on.new.store in
    let course : Course = c.args.self.now.course in
    let r : Retracts P old course c.args.last = record { dead = c.requires.dead; found = c.requires.last; within = c.requires.within; left = c.requires.left } in
    retraction_made P _ old new course (record course { retractions = course.retractions + 1 }) words c.args.last r
    (c.put_on.ensures.put_on.standing ∙ ap (λ (ls : List Literal). ls ++ Not c.args.last.value c.args.last.cell ∷ []) c.cut_back.ensures.cut_back.standing) refl

pub returns-clause-ready : goal.returns-clause-ready
returns-clause-ready g c =
    let P : Network = c.args.self.now.problem.now in
    let old : StoreView = g.S.Store.view c.args.self.now.store in
    let mid : StoreView = g.S.Store.view c.cut_back.new.store in
    let new : StoreView = g.S.Store.view c.put_on.new.store in
    let course : Course = c.args.self.now.course in
    let told : Told = (goal.Chooser-dyn g (c.args.self.now.chooser.vtable, c.args.self.now.chooser.value)).told c.args.self.now.chooser.value in
    let r : Retracts P old course c.args.last = record { dead = c.requires.dead; found = c.requires.last; within = c.requires.within; left = c.requires.left } in
    let p = ready_problem P old _ _ c.requires.ready in
    retraction_ready P p told.rule old mid new _ _ course (record course { retractions = course.retractions + 1 }) no_words c.args.last r
    c.requires.ready c.requires.going c.cut_back.ensures.cut_back c.put_on.ensures.put_on c.put_on.ensures.keeps refl

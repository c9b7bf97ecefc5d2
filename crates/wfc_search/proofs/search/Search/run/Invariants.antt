use Rattle.wfc_search.specs.Between.{work_left}
use Rattle.wfc_search.specs.Search.{SearchView}
use Rattle.wfc_search.specs.Shown.{view_of_search}
use Rattle.wfc_search.proofs.RunTurns.{IsMidway}
use Rattle.wfc_search.proofs.search.Search.run.Given as goal

-- the end from here is the end from the start, and the turns up to here were told
abbrev pub invariant-loop-turn : goal.invariant-loop-turn
invariant-loop-turn g l =
    let first : SearchView = view_of_search g.S.Store.view l.fn.self ((goal.Chooser-dyn g (l.fn.self.chooser.vtable, l.fn.self.chooser.value)).told l.fn.self.chooser.value) in
    let now : SearchView = view_of_search g.S.Store.view l.self ((goal.Chooser-dyn g (l.self.chooser.vtable, l.self.chooser.value)).told l.self.chooser.value) in
    IsMidway first now (g.R.Rng.stream l.fn.words) (g.R.Rng.stream l.words) (g.J.Journal.seen l.fn.journal) (g.J.Journal.seen l.journal)

abbrev pub decreases-loop-turn : goal.decreases-loop-turn
decreases-loop-turn g l = work_left l.fn.self.problem.now l.fn.self.course.budget (g.S.Store.view l.self.store).standing l.self.course.retractions

use Rattle.wfc_search.specs.Search.{SearchView}
use Rattle.wfc_search.specs.Shown.{view_of_search}
use Rattle.std.proofs.lemmas.Bool.{false≢true}
use Rattle.wfc_search.proofs.Lines.{on_err_of}
use Rattle.wfc_search.proofs.RunTurns.{midway_first, midway_falls, midway_next, midway_last, midway_cut_off}
use Rattle.wfc_search.proofs.search.Search.run.Goals as goal

pub loop-turn-init : goal.loop-turn-init
loop-turn-init g c =
    let first : SearchView = view_of_search g.S.Store.view c.args.self.now ((goal.Chooser-dyn g (c.args.self.now.chooser.vtable, c.args.self.now.chooser.value)).told c.args.self.now.chooser.value) in
    midway_first first (g.R.Rng.stream c.args.words.now) (g.J.Journal.seen c.args.journal.now) c.requires.ready c.requires.going c.requires.journal

pub loop-turn-smaller : goal.loop-turn-smaller
loop-turn-smaller g c =
    let first : SearchView = view_of_search g.S.Store.view c.args.self.now ((goal.Chooser-dyn g (c.args.self.now.chooser.vtable, c.args.self.now.chooser.value)).told c.args.self.now.chooser.value) in
    let now : SearchView = view_of_search g.S.Store.view c.loop-turn.self ((goal.Chooser-dyn g (c.loop-turn.self.chooser.vtable, c.loop-turn.self.chooser.value)).told c.loop-turn.self.chooser.value) in
    let next : SearchView = view_of_search g.S.Store.view c.step.new.self ((goal.Chooser-dyn g (c.step.new.self.chooser.vtable, c.step.new.self.chooser.value)).told c.step.new.self.chooser.value) in
    midway_falls first now next (g.R.Rng.stream c.args.words.now) (g.R.Rng.stream c.loop-turn.words) (g.R.Rng.stream c.step.new.words)
    (g.J.Journal.seen c.args.journal.now) (g.J.Journal.seen c.loop-turn.journal) c.in_ok-turn.turn c.loop-turn.invariant c.in_ok-turn.ensures.turn c.in_default.not-Ended

pub loop-turn-preserved : goal.loop-turn-preserved
loop-turn-preserved g c =
    let first : SearchView = view_of_search g.S.Store.view c.args.self.now ((goal.Chooser-dyn g (c.args.self.now.chooser.vtable, c.args.self.now.chooser.value)).told c.args.self.now.chooser.value) in
    let now : SearchView = view_of_search g.S.Store.view c.loop-turn.self ((goal.Chooser-dyn g (c.loop-turn.self.chooser.vtable, c.loop-turn.self.chooser.value)).told c.loop-turn.self.chooser.value) in
    let next : SearchView = view_of_search g.S.Store.view c.step.new.self ((goal.Chooser-dyn g (c.step.new.self.chooser.vtable, c.step.new.self.chooser.value)).told c.step.new.self.chooser.value) in
    let e = c.in_ok-turn.ensures in
    midway_next first now next (g.R.Rng.stream c.args.words.now) (g.R.Rng.stream c.loop-turn.words) (g.R.Rng.stream c.step.new.words)
    (g.J.Journal.seen c.args.journal.now) (g.J.Journal.seen c.loop-turn.journal) (g.J.Journal.seen c.step.new.journal) c.in_ok-turn.turn c.loop-turn.invariant
    (record { turn_is = e.turn; outcome_is = e.outcome; ready = e.ready; told = e.told; whole = λ t. false≢true (e.broken.0 t); problem = e.problem; rule = e.rule; budget = e.budget })
    c.in_default.not-Ended

pub returns-in_err-turn-clause-failed : goal.returns-in_err-turn-clause-failed
returns-in_err-turn-clause-failed g c =
    let first : SearchView = view_of_search g.S.Store.view c.args.self.now ((goal.Chooser-dyn g (c.args.self.now.chooser.vtable, c.args.self.now.chooser.value)).told c.args.self.now.chooser.value) in
    let now : SearchView = view_of_search g.S.Store.view c.loop-turn.self ((goal.Chooser-dyn g (c.loop-turn.self.chooser.vtable, c.loop-turn.self.chooser.value)).told c.loop-turn.self.chooser.value) in
    on_err_of _ (midway_cut_off first now (g.S.Store.view c.step.new.self.store) (g.R.Rng.stream c.args.words.now) (g.R.Rng.stream c.loop-turn.words)
    (g.J.Journal.seen c.args.journal.now) (g.J.Journal.seen c.loop-turn.journal) (g.J.Journal.seen c.step.new.journal) c.loop-turn.invariant c.in_err-turn.ensures.failed)

pub returns-in-Ended-clause-end : goal.returns-in-Ended-clause-end
returns-in-Ended-clause-end g c =
    let first : SearchView = view_of_search g.S.Store.view c.args.self.now ((goal.Chooser-dyn g (c.args.self.now.chooser.vtable, c.args.self.now.chooser.value)).told c.args.self.now.chooser.value) in
    let now : SearchView = view_of_search g.S.Store.view c.loop-turn.self ((goal.Chooser-dyn g (c.loop-turn.self.chooser.vtable, c.loop-turn.self.chooser.value)).told c.loop-turn.self.chooser.value) in
    let next : SearchView = view_of_search g.S.Store.view c.step.new.self ((goal.Chooser-dyn g (c.step.new.self.chooser.vtable, c.step.new.self.chooser.value)).told c.step.new.self.chooser.value) in
    let e = c.in_ok-turn.ensures in
    (midway_last first now next (g.R.Rng.stream c.args.words.now) (g.R.Rng.stream c.loop-turn.words) (g.R.Rng.stream c.step.new.words)
    (g.J.Journal.seen c.args.journal.now) (g.J.Journal.seen c.loop-turn.journal) (g.J.Journal.seen c.step.new.journal) c.in_ok-turn.turn c.in-Ended.outcome
    c.loop-turn.invariant e.turn e.told c.in-Ended.is).end

pub returns-in-Ended-clause-enough : goal.returns-in-Ended-clause-enough
returns-in-Ended-clause-enough g c =
    let first : SearchView = view_of_search g.S.Store.view c.args.self.now ((goal.Chooser-dyn g (c.args.self.now.chooser.vtable, c.args.self.now.chooser.value)).told c.args.self.now.chooser.value) in
    let now : SearchView = view_of_search g.S.Store.view c.loop-turn.self ((goal.Chooser-dyn g (c.loop-turn.self.chooser.vtable, c.loop-turn.self.chooser.value)).told c.loop-turn.self.chooser.value) in
    let next : SearchView = view_of_search g.S.Store.view c.step.new.self ((goal.Chooser-dyn g (c.step.new.self.chooser.vtable, c.step.new.self.chooser.value)).told c.step.new.self.chooser.value) in
    let e = c.in_ok-turn.ensures in
    λ le same. (midway_last first now next (g.R.Rng.stream c.args.words.now) (g.R.Rng.stream c.loop-turn.words) (g.R.Rng.stream c.step.new.words)
    (g.J.Journal.seen c.args.journal.now) (g.J.Journal.seen c.loop-turn.journal) (g.J.Journal.seen c.step.new.journal) c.in_ok-turn.turn c.in-Ended.outcome
    c.loop-turn.invariant e.turn e.told c.in-Ended.is).enough le (let e = same in cc)

pub returns-in-Ended-clause-told : goal.returns-in-Ended-clause-told
returns-in-Ended-clause-told g c =
    let first : SearchView = view_of_search g.S.Store.view c.args.self.now ((goal.Chooser-dyn g (c.args.self.now.chooser.vtable, c.args.self.now.chooser.value)).told c.args.self.now.chooser.value) in
    let now : SearchView = view_of_search g.S.Store.view c.loop-turn.self ((goal.Chooser-dyn g (c.loop-turn.self.chooser.vtable, c.loop-turn.self.chooser.value)).told c.loop-turn.self.chooser.value) in
    let next : SearchView = view_of_search g.S.Store.view c.step.new.self ((goal.Chooser-dyn g (c.step.new.self.chooser.vtable, c.step.new.self.chooser.value)).told c.step.new.self.chooser.value) in
    let e = c.in_ok-turn.ensures in
    (midway_last first now next (g.R.Rng.stream c.args.words.now) (g.R.Rng.stream c.loop-turn.words) (g.R.Rng.stream c.step.new.words)
    (g.J.Journal.seen c.args.journal.now) (g.J.Journal.seen c.loop-turn.journal) (g.J.Journal.seen c.step.new.journal) c.in_ok-turn.turn c.in-Ended.outcome
    c.loop-turn.invariant e.turn e.told c.in-Ended.is).told

use Rattle.wfc_domains.specs.Changes.{plain_entry, AreChanged}
use Rattle.wfc_domains.proofs.FormLemmas.{paired_related, alone_related}
use Rattle.wfc_domains.proofs.Marking.{unmarks_changed}
use Rattle.wfc_domains.proofs.counters.Counters.unmark.Goals as goal

pub returns-then-self : goal.returns-then-self
returns-then-self c =
    let a = c.self.inside in
    let start = c.first_place-start.result in
    let at = rw (← c.self.view_is) at c.first_place-start.ensures.value in
    let now = paired_related (λ xs ys. AreChanged plain_entry xs ys start a.dirs) a.is_paired a.pairs c.unmark.new.self a.singles c.if-self.true c.unmark.ensures.unmarked in
    rw (← c.self.view_is) (record { unmarks = unmarks_changed a.cells a.values a.dirs _ _ start c.args.cell c.args.value at now.0 now.1 })

pub returns-then-is_narrow : goal.returns-then-is_narrow
returns-then-is_narrow c =
    let a = c.self.inside in
    let start = c.first_place-start.result in
    let at = rw (← c.self.view_is) at c.first_place-start.ensures.value in
    let now = alone_related (λ xs ys. AreChanged plain_entry xs ys start a.dirs) a.is_paired a.pairs a.singles c.unmark-then-is_narrow.new.self c.if-self.false c.unmark-then-is_narrow.ensures.limit c.unmark-then-is_narrow.ensures.unmarked in
    rw (← c.self.view_is) (record { unmarks = unmarks_changed a.cells a.values a.dirs _ _ start c.args.cell c.args.value at now.0 now.1 })

use Rattle.std.proofs.Common.{◌*◌}
use Rattle.wfc_domains.proofs.FormLemmas.{even_rows, form_paired, form_alone}
use Rattle.wfc_domains.proofs.Loading.{row_some}
use Rattle.wfc_domains.proofs.counters.Counters.has_none.Goals as goal

pub has_none-requires-clause-even : goal.has_none-requires-clause-even
has_none-requires-clause-even c =
    let a = c.self.inside in
    let even = c.self.invariant.even c.if-self.true in
    (even_rows c.args.cell (a.values * a.dirs) even, even)

pub returns-then-self : goal.returns-then-self
returns-then-self c =
    let a = c.self.inside in
    let form = form_paired a.is_paired a.pairs a.singles c.if-self.true in
    rw (← c.self.view_is) (record { some = λ none. rw form (row_some a.values a.dirs c.args.cell a.pairs (c.has_none.ensures.some none)) })

pub returns-else-self : goal.returns-else-self
returns-else-self c =
    let a = c.self.inside in
    let form = form_alone a.is_paired a.pairs a.singles c.if-self.false in
    rw (← c.self.view_is) (record { some = λ none. rw form (row_some a.values a.dirs c.args.cell a.singles.entries (c.has_none-else-self.ensures.some none)) })

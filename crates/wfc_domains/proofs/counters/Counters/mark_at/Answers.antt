use Rattle.std.proofs.Common.{subst, sym, arith}
use Rattle.wfc_domains.specs.Changes.{marked_entry, AreChanged}
use Rattle.wfc_domains.proofs.FormLemmas.{form_alone, paired_related, alone_related}
use Rattle.wfc_domains.proofs.Marking.{marks_changed}
use Rattle.wfc_domains.proofs.Places.{rows_in}
use Rattle.wfc_domains.proofs.counters.Counters.mark_at.Goals as goal

pub mark-requires-else-self-eq4-2-clause-start_in : goal.mark-requires-else-self-eq4-2-clause-start_in
mark-requires-else-self-eq4-2-clause-start_in c =
    let a = c.self.inside in
    let h = c.self.invariant in
    let hc = rw (← c.self.view_is) at c.requires.cell_in in
    let hv = rw (← c.self.view_is) at c.requires.value_in in
    let at = rw (← c.self.view_is) at c.requires.start in
    let form = form_alone a.is_paired a.pairs a.singles c.if-self.false in
    let whole = rw form at h.whole in
    omega (arith, at, whole, rows_in a.values a.dirs c.args.cell c.args.value a.cells hc hv (h.sides (omega (arith, hc))))

pub returns-then-self-eq4 : goal.returns-then-self-eq4
returns-then-self-eq4 c =
    let a = c.self.inside in
    let hc = rw (← c.self.view_is) at c.requires.cell_in in
    let hv = rw (← c.self.view_is) at c.requires.value_in in
    let at = rw (← c.self.view_is) at c.requires.start in
    let now = paired_related (λ xs ys. AreChanged marked_entry xs ys c.args.start a.dirs) a.is_paired a.pairs c.mark_four.new.self a.singles c.if-self.true (subst (AreChanged marked_entry a.pairs c.mark_four.new.self c.args.start) (sym c.if-self-eq4.true) c.mark_four.ensures.marked) in
    rw (← c.self.view_is) (record { marks = marks_changed a.cells a.values a.dirs _ _ c.args.start c.args.cell c.args.value at hc hv now.0 now.1 })

pub returns-else-self-eq4 : goal.returns-else-self-eq4
returns-else-self-eq4 c =
    let a = c.self.inside in
    let hc = rw (← c.self.view_is) at c.requires.cell_in in
    let hv = rw (← c.self.view_is) at c.requires.value_in in
    let at = rw (← c.self.view_is) at c.requires.start in
    let now = paired_related (λ xs ys. AreChanged marked_entry xs ys c.args.start c.self.inside.dirs) a.is_paired a.pairs c.mark.new.self a.singles c.if-self.true c.mark.ensures.marked in
    rw (← c.self.view_is) (record { marks = marks_changed a.cells a.values a.dirs _ _ c.args.start c.args.cell c.args.value at hc hv now.0 now.1 })

pub returns-then-self-eq4-2 : goal.returns-then-self-eq4-2
returns-then-self-eq4-2 c =
    let a = c.self.inside in
    let hc = rw (← c.self.view_is) at c.requires.cell_in in
    let hv = rw (← c.self.view_is) at c.requires.value_in in
    let at = rw (← c.self.view_is) at c.requires.start in
    let now = alone_related (λ xs ys. AreChanged marked_entry xs ys c.args.start a.dirs) a.is_paired a.pairs a.singles c.mark_four-then-self-eq4-2.new.self c.if-self.false c.mark_four-then-self-eq4-2.ensures.limit (subst (AreChanged marked_entry a.singles.entries c.mark_four-then-self-eq4-2.new.self.entries c.args.start) (sym c.if-self-eq4-2.true) c.mark_four-then-self-eq4-2.ensures.marked) in
    rw (← c.self.view_is) (record { marks = marks_changed a.cells a.values a.dirs _ _ c.args.start c.args.cell c.args.value at hc hv now.0 now.1 })

pub returns-else-self-eq4-2 : goal.returns-else-self-eq4-2
returns-else-self-eq4-2 c =
    let a = c.self.inside in
    let hc = rw (← c.self.view_is) at c.requires.cell_in in
    let hv = rw (← c.self.view_is) at c.requires.value_in in
    let at = rw (← c.self.view_is) at c.requires.start in
    let now = alone_related (λ xs ys. AreChanged marked_entry xs ys c.args.start c.self.inside.dirs) a.is_paired a.pairs a.singles c.mark-else-self-eq4-2.new.self c.if-self.false c.mark-else-self-eq4-2.ensures.limit c.mark-else-self-eq4-2.ensures.marked in
    rw (← c.self.view_is) (record { marks = marks_changed a.cells a.values a.dirs _ _ c.args.start c.args.cell c.args.value at hc hv now.0 now.1 })

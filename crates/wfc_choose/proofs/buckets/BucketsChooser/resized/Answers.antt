use Rattle.std.proofs.Common.{ℕ, ◌/◌, ◌<◌, List, length, sym, ◌∙◌, ap, subst, arith}
use Rattle.std.proofs.lemmas.List.{get_or_default}
use Rattle.wfc_choose.specs.Index.{time_of, IsIndex}
use Rattle.wfc_choose.specs.declared.index.TheConstants.{FAN}
use Rattle.wfc_choose.proofs.IndexLemmas.{index_stays, set_back}
use Rattle.wfc_choose.proofs.buckets.BucketsChooser.resized.Goals as goal

pub invariant_of-self : goal.invariant_of-self
invariant_of-self c =
    let a = c.self.inside in
    let cell = c.args.cell in
    let l = rw (← c.self.view_is) at c.requires.cell_in in
    let up : cell / FAN < length a.blocks.items = omega (arith, l, c.self.invariant.blocks.long) in
    let first = c.index.ensures ∙ get_or_default a.blocks.items (cell / FAN) c.index.result.now 0 up in
    let was = c.index-was.ensures ∙ get_or_default a.sizes.items cell c.index-was.result.now 0 l in
    index_stays a.sizes.items a.blocks.items a.areas.items a.regions.items cell c.args.size l c.self.invariant
    (omega (arith, c.if-least-time_of.true, c.time_of-least.ensures.value, c.time_of.ensures.value, ap time_of first))
    (omega (arith, c.if-least-time_of-2.true, c.time_of-least.ensures.value, c.time_of-then-least-time_of.ensures.value, ap time_of first, ap time_of was))

pub mend_above-requires-clause-before : goal.mend_above-requires-clause-before
mend_above-requires-clause-before c =
    let a = c.self.inside in
    let cell = c.args.cell in
    let l = rw (← c.self.view_is) at c.requires.cell_in in
    let was = c.index-was.ensures ∙ get_or_default a.sizes.items cell c.index-was.result.now 0 l in
    let back = sym (set_back a.sizes.items cell c.args.size) in
    rw c.deref.ensures.value (rw c.deref_mut.ensures.value (rw c.deref_mut-2.ensures.value (rw c.deref_mut-3.ensures.value (rw was
    (subst (λ (xs : List ℕ). IsIndex xs a.blocks.items a.areas.items a.regions.items) back c.self.invariant)))))

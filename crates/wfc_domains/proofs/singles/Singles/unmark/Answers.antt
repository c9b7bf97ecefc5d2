use Rattle.std.proofs.Common.{◌≤◌, ◌+◌, ◌%◌, ℕ, ◌∙◌, length, ap, subst, sym, refl, inl, arith}
use Rattle.std.specs.Prelude.{slice_index}
use Rattle.wfc_domains.specs.Singles.{IsCountSplit}
use Rattle.std.proofs.lemmas.List.{with_items_is}
use Rattle.wfc_domains.specs.Changes.{plain_entry, AreChanged}
use Rattle.wfc_domains.specs.Halves.{entries_from}
use Rattle.wfc_domains.proofs.HalfLemmas.{halves-length, none-limit, narrow-plain, narrow-changed, split-changed, alone-written}
use Rattle.wfc_domains.proofs.singles.Singles.unmark.Goals as goal

pub invariant_of-self : goal.invariant_of-self
invariant_of-self c =
    let a = c.self.inside in
    let given = rw (← c.self.view_is) at c.requires.start_in in
    let none = none-limit a.large.items (rw (← c.self.view_is) at c.requires.narrow) in
    let inside : c.args.start + c.args.count ≤ length a.small.items = omega (arith, given, halves-length a.small.items a.large.items) in
    let parts = alone-written (λ small. small % 128) a.small.items c.deref_mut.result.now c.unmark_parts.new.parts c.args.start c.args.count c.deref_mut.ensures.value inside c.unmark_parts.ensures.unmarked in
    let same = with_items_is a.small _ (parts.same_length ∙ sym a.small.ok.0) in
    record {
      both = inl none;
      each = subst (λ xs. (i : ℕ) → IsCountSplit (slice_index xs i) (slice_index a.large.items i)) (sym same) (split-changed (λ small. small % 128) a.small.items _ a.large.items c.args.start c.args.count (λ s. omega arith) none parts c.self.invariant.each);
    }

pub returns : goal.returns
returns c =
    let a = c.self.inside in
    let given = rw (← c.self.view_is) at c.requires.start_in in
    let none = none-limit a.large.items (rw (← c.self.view_is) at c.requires.narrow) in
    let inside : c.args.start + c.args.count ≤ length a.small.items = omega (arith, given, halves-length a.small.items a.large.items) in
    let parts = alone-written (λ small. small % 128) a.small.items c.deref_mut.result.now c.unmark_parts.new.parts c.args.start c.args.count c.deref_mut.ensures.value inside c.unmark_parts.ensures.unmarked in
    let same = with_items_is a.small _ (parts.same_length ∙ sym a.small.ok.0) in
    let after = narrow-changed (λ small. small % 128) plain_entry a.small.items _ a.large.items c.args.start c.args.count narrow-plain none inside parts in
    rw (← c.self.view_is) (record { limit = refl; unmarked = subst (λ xs. AreChanged plain_entry (entries_from a.small.items a.large.items) (entries_from xs a.large.items) c.args.start c.args.count) (sym same) after })

pub overflow_add-start : goal.overflow_add-start
overflow_add-start c =
    let a = c.self.inside in
    let given = rw (← c.self.view_is) at c.requires.start_in in
    omega (arith, given, halves-length a.small.items a.large.items, a.small.ok.0, a.small.small)

pub slice_bounds-unmark_parts-end : goal.slice_bounds-unmark_parts-end
slice_bounds-unmark_parts-end c =
    let a = c.self.inside in
    let given = rw (← c.self.view_is) at c.requires.start_in in
    omega (arith, given, halves-length a.small.items a.large.items, ap length c.deref_mut.ensures.value)

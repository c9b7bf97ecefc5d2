use Rattle.std.proofs.Common.{length, ap, subst, sym, arith}
use Rattle.std.proofs.lemmas.List.{with_items_is}
use Rattle.wfc_domains.specs.Changes.{marked_entry, AreChanged}
use Rattle.wfc_domains.specs.Pairs.{paired_entries}
use Rattle.wfc_domains.proofs.PairLemmas.{paired-length}
use Rattle.wfc_domains.proofs.pairs.Pairs.mark.Goals as goal

pub mark_halves-requires : goal.mark_halves-requires
mark_halves-requires c =
    let bs = c.self.inside.bytes.items in
    let given = rw (← c.self.view_is) at c.requires.start_in in
    record { start_in = omega (arith, given, paired-length bs, ap length c.deref_mut.ensures.value) }

pub returns : goal.returns
returns c =
    let v = c.self.inside.bytes in
    let after = subst (λ xs. AreChanged marked_entry (paired_entries xs) (paired_entries c.mark_halves.new.bytes) c.args.start c.args.count) c.deref_mut.ensures.value c.mark_halves.ensures.marked in
    let same = with_items_is v c.mark_halves.new.bytes (omega (arith, after.same_length, paired-length v.items, paired-length c.mark_halves.new.bytes, v.ok.0)) in
    rw (← c.self.view_is) (record { marked = subst (λ xs. AreChanged marked_entry (paired_entries v.items) (paired_entries xs) c.args.start c.args.count) (sym same) after })

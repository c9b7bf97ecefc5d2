use Rattle.std.proofs.Common.{length, ap, subst, sym, arith}
use Rattle.std.proofs.lemmas.List.{with_items_is}
use Rattle.wfc_domains.specs.Changes.{plain_entry, AreChanged}
use Rattle.wfc_domains.specs.Pairs.{paired_entries}
use Rattle.wfc_domains.proofs.PairLemmas.{paired-length}
use Rattle.wfc_domains.proofs.pairs.Pairs.unmark.Goals as goal

pub unmark_halves-requires : goal.unmark_halves-requires
unmark_halves-requires c =
    let bs = c.self.inside.bytes.items in
    let given = rw (← c.self.view_is) at c.requires.start_in in
    record { start_in = omega (arith, given, paired-length bs, ap length c.deref_mut.ensures.value) }

pub returns : goal.returns
returns c =
    let v = c.self.inside.bytes in
    let after = subst (λ xs. AreChanged plain_entry (paired_entries xs) (paired_entries c.unmark_halves.new.bytes) c.args.start c.args.count) c.deref_mut.ensures.value c.unmark_halves.ensures.unmarked in
    let same = with_items_is v c.unmark_halves.new.bytes (omega (arith, after.same_length, paired-length v.items, paired-length c.unmark_halves.new.bytes, v.ok.0)) in
    rw (← c.self.view_is) (record { unmarked = subst (λ xs. AreChanged plain_entry (paired_entries v.items) (paired_entries xs) c.args.start c.args.count) (sym same) after })

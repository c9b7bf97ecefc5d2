use Rattle.std.proofs.Common.{◌/◌, length, ap, subst, sym, arith}
use Rattle.std.proofs.lemmas.List.{with_items_is}
use Rattle.wfc_domains.specs.Loaded.{IsRowCopied}
use Rattle.wfc_domains.specs.Pairs.{paired_entries}
use Rattle.wfc_domains.proofs.PairLemmas.{paired-length, paired-copied}
use Rattle.wfc_domains.proofs.pairs.Pairs.copy.Goals as goal

pub copy_row-requires-clause-dest_in : goal.copy_row-requires-clause-dest_in
copy_row-requires-clause-dest_in c =
    let bs = c.self.inside.bytes.items in
    let given = rw (← c.self.view_is) at c.requires.dest_in in
    omega (arith, given, paired-length bs, ap length c.deref_mut.ensures.value, c.requires.even.1, c.requires.even.2)

pub returns : goal.returns
returns c =
    let v = c.self.inside.bytes in
    let given = rw (← c.self.view_is) at c.requires.dest_in in
    let bytes = subst (λ xs. IsRowCopied xs c.copy_row.new.bytes (c.args.start / 2) (c.args.row / 2) (c.args.dest / 2)) c.deref_mut.ensures.value c.copy_row.ensures.copied in
    let after = paired-copied v.items c.copy_row.new.bytes c.args.start c.args.row c.args.dest c.requires.even.0 c.requires.even.1 c.requires.even.2 c.requires.before (omega (arith, given, paired-length v.items)) bytes in
    let same = with_items_is v c.copy_row.new.bytes (omega (arith, bytes.same_length, v.ok.0)) in
    rw (← c.self.view_is) (record { copied = subst (λ xs. IsRowCopied (paired_entries v.items) (paired_entries xs) c.args.start c.args.row c.args.dest) (sym same) after })

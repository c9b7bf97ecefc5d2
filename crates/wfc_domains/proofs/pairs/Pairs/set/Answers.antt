use Rattle.std.proofs.Common.{◌*◌, ◌/◌, ◌<◌, ◌∙◌, length, set, ap, subst, arith}
use Rattle.std.proofs.lemmas.List.{get_or_read}
use Rattle.wfc_domains.specs.Pairs.{paired_entries}
use Rattle.wfc_domains.proofs.PairLemmas.{IsWritten, paired-length, paired-written, entry-small}
use Rattle.wfc_domains.proofs.pairs.Pairs.set.Goals as goal

pub index-byte-requires : goal.index-byte-requires
index-byte-requires c =
    let a = c.self.inside in
    let given = rw (← c.self.view_is) at c.requires.place_in in
    omega (arith, given, paired-length a.bytes.items, a.bytes.ok.0)

pub index_mut-requires : goal.index_mut-requires
index_mut-requires c =
    let a = c.self.inside in
    let given = rw (← c.self.view_is) at c.requires.place_in in
    omega (arith, given, paired-length a.bytes.items, a.bytes.ok.0)

pub returns : goal.returns
returns c =
    let bs = c.self.inside.bytes.items in
    let i = c.args.place in
    let b = c.index-byte.result.now in
    let given = rw (← c.self.view_is) at c.requires.place_in in
    let inside : i < 2 * length bs = omega (arith, given, paired-length bs) in
    let read = get_or_read bs (i / 2) b (omega (arith, inside)) c.index-byte.ensures 0 in
    let written : IsWritten b c.with_half.result i c.args.count = record { here = c.with_half.ensures.here; other = c.with_half.ensures.other } in
    rw (← c.self.view_is) (record {
      changed = paired-written bs i c.with_half.result c.args.count inside (subst (λ x. IsWritten x c.with_half.result i c.args.count) read written)
          ∙ ap (set (paired_entries bs) i) (entry-small c.args.count (omega (arith, c.requires.limit)));
    })

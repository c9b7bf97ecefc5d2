use Rattle.std.proofs.Common.{◌*◌, ◌/◌, ◌%◌, ◌<◌, ◌∙◌, length, sym, ap, arith}
use Rattle.std.proofs.lemmas.List.{get_or_read}
use Rattle.wfc_domains.proofs.PairLemmas.{paired-length, count-at}
use Rattle.wfc_domains.proofs.pairs.Pairs.count.Goals as goal

pub index-requires : goal.index-requires
index-requires c =
    let a = c.self.inside in
    let given = rw (← c.self.view_is) at c.requires.place_in in
    omega (arith, given, paired-length a.bytes.items, a.bytes.ok.0)

pub returns : goal.returns
returns c =
    let bs = c.self.inside.bytes.items in
    let i = c.args.place in
    let given = rw (← c.self.view_is) at c.requires.place_in in
    let inside : i < 2 * length bs = omega (arith, given, paired-length bs) in
    let read = get_or_read bs (i / 2) c.index.result.now (omega (arith, inside)) c.index.ensures 0 in
    rw (← c.self.view_is) (record { value = ap (λ h. h % 8) c.half_at.ensures.value ∙ sym (count-at bs i c.index.result.now inside read) })

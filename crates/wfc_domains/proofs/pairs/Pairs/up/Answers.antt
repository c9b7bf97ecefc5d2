use Rattle.std.proofs.Common.{◌*◌, ◌/◌, ◌<◌, length, arith}
use Rattle.std.proofs.lemmas.List.{get_or_read}
use Rattle.wfc_domains.proofs.PairLemmas.{paired-length, count-at, more-room, more-paired}
use Rattle.wfc_domains.proofs.pairs.Pairs.up.Goals as goal

pub index-requires : goal.index-requires
index-requires c =
    let a = c.self.inside in
    let given = rw (← c.self.view_is) at c.requires.place_in in
    omega (arith, given, paired-length a.bytes.items, a.bytes.ok.0)

pub overflow_add-more : goal.overflow_add-more
overflow_add-more c =
    let bs = c.self.inside.bytes.items in
    let i = c.args.place in
    let b = c.index.result.now in
    let given = rw (← c.self.view_is) at c.requires.place_in in
    let inside : i < 2 * length bs = omega (arith, given, paired-length bs) in
    let few = rw (← c.self.view_is) at c.requires.limit in
    let read = get_or_read bs (i / 2) b (omega (arith, inside)) c.index.ensures 0 in
    omega (arith, more-room b c.unit_at.result i (omega arith) c.unit_at.ensures.value (omega (arith, few, count-at bs i b inside read)))

pub index_mut-requires : goal.index_mut-requires
index_mut-requires c =
    let a = c.self.inside in
    let given = rw (← c.self.view_is) at c.requires.place_in in
    omega (arith, given, paired-length a.bytes.items, a.bytes.ok.0)

pub returns : goal.returns
returns c =
    let bs = c.self.inside.bytes.items in
    let i = c.args.place in
    let b = c.index.result.now in
    let given = rw (← c.self.view_is) at c.requires.place_in in
    let inside : i < 2 * length bs = omega (arith, given, paired-length bs) in
    let few = rw (← c.self.view_is) at c.requires.limit in
    let read = get_or_read bs (i / 2) b (omega (arith, inside)) c.index.ensures 0 in
    rw (← c.self.view_is) (record { changed = more-paired bs i b c.unit_at.result inside read c.unit_at.ensures.value few })

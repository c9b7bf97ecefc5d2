use Rattle.std.proofs.Common.{◌*◌, ◌/◌, ◌<◌, length, arith}
use Rattle.std.proofs.lemmas.List.{get_or_read}
use Rattle.wfc_domains.proofs.PairLemmas.{paired-length, count-at, less-room, less-paired, bare-paired}
use Rattle.wfc_domains.proofs.pairs.Pairs.down.Goals as goal

pub index-requires : goal.index-requires
index-requires c =
    let a = c.self.inside in
    let given = rw (← c.self.view_is) at c.requires.place_in in
    omega (arith, given, paired-length a.bytes.items, a.bytes.ok.0)

pub overflow_sub-left : goal.overflow_sub-left
overflow_sub-left c =
    let bs = c.self.inside.bytes.items in
    let i = c.args.place in
    let given = rw (← c.self.view_is) at c.requires.place_in in
    let inside : i < 2 * length bs = omega (arith, given, paired-length bs) in
    let some = rw (← c.self.view_is) at c.requires.some in
    let read = get_or_read bs (i / 2) c.index.result.now (omega (arith, inside)) c.index.ensures 0 in
    less-room c.index.result.now c.args.unit i c.requires.unit (omega (arith, some, count-at bs i c.index.result.now inside read))

pub index_mut-requires : goal.index_mut-requires
index_mut-requires c =
    let a = c.self.inside in
    let given = rw (← c.self.view_is) at c.requires.place_in in
    omega (arith, given, paired-length a.bytes.items, a.bytes.ok.0)

pub returns : goal.returns
returns c =
    let bs = c.self.inside.bytes.items in
    let i = c.args.place in
    let b = c.index.result.now in
    let given = rw (← c.self.view_is) at c.requires.place_in in
    let inside : i < 2 * length bs = omega (arith, given, paired-length bs) in
    let some = rw (← c.self.view_is) at c.requires.some in
    let read = get_or_read bs (i / 2) b (omega (arith, inside)) c.index.ensures 0 in
    rw (← c.self.view_is) (record {
      bare = bare-paired bs i b c.args.unit c.args.mask inside read (omega arith) c.requires.unit c.requires.mask some;
      changed = less-paired bs i b c.args.unit inside read c.requires.unit some;
    })

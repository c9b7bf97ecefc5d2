use Rattle.std.proofs.Common.{◌≡◌, ◌%◌, ◌<◌, ◌≤◌, length, get_or, sym, ◌∙◌, ap, arith}
use Rattle.wfc_domains.specs.Halves.{narrow_entry, wide_entry, entries_from}
use Rattle.std.proofs.lemmas.List.{get_or_read}
use Rattle.wfc_domains.proofs.HalfLemmas.{halves-length, narrow-at, wide-at, narrow-count}
use Rattle.wfc_domains.proofs.singles.Singles.count.Goals as goal

pub returns-then-place-len : goal.returns-then-place-len
returns-then-place-len c =
    let a = c.self.inside in
    let ss = a.small.items in
    let ls = a.large.items in
    let i = c.args.place in
    let given = rw (← c.self.view_is) at c.requires.place_in in
    let inside : i < length ss = omega (arith, given, halves-length ss ls) in
    let there : i < length ls = omega (arith, c.if-place-len.true, c.len.ensures, a.large.ok.0) in
    let s = c.index.result.now in
    let read : s ≡ get_or ss i 0 = get_or_read ss i s inside c.index.ensures 0 in
    let l = c.index-then-place-len.result.now in
    let read_large : l ≡ get_or ls i 0 = get_or_read ls i l there c.index-then-place-len.ensures 0 in
    let entry : get_or (entries_from ss ls) i 0 ≡ wide_entry (get_or ss i 0) (get_or ls i 0) = wide-at ss ls i inside there in
    let few = (c.self.invariant.each i).limit in
    let below : get_or (entries_from ss ls) i 0 < 32768 = omega (arith, entry, few) in
    rw (← c.self.view_is) (record { value = omega (arith, entry, below, read, read_large, c.from-small.ensures, c.from.ensures) })

pub returns-else-place-len : goal.returns-else-place-len
returns-else-place-len c =
    let a = c.self.inside in
    let ss = a.small.items in
    let ls = a.large.items in
    let i = c.args.place in
    let given = rw (← c.self.view_is) at c.requires.place_in in
    let inside : i < length ss = omega (arith, given, halves-length ss ls) in
    let past : length ls ≤ i = omega (arith, c.if-place-len.false, c.len.ensures, a.large.ok.0) in
    let s = c.index.result.now in
    let read : s ≡ get_or ss i 0 = get_or_read ss i s inside c.index.ensures 0 in
    let entry : get_or (entries_from ss ls) i 0 ≡ narrow_entry s = narrow-at ss ls i inside past ∙ ap narrow_entry (sym read) in
    let count = ap (λ x. x % 32768) entry ∙ narrow-count s ∙ ap (λ x. x % 128) (sym c.from-small.ensures) in
    rw (← c.self.view_is) (record { value = sym count })

pub index-requires : goal.index-requires
index-requires c =
    let a = c.self.inside in
    let given = rw (← c.self.view_is) at c.requires.place_in in
    omega (arith, given, halves-length a.small.items a.large.items, a.small.ok.0)

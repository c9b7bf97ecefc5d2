use Rattle.std.proofs.Common.{◌≡◌, ◌-◌, ◌*◌, ◌<◌, ◌≤◌, length, set, ◌∙◌, ap, arith}
use Rattle.wfc_domains.specs.Halves.{wide_entry, entries_from, limit_from}
use Rattle.wfc_domains.proofs.HalfLemmas.{halves-length, narrow-set, wide-both, narrow-small, limit-set, limit-none, past-none}
use Rattle.wfc_domains.proofs.singles.Singles.set.Goals as goal

pub returns-then-place-len : goal.returns-then-place-len
returns-then-place-len c =
    let a = c.self.inside in
    let ss = a.small.items in
    let ls = a.large.items in
    let i = c.args.place in
    let given = rw (← c.self.view_is) at c.requires.place_in in
    let inside : i < length ss = omega (arith, given, halves-length ss ls) in
    let n = c.args.count in
    let l = c.large_part-large.result in
    let there : i < length ls = omega (arith, c.if-place-len.true, c.len.ensures, a.large.ok.0) in
    let is : wide_entry (n - 255 * l) l ≡ n = omega (arith, c.large_part-large.ensures.room) in
    let counts = wide-both ss ls i (n - 255 * l) l there ∙ ap (set (entries_from ss ls) i) is in
    let limits = limit-set ls i l in
    rw (← c.self.view_is) (record { changed = λ j. record { limit = limits j; entries = counts j } })

pub returns-else-place-len : goal.returns-else-place-len
returns-else-place-len c =
    let a = c.self.inside in
    let ss = a.small.items in
    let ls = a.large.items in
    let i = c.args.place in
    let given = rw (← c.self.view_is) at c.requires.place_in in
    let inside : i < length ss = omega (arith, given, halves-length ss ls) in
    let n = c.args.count in
    let limit = rw (← c.self.view_is) at c.requires.limit in
    let past : length ls ≤ i = omega (arith, c.if-place-len.false, c.len.ensures, a.large.ok.0) in
    let few : n < 128 = omega (arith, limit, limit-none ls (past-none ss ls i c.self.invariant.both inside past)) in
    let counts = narrow-set ss ls i n past ∙ ap (set (entries_from ss ls) i) (narrow-small n few) in
    rw (← c.self.view_is) (record { changed = λ j. record { limit = limit_from ls; entries = counts j } })

pub index_mut-requires-else-place-len : goal.index_mut-requires-else-place-len
index_mut-requires-else-place-len c =
    let a = c.self.inside in
    let given = rw (← c.self.view_is) at c.requires.place_in in
    omega (arith, given, halves-length a.small.items a.large.items, a.small.ok.0)

pub overflow_cast-count-else-place-len : goal.overflow_cast-count-else-place-len
overflow_cast-count-else-place-len c =
    let a = c.self.inside in
    let ss = a.small.items in
    let ls = a.large.items in
    let i = c.args.place in
    let given = rw (← c.self.view_is) at c.requires.place_in in
    let inside : i < length ss = omega (arith, given, halves-length ss ls) in
    let limit = rw (← c.self.view_is) at c.requires.limit in
    let past : length ls ≤ i = omega (arith, c.if-place-len.false, c.len.ensures, a.large.ok.0) in
    omega (arith, limit, limit-none ls (past-none ss ls i c.self.invariant.both inside past))

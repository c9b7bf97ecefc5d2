use Rattle.std.proofs.Common.{◌≡◌, ◌-◌, ◌<◌, length, get_or, set, sym, ◌∙◌, ap, arith}
use Rattle.wfc_domains.specs.Halves.{entries_from, limit_from}
use Rattle.std.proofs.lemmas.Bool.{true≢false}
use Rattle.std.proofs.lemmas.List.{get_or_read}
use Rattle.wfc_domains.proofs.HalfLemmas.{halves-length, less-some, less-entries, one-parts, spent}
use Rattle.wfc_domains.proofs.singles.Singles.down.Goals as goal

pub index-requires : goal.index-requires
index-requires c =
    let a = c.self.inside in
    let ss = a.small.items in
    let ls = a.large.items in
    let i = c.args.place in
    let given = rw (← c.self.view_is) at c.requires.place_in in
    let inside : i < length ss = omega (arith, given, halves-length ss ls) in
    omega (arith, inside, a.small.ok.0)

pub overflow_sub-left : goal.overflow_sub-left
overflow_sub-left c =
    let a = c.self.inside in
    let ss = a.small.items in
    let ls = a.large.items in
    let i = c.args.place in
    let given = rw (← c.self.view_is) at c.requires.place_in in
    let inside : i < length ss = omega (arith, given, halves-length ss ls) in
    let some = rw (← c.self.view_is) at c.requires.some in
    let s = c.index.result.now in
    let read : s ≡ get_or ss i 0 = get_or_read ss i s inside c.index.ensures 0 in
    omega (arith, less-some ss ls i inside (c.self.invariant.each i) some, read)

pub index_mut-requires : goal.index_mut-requires
index_mut-requires c =
    let a = c.self.inside in
    let ss = a.small.items in
    let ls = a.large.items in
    let i = c.args.place in
    let given = rw (← c.self.view_is) at c.requires.place_in in
    let inside : i < length ss = omega (arith, given, halves-length ss ls) in
    omega (arith, inside, a.small.ok.0)

pub returns-then-left-ne0-clause-bare : goal.returns-then-left-ne0-clause-bare
returns-then-left-ne0-clause-bare c =
    let a = c.self.inside in
    let ss = a.small.items in
    let ls = a.large.items in
    let i = c.args.place in
    let given = rw (← c.self.view_is) at c.requires.place_in in
    let inside : i < length ss = omega (arith, given, halves-length ss ls) in
    let some = rw (← c.self.view_is) at c.requires.some in
    let s = c.index.result.now in
    let read : s ≡ get_or ss i 0 = get_or_read ss i s inside c.index.ensures 0 in
    rw (← c.self.view_is) ((λ t. absurd (true≢false (sym t))), (λ h. absurd (omega (arith, (one-parts ss ls i inside h).0, read, c.if-left-ne0.true))))

pub returns-then-left-ne0-clause-changed : goal.returns-then-left-ne0-clause-changed
returns-then-left-ne0-clause-changed c =
    let a = c.self.inside in
    let ss = a.small.items in
    let ls = a.large.items in
    let i = c.args.place in
    let given = rw (← c.self.view_is) at c.requires.place_in in
    let inside : i < length ss = omega (arith, given, halves-length ss ls) in
    let some = rw (← c.self.view_is) at c.requires.some in
    let s = c.index.result.now in
    let read : s ≡ get_or ss i 0 = get_or_read ss i s inside c.index.ensures 0 in
    let counts : entries_from (set ss i (s - 1)) ls ≡ set (entries_from ss ls) i (get_or (entries_from ss ls) i 0 - 1) = ap (λ x. entries_from (set ss i (x - 1)) ls) read ∙ less-entries ss ls i inside (c.self.invariant.each i) some in
    rw (← c.self.view_is) (λ j. record { limit = limit_from ls; entries = counts j })

pub refill-requires : goal.refill-requires
refill-requires c =
    let a = c.self.inside in
    let ss = a.small.items in
    let ls = a.large.items in
    let i = c.args.place in
    let given = rw (← c.self.view_is) at c.requires.place_in in
    let inside : i < length ss = omega (arith, given, halves-length ss ls) in
    record { place_in = omega (arith, inside, a.small.ok.0) }

pub invariant_of-self-2 : goal.invariant_of-self-2
invariant_of-self-2 c =
    let a = c.self.inside in
    let ss = a.small.items in
    let ls = a.large.items in
    let i = c.args.place in
    let given = rw (← c.self.view_is) at c.requires.place_in in
    let inside : i < length ss = omega (arith, given, halves-length ss ls) in
    let some = rw (← c.self.view_is) at c.requires.some in
    let s = c.index.result.now in
    let read : s ≡ get_or ss i 0 = get_or_read ss i s inside c.index.ensures 0 in
    let after = spent ss ls _ _ i s c.refill.result inside read c.if-left-ne0.false c.self.invariant.both c.self.invariant.each some c.refill.ensures.none (λ f. (c.refill.ensures.some f, c.refill.ensures.small f, c.refill.ensures.large f)) in
    record { both = after.both; each = after.each }

pub returns-clause-bare : goal.returns-clause-bare
returns-clause-bare c =
    let a = c.self.inside in
    let ss = a.small.items in
    let ls = a.large.items in
    let i = c.args.place in
    let given = rw (← c.self.view_is) at c.requires.place_in in
    let inside : i < length ss = omega (arith, given, halves-length ss ls) in
    let some = rw (← c.self.view_is) at c.requires.some in
    let s = c.index.result.now in
    let read : s ≡ get_or ss i 0 = get_or_read ss i s inside c.index.ensures 0 in
    let after = spent ss ls _ _ i s c.refill.result inside read c.if-left-ne0.false c.self.invariant.both c.self.invariant.each some c.refill.ensures.none (λ f. (c.refill.ensures.some f, c.refill.ensures.small f, c.refill.ensures.large f)) in
    rw (← c.self.view_is) after.bare

pub returns-clause-changed : goal.returns-clause-changed
returns-clause-changed c =
    let a = c.self.inside in
    let ss = a.small.items in
    let ls = a.large.items in
    let i = c.args.place in
    let given = rw (← c.self.view_is) at c.requires.place_in in
    let inside : i < length ss = omega (arith, given, halves-length ss ls) in
    let some = rw (← c.self.view_is) at c.requires.some in
    let s = c.index.result.now in
    let read : s ≡ get_or ss i 0 = get_or_read ss i s inside c.index.ensures 0 in
    let after = spent ss ls _ _ i s c.refill.result inside read c.if-left-ne0.false c.self.invariant.both c.self.invariant.each some c.refill.ensures.none (λ f. (c.refill.ensures.some f, c.refill.ensures.small f, c.refill.ensures.large f)) in
    rw (← c.self.view_is) (λ j. record { limit = after.limit j; entries = after.entries j })

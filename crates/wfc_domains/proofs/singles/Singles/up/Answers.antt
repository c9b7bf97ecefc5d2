use Rattle.std.proofs.Common.{◌≡◌, ◌+◌, ◌<◌, length, get_or, set, sym, ◌∙◌, ap, subst, arith, inl, inr}
use Rattle.wfc_domains.specs.Halves.{entries_from, limit_from}
use Rattle.wfc_domains.specs.Singles.{IsCountSplit}
use Rattle.std.proofs.lemmas.List.{get_or_read, length-set}
use Rattle.wfc_domains.proofs.HalfLemmas.{halves-length, more-entries, carry-room, carry-entries, limit-set, split-both}
use Rattle.wfc_domains.proofs.singles.Singles.up.Goals as goal

pub carry-requires-clause-large_in : goal.carry-requires-clause-large_in
carry-requires-clause-large_in c =
    let a = c.self.inside in
    let ss = a.small.items in
    let ls = a.large.items in
    let i = c.args.place in
    let given = rw (← c.self.view_is) at c.requires.place_in in
    let inside : i < length ss = omega (arith, given, halves-length ss ls) in
    let below = rw (← c.self.view_is) at c.requires.limit in
    let s = c.index-small.result.now in
    let read : s ≡ get_or ss i 0 = get_or_read ss i s inside c.index-small.ensures 0 in
    let full : get_or ss i 0 ≡ 255 = sym read ∙ c.if-small.true in
    let room = carry-room ss ls i inside c.self.invariant.both (c.self.invariant.each i) below full in
    omega (arith, room.0, a.large.ok.0)

pub invariant_of-self : goal.invariant_of-self
invariant_of-self c =
    let a = c.self.inside in
    let ss = a.small.items in
    let ls = a.large.items in
    let i = c.args.place in
    let given = rw (← c.self.view_is) at c.requires.place_in in
    let inside : i < length ss = omega (arith, given, halves-length ss ls) in
    let below = rw (← c.self.view_is) at c.requires.limit in
    let s = c.index-small.result.now in
    let read : s ≡ get_or ss i 0 = get_or_read ss i s inside c.index-small.ensures 0 in
    let full : get_or ss i 0 ≡ 255 = sym read ∙ c.if-small.true in
    let room = carry-room ss ls i inside c.self.invariant.both (c.self.invariant.each i) below full in
    let h = c.self.invariant in
    let l = get_or ls i 0 in
    let small = c.carry.ensures.small in
    let large = c.carry.ensures.large in
    let split : IsCountSplit 1 (l + 1) = record { limit = omega (arith, (h.each i).limit, full, room.1); some = λ p. omega arith } in
    record {
      both = elim h.both [ inl none ↦ absurd (omega (arith, none, room.0)) | inr same ↦ inr (ap length large ∙ length-set ls i (l + 1) ∙ same ∙ sym (length-set ss i 1) ∙ sym (ap length small)) ];
      each = λ j. subst (λ xs. IsCountSplit (get_or xs j 0) (get_or c.carry.new.large.items j 0)) (sym small)
          (subst (λ ys. IsCountSplit (get_or (set ss i 1) j 0) (get_or ys j 0)) (sym large) (split-both ss ls i 1 (l + 1) inside room.0 h.each split j));
    }

pub returns-then-small : goal.returns-then-small
returns-then-small c =
    let a = c.self.inside in
    let ss = a.small.items in
    let ls = a.large.items in
    let i = c.args.place in
    let given = rw (← c.self.view_is) at c.requires.place_in in
    let inside : i < length ss = omega (arith, given, halves-length ss ls) in
    let below = rw (← c.self.view_is) at c.requires.limit in
    let s = c.index-small.result.now in
    let read : s ≡ get_or ss i 0 = get_or_read ss i s inside c.index-small.ensures 0 in
    let full : get_or ss i 0 ≡ 255 = sym read ∙ c.if-small.true in
    let room = carry-room ss ls i inside c.self.invariant.both (c.self.invariant.each i) below full in
    let l = get_or ls i 0 in
    let small = c.carry.ensures.small in
    let large = c.carry.ensures.large in
    let limits = ap limit_from large ∙ limit-set ls i (l + 1) in
    let counts = ap (λ xs. entries_from xs c.carry.new.large.items) small ∙ ap (entries_from (set ss i 1)) large ∙ carry-entries ss ls i inside room.0 full in
    rw (← c.self.view_is) (record { changed = λ j. record { limit = limits j; entries = counts j } })

pub returns-else-small : goal.returns-else-small
returns-else-small c =
    let a = c.self.inside in
    let ss = a.small.items in
    let ls = a.large.items in
    let i = c.args.place in
    let given = rw (← c.self.view_is) at c.requires.place_in in
    let inside : i < length ss = omega (arith, given, halves-length ss ls) in
    let below = rw (← c.self.view_is) at c.requires.limit in
    let s = c.index-small.result.now in
    let read : s ≡ get_or ss i 0 = get_or_read ss i s inside c.index-small.ensures 0 in
    let more = more-entries ss ls i inside c.self.invariant.both below in
    let counts = ap (λ x. entries_from (set ss i (x + 1)) ls) read ∙ more in
    rw (← c.self.view_is) (record { changed = λ j. record { limit = limit_from ls; entries = counts j } })

pub index-small-requires : goal.index-small-requires
index-small-requires c =
    let a = c.self.inside in
    let given = rw (← c.self.view_is) at c.requires.place_in in
    omega (arith, given, halves-length a.small.items a.large.items, a.small.ok.0)

pub index_mut-requires : goal.index_mut-requires
index_mut-requires c =
    let a = c.self.inside in
    let given = rw (← c.self.view_is) at c.requires.place_in in
    omega (arith, given, halves-length a.small.items a.large.items, a.small.ok.0)

pub carry-requires-clause-place_in : goal.carry-requires-clause-place_in
carry-requires-clause-place_in c =
    let a = c.self.inside in
    let given = rw (← c.self.view_is) at c.requires.place_in in
    omega (arith, given, halves-length a.small.items a.large.items, a.small.ok.0)

use Rattle.std.proofs.Common.{◌<◌, ℕ, ◌∙◌, ap, arith}
use Rattle.std.proofs.lemmas.Bool.{cond-true, cond-false}
use Rattle.wfc_log.specs.Numbered.{limit_of, packed_numbers, short_limit, wide_limit}
use Rattle.wfc_log.proofs.PackedLemmas.{narrow-push, packed-length, wide-push}
use Rattle.wfc_log.proofs.packed.Numbers.push.Goals as goal

pub push_reserved-requires : goal.push_reserved-requires
push_reserved-requires c =
    let a = c.self.inside in
    let h = rw (← c.self.view_is) at c.requires.room in
    omega (arith, h, a.lows.ok.0, c.self.invariant.lows_fit, packed-length a c.self.invariant)

pub push_reserved-requires-2 : goal.push_reserved-requires-2
push_reserved-requires-2 c =
    let a = c.self.inside in
    let h = rw (← c.self.view_is) at c.requires.room in
    omega (arith, h, a.lows.ok.0, c.self.invariant.one_byte_each, c.self.invariant.bytes_fit, packed-length a c.self.invariant)

pub push-requires : goal.push-requires
push-requires c =
    let a = c.self.inside in
    let h = rw (← c.self.view_is) at c.requires.room in
    let few = rw (← c.self.view_is) at c.requires.few in
    let t = c.if-self.true in
    record {
      room = omega (arith, h, a.lows.ok.0, c.self.invariant.one_top_each t, c.self.invariant.tops_fit t, packed-length a c.self.invariant);
      few = omega (arith, few, cond-true {A = ℕ} a.wide wide_limit short_limit t);
    }

pub returns-then-self : goal.returns-then-self
returns-then-self c =
    let a = c.self.inside in
    let n = c.args.number in
    let h = c.self.invariant in
    let t = c.if-self.true in
    let tops = ap (λ z. z.numbers) c.push.ensures.more in
    let more = (λ i. packed_numbers a.wide (c.push_reserved.ensures.items i) (c.push_reserved-2.ensures.items i) (tops i))
    ∙ wide-push a.wide a.lows.items a.bytes.items a.tops.numbers n t (omega (arith, h.one_byte_each, a.lows.ok.0, a.bytes.ok.0)) (omega (arith, h.one_top_each t, a.lows.ok.0)) in
    rw (← c.self.view_is) (record { more = λ i. record { room = a.room; limit = limit_of a.wide; numbers = more i } })

pub returns-else-self : goal.returns-else-self
returns-else-self c =
    let a = c.self.inside in
    let n = c.args.number in
    let h = c.self.invariant in
    let f = c.if-self.false in
    let few = rw (← c.self.view_is) at c.requires.few in
    let below : n < short_limit = omega (arith, few, cond-false {A = ℕ} a.wide wide_limit short_limit f) in
    let more = (λ i. packed_numbers a.wide (c.push_reserved.ensures.items i) (c.push_reserved-2.ensures.items i) a.tops.numbers)
    ∙ narrow-push a.wide a.lows.items a.bytes.items a.tops.numbers n f (omega (arith, h.one_byte_each, a.lows.ok.0, a.bytes.ok.0)) below in
    rw (← c.self.view_is) (record { more = λ i. record { room = a.room; limit = limit_of a.wide; numbers = more i } })

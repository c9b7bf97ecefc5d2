use Rattle.std.proofs.Common.{◌≡◌, ◌<◌, ◌+◌, ◌*◌, refl, ◌∙◌, ap, sym, arith, length}
use Rattle.std.specs.Prelude.{Some, slice_get}
use Rattle.std.proofs.lemmas.Bool.{cond-true, cond-false}
use Rattle.std.proofs.lemmas.Option.{slice_get_read}
use Rattle.wfc_log.specs.Numbered.{number_from, numbers_from, short_limit}
use Rattle.wfc_log.proofs.NumberedLemmas.{numbers-at}
use Rattle.wfc_log.proofs.PackedLemmas.{packed-length}
use Rattle.wfc_log.proofs.packed.Numbers.at.Goals as goal

pub index-requires : goal.index-requires
index-requires c =
    let a = c.self.inside in
    let h = rw (← c.self.view_is) at c.requires.index_in in
    omega (arith, h, a.lows.ok.0, c.self.invariant.one_byte_each, packed-length a c.self.invariant)

pub index-requires-2 : goal.index-requires-2
index-requires-2 c =
    let a = c.self.inside in
    let h = rw (← c.self.view_is) at c.requires.index_in in
    omega (arith, h, a.lows.ok.0, packed-length a c.self.invariant)

pub at-requires : goal.at-requires
at-requires c =
    let a = c.self.inside in
    let h = rw (← c.self.view_is) at c.requires.index_in in
    record { index_in = omega (arith, h, a.lows.ok.0, c.self.invariant.one_top_each c.if-self.true, packed-length a c.self.invariant) }

pub returns-then-self : goal.returns-then-self
returns-then-self c =
    let a = c.self.inside in
    let i = c.args.index in
    let shorts = numbers_from 65536 a.lows.items a.bytes.items in
    let inside : i < length a.lows.items = omega (arith, rw (← c.self.view_is) at c.requires.index_in, packed-length a c.self.invariant) in
    let low = slice_get_read a.lows.items (length a.lows.items) i _ refl inside c.index-2.ensures in
    let byte = slice_get_read a.bytes.items (length a.bytes.items) i _ refl (omega (arith, inside, a.lows.ok.0, a.bytes.ok.0, c.self.invariant.one_byte_each)) c.index.ensures in
    let short = numbers-at 65536 a.lows.items a.bytes.items i _ _ low byte in
    let number : number_from short_limit (number_from 65536 c.index-2.result.now c.index.result.now) c.at.result ≡ short_limit * c.from-then-self.result + (65536 * c.from.result + c.from-2.result) =
    sym (λ j. short_limit * c.from-then-self.ensures j + (65536 * c.from.ensures j + c.from-2.ensures j)) in
    rw (← c.self.view_is) (record {
      value = ap (λ ns. slice_get ns i) (cond-true a.wide _ _ c.if-self.true) ∙ numbers-at short_limit shorts a.tops.numbers i _ _ short c.at.ensures.value ∙ ap Some number;
    })

pub returns-else-self : goal.returns-else-self
returns-else-self c =
    let a = c.self.inside in
    let i = c.args.index in
    let inside : i < length a.lows.items = omega (arith, rw (← c.self.view_is) at c.requires.index_in, packed-length a c.self.invariant) in
    let low = slice_get_read a.lows.items (length a.lows.items) i _ refl inside c.index-2.ensures in
    let byte = slice_get_read a.bytes.items (length a.bytes.items) i _ refl (omega (arith, inside, a.lows.ok.0, a.bytes.ok.0, c.self.invariant.one_byte_each)) c.index.ensures in
    let number : number_from 65536 c.index-2.result.now c.index.result.now ≡ 65536 * c.from.result + c.from-2.result = sym (λ j. 65536 * c.from.ensures j + c.from-2.ensures j) in
    rw (← c.self.view_is) (record {
      value = ap (λ ns. slice_get ns i) (cond-false a.wide _ _ c.if-self.false) ∙ numbers-at 65536 a.lows.items a.bytes.items i _ _ low byte ∙ ap Some number;
    })

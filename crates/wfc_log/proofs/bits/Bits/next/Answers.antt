use Rattle.std.proofs.Common.{◌≡◌, ◌+◌, ◌-◌, ◌/◌, ◌%◌, ◌<◌, ◌≤◌, arith, inl, inr, length, subst}
use Rattle.std.proofs.lemmas.Bool.{cases_lt}
use Rattle.std.proofs.lemmas.List.{get_or_read}
use Rattle.std.specs.Int.{bit_at}
use Rattle.wfc_log.proofs.BitLemmas.{clear-byte, length-flags, set-byte}
use Rattle.wfc_log.proofs.bits.Bits.next.Goals as goal

pub loop-at-init : goal.loop-at-init
loop-at-init c = (omega arith, λ k after before. absurd (omega (arith, after, before)))

pub index-requires : goal.index-requires
index-requires c =
    let a = c.self.inside in
    let h = rw (← c.self.view_is) at c.requires.end_in in
    omega (arith, h, c.loop-at-test.true, c.self.invariant, length-flags a.len a.bytes.items)

pub returns-then-bit-lt8 : goal.returns-then-bit-lt8
returns-then-bit-lt8 c =
    let a = c.self.inside in
    let at = c.loop-at.at in
    let bit = c.next_bit-bit.result in
    let h = rw (← c.self.view_is) at c.requires.end_in in
    let long : c.args.end ≤ a.len = omega (arith, h, length-flags a.len a.bytes.items) in
    let within : at / 8 < length a.bytes.items = omega (arith, long, c.loop-at-test.true, c.self.invariant) in
    let read = get_or_read a.bytes.items (at / 8) c.index.result.now within c.index.ensures 0 in
    let clear = clear-byte a.len a.bytes.items at bit c.next_bit-bit.ensures.within (λ k after before. subst (λ b. bit_at b k ≡ 0) read (c.next_bit-bit.ensures.clear k after before)) in
    record {
      from = omega (arith, c.min.ensures, c.loop-at.invariant.0, c.next_bit-bit.ensures.from, c.requires.from_in);
      within = omega (arith, c.min.ensures);
      clear = λ k after before. elim (cases_lt k at) [
        | inl early ↦ c.loop-at.invariant.1 k after early (omega (arith, before, c.min.ensures))
        | inr late ↦ rw (← c.self.view_is) (clear k late (omega (arith, before, c.min.ensures)) (omega (arith, before, c.min.ensures, long)))
      ];
      set = λ low.
          let is : c.min.result ≡ at - at % 8 + bit = omega (arith, low, c.min.ensures) in
          rw is (rw (← c.self.view_is) (set-byte a.len a.bytes.items at bit c.if-bit-lt8.true (subst (λ b. bit_at b bit ≡ 1) read (c.next_bit-bit.ensures.set c.if-bit-lt8.true)) (omega (arith, is, low, long))));
    }

pub overflow_add-at-in-loop-at : goal.overflow_add-at-in-loop-at
overflow_add-at-in-loop-at c = omega (arith, c.loop-at-test.true, c.requires.small)

pub loop-at-preserved : goal.loop-at-preserved
loop-at-preserved c =
    let a = c.self.inside in
    let at = c.loop-at.at in
    let bit = c.next_bit-bit.result in
    let full : bit ≡ 8 = omega (arith, c.if-bit-lt8.false, c.next_bit-bit.ensures.within) in
    let h = rw (← c.self.view_is) at c.requires.end_in in
    let long : c.args.end ≤ a.len = omega (arith, h, length-flags a.len a.bytes.items) in
    let within : at / 8 < length a.bytes.items = omega (arith, long, c.loop-at-test.true, c.self.invariant) in
    let read = get_or_read a.bytes.items (at / 8) c.index.result.now within c.index.ensures 0 in
    let clear = clear-byte a.len a.bytes.items at bit c.next_bit-bit.ensures.within (λ k after before. subst (λ b. bit_at b k ≡ 0) read (c.next_bit-bit.ensures.clear k after before)) in (
      omega (arith, c.loop-at.invariant.0),
      λ k after before inside. elim (cases_lt k at) [
        | inl early ↦ c.loop-at.invariant.1 k after early inside
        | inr late ↦ rw (← c.self.view_is) (clear k late (omega (arith, before, full)) (omega (arith, inside, long)))
      ],
    )

pub returns-clause-clear : goal.returns-clause-clear
returns-clause-clear c = λ k after before. c.loop-at.invariant.1 k after (omega (arith, before, c.loop-at-test.false)) before

use Rattle.std.proofs.Common.{◌<◌, ◌/◌, ◌∙◌, ap, arith, length, true}
use Rattle.std.specs.Prelude.{◌==◌}
use Rattle.std.specs.Int.{bit_at}
use Rattle.std.proofs.lemmas.List.{get_or_read}
use Rattle.wfc_log.proofs.BitLemmas.{length-flags, flags-written}
use Rattle.wfc_log.proofs.bits.Bits.set.Goals as goal

pub index-requires : goal.index-requires
index-requires c =
    let a = c.self.inside in
    let h = rw (← c.self.view_is) at c.requires.index_in in
    omega (arith, h, c.self.invariant, a.bytes.ok.0, length-flags a.len a.bytes.items)

pub index_mut-requires : goal.index_mut-requires
index_mut-requires c =
    let a = c.self.inside in
    let h = rw (← c.self.view_is) at c.requires.index_in in
    omega (arith, h, c.self.invariant, a.bytes.ok.0, length-flags a.len a.bytes.items)

pub returns : goal.returns
returns c =
    let a = c.self.inside in
    let i = c.args.index in
    let h = rw (← c.self.view_is) at c.requires.index_in in
    let small : i < a.len = omega (arith, h, length-flags a.len a.bytes.items) in
    let within : i / 8 < length a.bytes.items = omega (arith, small, c.self.invariant) in
    let read = get_or_read a.bytes.items (i / 8) c.index.result.now within c.index.ensures 0 in
    let here = ap (λ x. x == 1) c.with_bit.ensures.set in
    rw (← c.self.view_is) (record {
      set = flags-written a.len a.bytes.items i c.with_bit.result true small c.self.invariant
          here (λ k l apart. c.with_bit.ensures.others k apart ∙ ap (λ y. bit_at y k) read);
    })

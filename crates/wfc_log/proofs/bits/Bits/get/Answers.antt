use Rattle.std.proofs.Common.{◌<◌, ◌/◌, ◌%◌, ◌∙◌, sym, ap, arith, length}
use Rattle.std.specs.Prelude.{◌==◌}
use Rattle.std.specs.Int.{bit_at}
use Rattle.std.proofs.lemmas.List.{get_or_read}
use Rattle.std.proofs.lemmas.Nat.Bits.{shr_and_one}
use Rattle.wfc_log.proofs.BitLemmas.{length-flags, flag-at}
use Rattle.wfc_log.proofs.bits.Bits.get.Goals as goal

pub index-requires : goal.index-requires
index-requires c =
    let a = c.self.inside in
    let h = rw (← c.self.view_is) at c.requires.index_in in
    omega (arith, h, c.self.invariant, a.bytes.ok.0, length-flags a.len a.bytes.items)

pub returns : goal.returns
returns c =
    let a = c.self.inside in
    let h = rw (← c.self.view_is) at c.requires.index_in in
    let small : c.args.index < a.len = omega (arith, h, length-flags a.len a.bytes.items) in
    let within : c.args.index / 8 < length a.bytes.items = omega (arith, small, c.self.invariant) in
    let read = get_or_read a.bytes.items (c.args.index / 8) c.index.result.now within c.index.ensures 0 in
    let value = ap (λ x. x == 1) (shr_and_one c.index.result.now (c.args.index % 8)) ∙ ap (λ y. bit_at y (c.args.index % 8) == 1) read ∙ sym (flag-at a.len a.bytes.items c.args.index small) in
    rw (← c.self.view_is) (record { value = value })

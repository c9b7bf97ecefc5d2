use Rattle.std.proofs.Common.{◌≡◌, ◌-◌, ◌*◌, ◌/◌, ◌%◌, ◌<◌, ◌∙◌, length, ap, arith}
use Rattle.std.specs.Prelude.{slice_index}
use Rattle.wfc_domains.specs.Changes.{plain_entry}
use Rattle.wfc_domains.specs.Pairs.{half_at, half_entry}
use Rattle.wfc_domains.proofs.PairLemmas.{IsWritten, changed_none, halves_more, entry-plain}
use Rattle.wfc_domains.proofs.pairs.unmark_halves.Goals as goal

pub loop-place-init : goal.loop-place-init
loop-place-init c =
    let none : c.args.start - c.args.start ≡ 0 = omega arith in
    rw none (changed_none plain_entry _ c.args.start)

pub loop-place-preserved : goal.loop-place-preserved
loop-place-preserved c =
    let bs = c.loop-place.bytes in
    let i = c.loop-place.place in
    let h = c.half_at.result in
    let inside : i < 2 * length bs = omega (arith, c.loop-place-test.true, c.requires.start_in, c.loop-place.auto.bytes) in
    let written : IsWritten (slice_index bs (i / 2)) c.with_half.result i (h % 8) = record { here = c.with_half.ensures.here; other = c.with_half.ensures.other } in
    let is : half_entry (h % 8) ≡ plain_entry (half_entry (half_at (slice_index bs (i / 2)) i)) = entry-plain h ∙ ap (λ x. plain_entry (half_entry x)) c.half_at.ensures.value in
    halves_more plain_entry _ bs c.args.start i c.with_half.result (h % 8) c.loop-place.invariant c.loop-place.auto.place inside written is

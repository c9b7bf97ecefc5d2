use Rattle.std.proofs.Common.{◌≡◌, ◌+◌, ◌%◌, suc, set, get_or, ◌∙◌, ap, arith}
use Rattle.wfc_domains.proofs.HalfLemmas.{mapped_front, mapped-more}
use Rattle.wfc_domains.proofs.singles.unmark_parts.Goals as goal

pub loop-part-preserved : goal.loop-part-preserved
loop-part-preserved c =
    let i = c.loop-part.part-index in
    let xs = c.args.parts.now in
    let next : suc i ≡ i + 1 = omega arith in
    ap (λ ys. set ys i ((get_or ys i 0) % 128)) c.loop-part.invariant ∙ mapped-more (λ small. small % 128) i xs c.loop-part-test.true ∙ ap (λ k. mapped_front (λ small. small % 128) k xs) next

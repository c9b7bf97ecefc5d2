use Rattle.std.proofs.Common.{◌+◌, ◌/◌, ◌∙◌, arith, ap, get_or}
use Rattle.std.proofs.lemmas.List.{get_or-replicate}
use Rattle.wfc_log.proofs.BitLemmas.{length-flags, flags-all}
use Rattle.wfc_log.proofs.bits.Bits.all.Goals as goal

pub returns-clause-len : goal.returns-clause-len
returns-clause-len c = length-flags _ _

pub returns-clause-set : goal.returns-clause-set
returns-clause-set c = λ k h.
    let full = ap (λ xs. get_or xs (k / 8) 0) (c.in_ok-vec.ensures.items_if_clones_equal (λ y e. e)) ∙ get_or-replicate (c.args.len / 8 + 1) (k / 8) 255 0 (omega (arith, h)) in
    flags-all _ _ k h full

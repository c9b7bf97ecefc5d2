use Rattle.std.proofs.Common.{length, replicate, ap, ◌∙◌, arith}
use Rattle.std.proofs.lemmas.List.{length-replicate}
use Rattle.wfc_domains.specs.Halves.{entries_from}
use Rattle.wfc_domains.proofs.HalfLemmas.{halves-zero, limit-some, limit_above}
use Rattle.wfc_domains.proofs.singles.Singles.zeros.Goals as goal

pub returns : goal.returns
returns c =
    let small = c.in_ok-vec.ensures.items_if_clones_equal (λ y e. e) in
    let large = c.in_ok-vec-2.ensures.items_if_clones_equal (λ y e. e) in
    let ls = c.in_ok-vec-2.field-0.items in
    record {
      zeros = ap (λ xs. entries_from xs ls) small ∙ ap (entries_from (replicate c.args.small 0)) large ∙ halves-zero c.args.small c.args.large;
      narrow = limit_above ls;
      wide = λ some. limit-some ls (omega (arith, some, ap length large ∙ length-replicate c.args.large 0));
    }

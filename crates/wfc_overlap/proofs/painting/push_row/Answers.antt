use Rattle.std.proofs.Common.{◌++◌, [], ◌∷◌, ℕ, map, sym, ap, ◌∙◌, append_assoc, zero-add}
use Rattle.std.specs.List.{range_with_len}
use Rattle.std.proofs.lemmas.List.FromFn.{map-range_with_len_more}
use Rattle.wfc_overlap.specs.Bridge.{pixel_of}
use Rattle.wfc_overlap.specs.Layout.{output_of}
use Rattle.wfc_overlap.proofs.painting.push_row.Goals as goal

pub loop-x-preserved : goal.loop-x-preserved
loop-x-preserved c =
    let p : ℕ → ℕ = λ x. pixel_of c.args.patterns.now (output_of c.args.layout) c.args.assignment.now x c.args.y in
    let x = c.loop-x.x in
    let front = c.args.numbers.now.items in
    c.in_ok-push.ensures.items
    ∙ ap (λ t. t ++ c.number_at.result ∷ []) c.loop-x.invariant
    ∙ ap (λ k. (front ++ map p (range_with_len 0 x)) ++ k ∷ []) c.number_at.ensures.value
    ∙ append_assoc front (map p (range_with_len 0 x)) (p x ∷ [])
    ∙ ap (λ t. front ++ t) (sym (map-range_with_len_more p 0 x x (zero-add x)))

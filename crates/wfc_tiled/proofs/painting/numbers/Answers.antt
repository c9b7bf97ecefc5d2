use Rattle.std.proofs.Common.{ℕ, ◌++◌, [], ◌∷◌, map, sym, ap, ◌∙◌, zero-add}
use Rattle.std.specs.List.{range_with_len}
use Rattle.std.proofs.lemmas.List.FromFn.{map-range_with_len_more}
use Rattle.wfc_tiled.specs.Mask.{cell_number}
use Rattle.wfc_tiled.specs.Maps.{number_of_cell}
use Rattle.wfc_tiled.proofs.painting.numbers.Goals as goal

pub loop-place-preserved : goal.loop-place-preserved
loop-place-preserved c =
    let f : ℕ → ℕ = λ n. number_of_cell c.args.assignment.now (cell_number c.args.mask.now n) in
    let n = c.loop-place.place in
    c.in_ok-push.ensures.items
    ∙ ap (λ t. t ++ c.number_at.result ∷ []) c.loop-place.invariant
    ∙ ap (λ k. map f (range_with_len 0 n) ++ k ∷ []) c.number_at.ensures.value
    ∙ sym (map-range_with_len_more f 0 n n (zero-add n))

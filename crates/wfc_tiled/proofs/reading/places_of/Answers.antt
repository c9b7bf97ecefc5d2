use Rattle.std.proofs.Common.{◌++◌, [], ◌∷◌, cond, get_or, sym, ap, ◌∙◌}
use Rattle.std.specs.Prelude.{◌==◌}
use Rattle.wfc_lists.proofs.Growing.{kept_more}
use Rattle.wfc_tiled.proofs.reading.places_of.Goals as goal

pub loop-place-preserved : goal.loop-place-preserved
loop-place-preserved c =
    let bytes = c.args.bytes.now in
    let n = c.loop-place.place in
    c.in_ok-push_place.ensures.pushed
    ∙ ap (λ t. t ++ cond (get_or bytes n 0 == 46) (n ∷ []) []) c.loop-place.invariant
    ∙ sym (kept_more (λ n. get_or bytes n 0 == 46) n)

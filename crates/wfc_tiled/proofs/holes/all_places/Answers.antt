use Rattle.std.proofs.Common.{◌++◌, [], ◌∷◌, sym, ap, ◌∙◌}
use Rattle.wfc_lists.proofs.Growing.{one_more}
use Rattle.wfc_tiled.proofs.holes.all_places.Goals as goal

pub loop-place-preserved : goal.loop-place-preserved
loop-place-preserved c = c.in_ok-push.ensures.items ∙ ap (λ ns. ns ++ c.loop-place.place ∷ []) c.loop-place.invariant ∙ sym (one_more c.loop-place.place)

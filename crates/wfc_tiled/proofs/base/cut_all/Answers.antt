use Rattle.std.proofs.Common.{ℕ, ◌++◌, [], ◌∷◌, List, Option, length, take, sym, subst, ap, ◌∙◌, arith}
use Rattle.std.specs.Prelude.{IfSome}
use Rattle.std.proofs.lemmas.List.{take_more}
use Rattle.wfc_model.specs.Legal.{Pin}
use Rattle.wfc_places.specs.Steps.{place_number}
use Rattle.wfc_tileset.specs.Tiles.{variant_total}
use Rattle.wfc_places.specs.Flags.{HasFlags, IsRowCut}
use Rattle.wfc_places.specs.Marks.{suits}
use Rattle.wfc_tiled.specs.Cut.{meets_at}
use Rattle.wfc_tiled.specs.Maps.{IsPlaced}
use Rattle.wfc_tiled.proofs.FlagLemmas.{met_more}
use Rattle.wfc_tiled.proofs.MaskLemmas.{member}
use Rattle.wfc_tiled.proofs.base.cut_all.Goals as goal

pub loop-mark-preserved : goal.loop-mark-preserved
loop-mark-preserved c =
    let m = c.args.mask.now in
    let V = variant_total c.args.tiles.now.tiles in
    let marks = c.args.marks.now in
    let k = c.loop-mark.mark-index in
    let pin = c.mark-item.result in
    let old = c.loop-mark.flags in
    let new = c.cut_by_mark.new.flags in
    let placed : IsPlaced m pin = subst (IsPlaced m) (sym c.mark-item.is) (c.requires.placed k pin (omega arith)) in
    let at = member m.places (place_number m.width pin.column pin.row) c.cut_by_mark.ensures.mask.rising placed.place in
    let done : IsRowCut V old new at.0 (suits pin) = subst (λ (o : Option ℕ). IfSome o (λ cell. IsRowCut V old new cell (suits pin))) at.1 c.cut_by_mark.ensures.cut in
    subst (λ (ps : List Pin). HasFlags V (length m.places) new (meets_at m ps))
    (sym (take_more marks k pin (omega arith) ∙ ap (λ (p : Pin). take k marks ++ p ∷ []) (sym c.mark-item.is)))
    (met_more V m old new (take k marks) pin at.0 c.cut_by_mark.ensures.mask c.loop-mark.invariant at.1 done)

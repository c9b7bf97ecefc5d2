use Rattle.std.proofs.Common.{◌≡◌, ℕ, Option, Some, subst, ap, ◌∙◌}
use Rattle.std.specs.Prelude.{IfSome}
use Rattle.wfc_model.specs.Legal.{Pin}
use Rattle.wfc_places.specs.Steps.{place_number}
use Rattle.wfc_tileset.specs.Tiles.{variant_total}
use Rattle.wfc_places.specs.Flags.{IsRowCut}
use Rattle.wfc_places.specs.Marks.{suits}
use Rattle.wfc_tiled.specs.Mask.{cell_number}
use Rattle.wfc_tiled.proofs.base.cut_by_mark.Goals as goal

pub returns-in-Some-clause-cut : goal.returns-in-Some-clause-cut
returns-in-Some-clause-cut c =
    let m = c.args.mask.now in
    let pin = c.args.mark.now in
    let old = c.args.flags.now in
    let new = c.cut_row.new.flags in
    let at : Some c.in-Some.cell ≡ cell_number m (place_number m.width pin.column pin.row) =
    c.in-Some.ensures.value ∙ ap (λ (p : Pin). cell_number m (place_number m.width p.column p.row)) c.mark.view_is in
    let done : IsRowCut (variant_total c.args.tiles.now.tiles) old new c.in-Some.cell (suits pin) =
    subst (λ (n : ℕ). IsRowCut n old new c.in-Some.cell (suits pin)) c.variants.ensures.value c.cut_row.ensures.cut in
    subst (λ (o : Option ℕ). IfSome o (λ cell. IsRowCut (variant_total c.args.tiles.now.tiles) old new cell (suits pin))) at done

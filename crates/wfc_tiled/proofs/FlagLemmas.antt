-- The flags of a base, from whose rows variants are taken away pin by pin.
use Rattle.std.proofs.Common.{◌≡◌, ◌≢◌, ℕ, ◌<◌, Bool, ◌&&◌, not, Option, Some, List, [], ◌∷◌, ◌++◌, length, get_or, sym, ap, ◌∙◌}
use Rattle.std.specs.Prelude.{◌||◌}
use Rattle.std.proofs.lemmas.Bool.{eq-eqb, ne_eqb}
use Rattle.std.proofs.lemmas.List.Folds.{list_all-append}
use Rattle.std.proofs.Math.Bool.{and-true}
use Rattle.wfc_model.specs.Legal.{Pin}
use Rattle.wfc_places.specs.Flags.{HasFlags, IsRowCut}
use Rattle.wfc_places.specs.Marks.{suits}
use Rattle.wfc_places.specs.Steps.{place_number}
use Rattle.wfc_places.proofs.CallerLemmas.{rows_cut}
use Rattle.wfc_tiled.specs.Cut.{meets_at}
use Rattle.wfc_tiled.specs.Mask.{MaskView, IsMask, cell_number}
use Rattle.wfc_tiled.specs.Tiles.{variant_suits_at, variant_meets_pins}
use Rattle.wfc_tiled.proofs.MaskLemmas.{found, stands}

meets_more : (width : ℕ) (pins : List Pin) (pin : Pin) (n v : ℕ) → variant_meets_pins width (pins ++ pin ∷ []) n v ≡ (variant_meets_pins width pins n v && variant_suits_at width n v pin)
meets_more width pins pin n v =
    list_all-append (λ p. variant_suits_at width n v p) pins (pin ∷ []) ∙ ap (λ b. variant_meets_pins width pins n v && b) (and-true (variant_suits_at width n v pin))

-- one pin more, at whose cell the row was cut
pub met_more : (n : ℕ) (mask : MaskView) (old new : List Bool) (pins : List Pin) (pin : Pin) (cell : ℕ) → IsMask mask → HasFlags n (length mask.places) old (meets_at mask pins)
    → cell_number mask (place_number mask.width pin.column pin.row) ≡ Some cell → IsRowCut n old new cell (suits pin) → HasFlags n (length mask.places) new (meets_at mask (pins ++ pin ∷ []))
met_more n mask old new pins pin cell is so_far at cut =
    rows_cut n (length mask.places) old new cell (suits pin) (meets_at mask pins) (meets_at mask (pins ++ pin ∷ [])) so_far cut same other
  where
    here : (cell < length mask.places) × (get_or mask.places cell 0 ≡ place_number mask.width pin.column pin.row)
    here = stands mask.places (place_number mask.width pin.column pin.row) cell at

    one : (a b : ℕ) → (let some : Option ℕ = Some a in some) ≡ Some b → a ≡ b
    one a b same = cc

    same : (v : ℕ) → meets_at mask (pins ++ pin ∷ []) cell v ≡ (meets_at mask pins cell v && suits pin v)
    same v =
        meets_more mask.width pins pin (get_or mask.places cell 0) v
        ∙ ap (λ b. variant_meets_pins mask.width pins (get_or mask.places cell 0) v && (not b || suits pin v)) (eq-eqb (place_number mask.width pin.column pin.row) (get_or mask.places cell 0) (sym here.1))

    other : (c v : ℕ) → c < length mask.places → c ≢ cell → meets_at mask (pins ++ pin ∷ []) c v ≡ meets_at mask pins c v
    other c v inside ne =
        meets_more mask.width pins pin (get_or mask.places c 0) v
        ∙ ap (λ b. variant_meets_pins mask.width pins (get_or mask.places c 0) v && (not b || suits pin v)) (ne_eqb (place_number mask.width pin.column pin.row) (get_or mask.places c 0)
        (λ e. ne (one c cell (sym (found mask.places (place_number mask.width pin.column pin.row) c is.rising inside (sym e)) ∙ at))))
        ∙ and-true (variant_meets_pins mask.width pins (get_or mask.places c 0) v)

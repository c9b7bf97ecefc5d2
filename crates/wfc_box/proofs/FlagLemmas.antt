-- The flags of a base, from whose rows variants are taken away pin by pin.
use Rattle.std.proofs.Common.{◌≡◌, ◌≢◌, ℕ, ◌*◌, ◌<◌, Bool, ◌&&◌, not, List, [], ◌∷◌, ◌++◌, length, get_or, refl, sym, subst, ap, ◌∙◌, arith}
use Rattle.std.specs.Prelude.{◌||◌}
use Rattle.std.specs.List.{range_with_len}
use Rattle.std.proofs.lemmas.Bool.{eq-eqb, ne_eqb}
use Rattle.std.proofs.lemmas.List.Folds.{list_all-append}
use Rattle.std.proofs.lemmas.List.FromFn.{length-range_with_len}
use Rattle.std.proofs.Math.Bool.{and-true}
use Rattle.wfc_lists.proofs.Ranges.{range_at}
use Rattle.wfc_places.specs.Flags.{HasFlags, IsRowCut}
use Rattle.wfc_places.specs.Marks.{suits}
use Rattle.wfc_places.proofs.CallerLemmas.{flags-table, rows_cut}
use Rattle.wfc_tileset.specs.Tiles.{TileSetView, variant_total}
use Rattle.wfc_box.specs.Boxes.{LayerPin, places_in}
use Rattle.wfc_box.specs.BoxProblem.{box_base_table, meets_in_box, pin_cell, suits_cell}
use Rattle.wfc_box.specs.declared.frame.Frame.{Frame}

meets_more : (frame : Frame) (pins : List LayerPin) (pin : LayerPin) (c v : ℕ) → meets_in_box frame (pins ++ pin ∷ []) c v ≡ (meets_in_box frame pins c v && suits_cell frame c v pin)
meets_more frame pins pin c v =
    list_all-append (λ p. suits_cell frame c v p) pins (pin ∷ []) ∙ ap (λ b. meets_in_box frame pins c v && b) (and-true (suits_cell frame c v pin))

-- one pin more, at whose cell the row was cut
pub met_more : (n : ℕ) (frame : Frame) (old new : List Bool) (pins : List LayerPin) (pin : LayerPin) → HasFlags n (places_in frame) old (meets_in_box frame pins)
    → IsRowCut n old new (pin_cell frame pin) (suits pin.pin) → HasFlags n (places_in frame) new (meets_in_box frame (pins ++ pin ∷ []))
met_more n frame old new pins pin so_far cut =
    rows_cut n (places_in frame) old new (pin_cell frame pin) (suits pin.pin) (meets_in_box frame pins) (meets_in_box frame (pins ++ pin ∷ [])) so_far cut
    (λ v. meets_more frame pins pin (pin_cell frame pin) v ∙ ap (λ b. meets_in_box frame pins (pin_cell frame pin) v && (not b || suits pin.pin v)) (eq-eqb (pin_cell frame pin) (pin_cell frame pin) refl))
    (λ c v inside ne.
    meets_more frame pins pin c v
    ∙ ap (λ b. meets_in_box frame pins c v && (not b || suits pin.pin v)) (ne_eqb (pin_cell frame pin) c (λ e. ne (sym e)))
    ∙ and-true (meets_in_box frame pins c v))

-- the flags of what meets all pins are the base's
pub met_all : (set : TileSetView) (frame : Frame) (flags : List Bool) (pins : List LayerPin) → HasFlags (variant_total set.tiles) (places_in frame) flags (meets_in_box frame pins) → flags ≡ box_base_table set frame pins
met_all set frame flags pins has =
    let cells = places_in frame in
    let long : length (range_with_len 0 cells) ≡ cells = length-range_with_len 0 cells in
    flags-table (variant_total set.tiles) flags (range_with_len 0 cells) (meets_in_box frame pins) (record {
      as_long = has.as_long ∙ ap (λ k. k * variant_total set.tiles) (sym long);
      each = λ c v inside value. has.each c v (omega (arith, long)) value ∙ ap (λ k. meets_in_box frame pins k v) (sym (range_at cells c (omega (arith, long))));
    })

use Rattle.std.proofs.Common.{◌≡◌, ℕ, ◌*◌, length, sym, subst, ap, ◌∙◌, arith}
use Rattle.std.proofs.lemmas.List.FromFn.{length-map-range_with_len}
use Rattle.wfc_model.specs.Raster.{raster_of}
use Rattle.wfc_tiled.specs.Mask.{cell_number}
use Rattle.wfc_tiled.specs.Maps.{IsLegalTileMap, number_of_cell, tile_map}
use Rattle.wfc_tiled.proofs.BridgeLemmas.{assignment_is_map}
use Rattle.wfc_tiled.proofs.painting.tiles_of_masked.Goals as goal

pub picture_from-requires : goal.picture_from-requires
picture_from-requires c =
    let m = c.args.mask.now in
    let is = c.width.ensures.mask in
    let f : ℕ → ℕ = λ n. number_of_cell c.args.assignment.now (cell_number m n) in
    record {
      filled = record {
        some_column = omega (arith, c.width.ensures.value, is.some_column);
        some_row = omega (arith, c.height.ensures.value, is.some_row);
        as_many = ap length c.in_ok-numbers.ensures.value ∙ length-map-range_with_len f 0 (m.width * m.height)
            ∙ ap (λ k. k * m.height) (sym c.width.ensures.value) ∙ ap (λ k. c.width.result * k) (sym c.height.ensures.value);
      };
    }

pub returns-clause-legal : goal.returns-clause-legal
returns-clause-legal c = λ set wrap pins problem placed legal.
    let m = c.args.mask.now in
    let a = c.args.assignment.now in
    let value : c.picture_from.result ≡ tile_map m a =
    c.picture_from.ensures.value ∙ ap (λ k. raster_of k c.height.result c.in_ok-numbers.numbers.items) c.width.ensures.value
    ∙ ap (λ k. raster_of m.width k c.in_ok-numbers.numbers.items) c.height.ensures.value ∙ ap (raster_of m.width m.height) c.in_ok-numbers.ensures.value in
    subst (IsLegalTileMap set m wrap pins) (sym value) (assignment_is_map set m wrap pins a c.width.ensures.mask problem placed legal)

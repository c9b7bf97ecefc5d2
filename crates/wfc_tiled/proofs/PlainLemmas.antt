-- Masks without holes, and the maps of lists of numbers on them.
use Rattle.std.proofs.Common.{◌≡◌, ℕ, ◌*◌, ◌/◌, ◌%◌, ◌<◌, List, length, get_or, Some, sym, ap, ◌∙◌, arith, zero-add}
use Rattle.std.specs.List.{range_with_len}
use Rattle.std.proofs.lemmas.List.{ext_get_or}
use Rattle.std.proofs.lemmas.List.FromFn.{length-map-range_with_len, get_or-map-range_with_len, length-range_with_len}
use Rattle.std.proofs.lemmas.Nat.{mul-add-lt}
use Rattle.wfc_lists.proofs.Growing.{range_rises}
use Rattle.wfc_lists.proofs.Ranges.{range_at, range_Contains}
use Rattle.wfc_model.specs.Raster.{Raster, number_at, raster_of}
use Rattle.wfc_places.specs.Steps.{place_number}
use Rattle.wfc_tiled.specs.Mask.{IsPlace, cell_number, plain_mask}
use Rattle.wfc_tiled.specs.Maps.{number_of_cell, numbers_of_cells, numbers_of_places, tile_map}
use Rattle.wfc_tiled.proofs.MaskLemmas.{found}

-- the place of a cell is its number
pub plain_place : (w h c : ℕ) → c < w * h → get_or (plain_mask w h).places c 0 ≡ c
plain_place w h c inside = range_at (w * h) c inside

-- and its number is the cell of the place
pub plain_cell : (w h c : ℕ) → c < w * h → cell_number (plain_mask w h) c ≡ Some c
plain_cell w h c inside = found (range_with_len 0 (w * h)) c c (range_rises (w * h)) (omega (arith, length-range_with_len 0 (w * h))) (range_at (w * h) c inside)

-- a place counted row by row is one of the map
pub cell_below : (w h x y : ℕ) → x < w → y < h → place_number w x y < w * h
cell_below w h x y column row = omega (arith, mul-add-lt y w x h row column)

-- each place is one of the mask
pub plain_there : (w h x y : ℕ) → x < w → y < h → IsPlace (plain_mask w h) x y
plain_there w h x y column row = range_Contains (w * h) (place_number w x y) (cell_below w h x y column row)

-- the map of as many numbers as there are places is the picture of these numbers
pub plain_map : (w h : ℕ) (a : List ℕ) → length a ≡ w * h → tile_map (plain_mask w h) a ≡ raster_of w h a
plain_map w h a long =
    let F : ℕ → ℕ = λ n. number_of_cell a (cell_number (plain_mask w h) n) in
    let many : length (numbers_of_cells (plain_mask w h) a) ≡ w * h = length-map-range_with_len F 0 (w * h) in
    ap (raster_of w h) (ext_get_or 0 (numbers_of_cells (plain_mask w h) a) a (many ∙ sym long) (λ k within.
    let inside : k < w * h = omega (arith, many) in
    get_or-map-range_with_len F 0 (w * h) k k 0 inside (zero-add k) ∙ ap (number_of_cell a) (plain_cell w h k inside)))

-- what a map has at a place, as an entry of its assignment
pub plain_number : (w h : ℕ) (m : Raster) (c : ℕ) → c < w * h → get_or (numbers_of_places (plain_mask w h) m) c 0 ≡ number_at m (c % w) (c / w)
plain_number w h m c inside = get_or-map-range_with_len (λ n. number_at m (n % w) (n / w)) 0 (w * h) c c 0 inside (zero-add c)

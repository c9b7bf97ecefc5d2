-- The constraint problem of a tile set: a cell for each place that is no hole, and the variants as values.
use Rattle.std.specs.Prelude.{ℕ, ◌/◌, ◌%◌, ◌==◌, Bool, not, ◌&&◌, ◌||◌, List, length, map, filter, unwrap_or, if◌then◌else◌}
use Rattle.std.specs.List.{flat_map, list_all, range_with_len}
use Rattle.wfc_model.specs.Direction.{left_by, down_by, right_by, up_by}
use Rattle.wfc_model.specs.Legal.{Pin}
use Rattle.wfc_places.specs.Marks.{suits}
use Rattle.wfc_places.specs.Steps.{place_number, is_there, step_end}
use Rattle.wfc_problem.specs.Network.{Network}
use Rattle.wfc_problem.specs.declared.TheConstants.{NO_CELL}
use Rattle.wfc_tileset.specs.Tiles.{TileView, TileSetView, variant_total, variant_at, tile_at}
use Rattle.wfc_tileset.specs.Allowed.{may_be_above, may_be_left}
use Rattle.wfc_tiled.specs.Mask.{MaskView, cell_number}

-- whether a step in a direction from the place in a column and a row leads to a place of the map
abbrev pub is_step : MaskView → Bool → ℕ → ℕ → ℕ → Bool
is_step mask wrap x y d =
    is_there mask.width wrap (right_by d) (left_by d) x && is_there mask.height wrap (down_by d) (up_by d) y

-- the number of the place that it leads to, modulo the sides
abbrev pub step_from : MaskView → ℕ → ℕ → ℕ → ℕ
step_from mask x y d =
    place_number mask.width (step_end mask.width (right_by d) (left_by d) x) (step_end mask.height (down_by d) (up_by d) y)

-- the cell beside a place in a direction, where there is one that is no hole
abbrev pub tile_beside : MaskView → Bool → ℕ → ℕ → ℕ → ℕ
tile_beside mask wrap x y d =
    if is_step mask wrap x y d then unwrap_or (cell_number mask (step_from mask x y d)) NO_CELL else NO_CELL

-- the cells beside a place by its number, direction by direction
abbrev pub tiles_beside : MaskView → Bool → ℕ → List ℕ
tiles_beside mask wrap n = map (λ d. tile_beside mask wrap (n % mask.width) (n / mask.width) d) (range_with_len 0 4)

-- the cells beside each place
abbrev pub tile_neighbour_table : MaskView → Bool → List ℕ
tile_neighbour_table mask wrap = flat_map (λ n. tiles_beside mask wrap n) mask.places

-- whether the variant w may stand beside v in a direction
abbrev pub variants_fit : TileSetView → ℕ → ℕ → ℕ → Bool
variants_fit set d v w =
    if d == 0 then may_be_left set w v else if d == 1 then may_be_above set v w
    else if d == 2 then may_be_left set v w else may_be_above set w v

-- the variants that may stand beside v in a direction, rising
abbrev pub fitting_variants : TileSetView → ℕ → ℕ → List ℕ
fitting_variants set v d = filter (λ w. variants_fit set d v w) (range_with_len 0 (variant_total set.tiles))

-- direction by direction
abbrev pub all_fitting : TileSetView → ℕ → List (List ℕ)
all_fitting set v = map (λ d. fitting_variants set v d) (range_with_len 0 4)

-- for each variant
abbrev pub tile_support_table : TileSetView → List (List ℕ)
tile_support_table set = flat_map (λ v. all_fitting set v) (range_with_len 0 (variant_total set.tiles))

-- the weight of each variant: that of its tile
abbrev pub variant_weights : List TileView → List ℕ
variant_weights tiles = map (λ v. (tile_at tiles (variant_at tiles v).0).weight) (range_with_len 0 (variant_total tiles))

-- whether a variant at a place suits a pin, where it is the pin's place
abbrev pub variant_suits_at : ℕ → ℕ → ℕ → Pin → Bool
variant_suits_at width n v pin = not (place_number width pin.column pin.row == n) || suits pin v

-- whether it suits all of them
abbrev pub variant_meets_pins : ℕ → List Pin → ℕ → ℕ → Bool
variant_meets_pins width pins n v = list_all (λ pin. variant_suits_at width n v pin) pins

-- for each variant whether it meets the pins and bans at a place
abbrev pub base_row : TileSetView → ℕ → List Pin → ℕ → List Bool
base_row set width pins n = map (λ v. variant_meets_pins width pins n v) (range_with_len 0 (variant_total set.tiles))

-- for each place
abbrev pub tile_base_table : TileSetView → MaskView → List Pin → List Bool
tile_base_table set mask pins = flat_map (λ n. base_row set mask.width pins n) mask.places

-- a cell for each place that is no hole, row by row, beside it the places one step away that are no holes, the
-- variants with their weights, beside each those that may stand there, and at each cell those that meet the pins
-- and bans
abbrev pub problem_of_tiles : TileSetView → MaskView → Bool → List Pin → Network
problem_of_tiles set mask wrap pins = record {
  cells = length mask.places;
  dirs = 4;
  neighbours = tile_neighbour_table mask wrap;
  weights = variant_weights set.tiles;
  supports = tile_support_table set;
  base = tile_base_table set mask pins;
}

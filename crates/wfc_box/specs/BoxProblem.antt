-- The constraint problem of a box: a cell for each place, and the variants as values. There are six directions, of
-- which 4 leads up to the next layer and 5 down.
use Rattle.std.specs.Prelude.{ℕ, ◌+◌, ◌-◌, ◌*◌, ◌/◌, ◌%◌, ◌==◌, nat_lt, Bool, not, ◌||◌, List, map, filter, if◌then◌else◌}
use Rattle.std.specs.List.{flat_map, list_all, range_with_len}
use Rattle.wfc_places.specs.Marks.{suits}
use Rattle.wfc_problem.specs.Assignment.{IsLegalAssignment}
use Rattle.wfc_problem.specs.Network.{Network}
use Rattle.wfc_problem.specs.declared.TheConstants.{NO_CELL}
use Rattle.wfc_tileset.specs.Tiles.{TileSetView, variant_total}
use Rattle.wfc_tiled.specs.Tiles.{variants_fit, is_step, step_from, variant_weights}
use Rattle.wfc_box.specs.Boxes.{LayerPin, area, box_cell, layer_mask, places_in}
use Rattle.wfc_box.specs.Stacks.{is_stacked}
use Rattle.wfc_box.specs.declared.frame.Frame.{Frame}

-- the cell beside a place of a layer in one of the first four directions, where there is one
abbrev pub beside_in_layer : Frame → ℕ → ℕ → ℕ → ℕ
beside_in_layer frame z n d =
    if is_step (layer_mask frame) frame.wrap (n % frame.width) (n / frame.width) d
    then z * area frame + step_from (layer_mask frame) (n % frame.width) (n / frame.width) d else NO_CELL

-- the cell above a cell, where there is one
abbrev pub above : Frame → ℕ → ℕ
above frame c = if nat_lt (c / area frame + 1) frame.depth then c + area frame else NO_CELL

-- the cell below it
abbrev pub below : Frame → ℕ → ℕ
below frame c = if nat_lt 0 (c / area frame) then c - area frame else NO_CELL

-- the cell beside a cell in a direction
abbrev pub beside_in_box : Frame → ℕ → ℕ → ℕ
beside_in_box frame c d =
    if nat_lt d 4 then beside_in_layer frame (c / area frame) (c % area frame) d
    else if d == 4 then above frame c else below frame c

-- the cells beside a cell, direction by direction
abbrev pub all_beside_in_box : Frame → ℕ → List ℕ
all_beside_in_box frame c = map (beside_in_box frame c) (range_with_len 0 6)

-- the cells beside each cell
abbrev pub box_neighbours : Frame → List ℕ
box_neighbours frame = flat_map (all_beside_in_box frame) (range_with_len 0 (places_in frame))

-- whether the variant w may stand beside v in a direction: within a layer as on a map, above where w may stand on v,
-- and below where v may stand on w
abbrev pub fits_in : TileSetView → List (ℕ × ℕ) → ℕ → ℕ → ℕ → Bool
fits_in set stacked d v w =
    if nat_lt d 4 then variants_fit set d v w
    else if d == 4 then is_stacked stacked v w else is_stacked stacked w v

-- the variants that may stand beside v in a direction, rising
abbrev pub fitting_in_box : TileSetView → List (ℕ × ℕ) → ℕ → ℕ → List ℕ
fitting_in_box set stacked v d =
    filter (λ w. fits_in set stacked d v w) (range_with_len 0 (variant_total set.tiles))

-- direction by direction
abbrev pub all_fitting_in_box : TileSetView → List (ℕ × ℕ) → ℕ → List (List ℕ)
all_fitting_in_box set stacked v = map (λ d. fitting_in_box set stacked v d) (range_with_len 0 6)

-- for each variant
abbrev pub box_supports : TileSetView → List (ℕ × ℕ) → List (List ℕ)
box_supports set stacked =
    flat_map (λ v. all_fitting_in_box set stacked v) (range_with_len 0 (variant_total set.tiles))

-- the cell of a pin's place
abbrev pub pin_cell : Frame → LayerPin → ℕ
pin_cell frame p = box_cell frame p.pin.column p.pin.row p.layer

-- whether a variant at a cell suits a pin, where it is the cell of the pin's place
abbrev pub suits_cell : Frame → ℕ → ℕ → LayerPin → Bool
suits_cell frame c v p = not (pin_cell frame p == c) || suits p.pin v

-- whether it suits all of them
abbrev pub meets_in_box : Frame → List LayerPin → ℕ → ℕ → Bool
meets_in_box frame pins c v = list_all (λ p. suits_cell frame c v p) pins

-- for each variant whether it meets the pins and bans at a cell
abbrev pub box_base_row : TileSetView → Frame → List LayerPin → ℕ → List Bool
box_base_row set frame pins c =
    map (λ v. meets_in_box frame pins c v) (range_with_len 0 (variant_total set.tiles))

-- for each cell
abbrev pub box_base_table : TileSetView → Frame → List LayerPin → List Bool
box_base_table set frame pins =
    flat_map (λ c. box_base_row set frame pins c) (range_with_len 0 (places_in frame))

-- a cell for each place, layer by layer and row by row, beside it the places one step away, the variants with their
-- weights, beside each those that may stand there, and at each cell those that meet the pins and bans
abbrev pub problem_of_box : TileSetView → List (ℕ × ℕ) → Frame → List LayerPin → Network
problem_of_box set stacked frame pins = record {
  cells = places_in frame;
  dirs = 6;
  neighbours = box_neighbours frame;
  weights = variant_weights set.tiles;
  supports = box_supports set stacked;
  base = box_base_table set frame pins;
}

-- an assignment is legal for the problem of a box
abbrev pub IsLegalInBox : TileSetView → List (ℕ × ℕ) → Frame → List LayerPin → List ℕ → Type 0
IsLegalInBox set stacked frame pins a = IsLegalAssignment (problem_of_box set stacked frame pins) a

-- The problem of a box, entry by entry; and that it is a problem.
use Rattle.std.proofs.Common.{◌≡◌, ◌≢◌, ℕ, zero, suc, ◌+◌, ◌-◌, ◌*◌, ◌/◌, ◌%◌, ◌<◌, ◌≤◌, Bool, true, false, ◌⊎◌, inl, inr, List, [], length, get_or, Some, refl, sym, subst, ap, ◌∙◌, arith, zero-add}
use Rattle.std.specs.Prelude.{Contains, nat_lt, if◌then◌else◌}
use Rattle.std.specs.List.{range_with_len}
use Rattle.std.specs.List.Sorted.{IsStrictlyIncreasing}
use Rattle.std.proofs.lemmas.Bool.{cases_lt, cases_eq, cond-true, lt-ltb, ltb-true}
use Rattle.std.proofs.lemmas.List.{get_or_past}
use Rattle.std.proofs.lemmas.List.Kept.{IsStrictlyIncreasing-filter}
use Rattle.std.proofs.lemmas.List.FromFn.{length-map-range_with_len, get_or-map-range_with_len, length-range_with_len}
use Rattle.std.proofs.lemmas.Nat.{mul-add-lt, mod-mul-add, div-mul-add}
use Rattle.std.proofs.Math.Nat.{mul-le-mul_right, mul-le-mul_left, mul-pos}
use Rattle.wfc_lists.proofs.Lists.{Contains-filter, filter-Contains}
use Rattle.wfc_lists.proofs.Ranges.{range_at, range_Contains, Contains_range}
use Rattle.wfc_lists.proofs.Tables.{length-table, table-at, row_below}
use Rattle.wfc_model.specs.Direction.{opposite, left_by, down_by, right_by, up_by}
use Rattle.wfc_model.proofs.CallerLemmas.{opposite_below, cell_is}
use Rattle.wfc_problem.specs.Network.{Network, IsProblem, neighbour, supports_of, in_base, has_flag}
use Rattle.wfc_problem.specs.declared.TheConstants.{NO_CELL, MAX_PAIRS}
use Rattle.wfc_problem.proofs.CallerLemmas.{neighbour_read, neighbour_not_none, neighbour_is, supports_at, supports_past, supports_inside, flag_at}
use Rattle.wfc_places.specs.Steps.{place_number}
use Rattle.wfc_places.proofs.CallerLemmas as shared
use Rattle.wfc_places.proofs.CallerLemmas.{IsFitting, length-supports, supports_rise, stepped-is, one_across, one_down}
use Rattle.wfc_tileset.specs.Tiles.{TileSetView, variant_total, variant_at, tile_at}
use Rattle.wfc_tileset.specs.TileSets.{IsTileSet}
use Rattle.wfc_tileset.proofs.CallerLemmas.{few_tiles}
use Rattle.wfc_tiled.specs.Built as tiled
use Rattle.wfc_tiled.specs.Mask.{MaskView, IsMask, cell_number}
use Rattle.wfc_tiled.specs.Tiles.{is_step, step_from, problem_of_tiles}
use Rattle.wfc_tiled.proofs.CallerLemmas.{beside-neighbour, cell_below, neighbour-beside, plain_cell, plain_is, plain_place, stands, tiles_problem}
use Rattle.wfc_box.specs.Boxes.{IsFrame, IsInBox, LayerPin, area, layer_mask, places_in}
use Rattle.wfc_box.specs.declared.frame.Frame.{Frame}
use Rattle.wfc_box.specs.BoxProblem.{beside_in_box, beside_in_layer, all_beside_in_box, fits_in, fitting_in_box, all_fitting_in_box, meets_in_box, box_base_row, pin_cell, problem_of_box}

-- what fits in a direction fits the other way round in the opposite one
pub opposite_fits : (set : TileSetView) (stacked : List (ℕ × ℕ)) (d v w : ℕ) → d < 6 → fits_in set stacked d v w ≡ true → fits_in set stacked (opposite d) w v ≡ true
opposite_fits set stacked zero v w dir t = t
opposite_fits set stacked (suc zero) v w dir t = t
opposite_fits set stacked (suc (suc zero)) v w dir t = t
opposite_fits set stacked (suc (suc (suc zero))) v w dir t = t
opposite_fits set stacked (suc (suc (suc (suc zero)))) v w dir t = t
opposite_fits set stacked (suc (suc (suc (suc (suc zero))))) v w dir t = t
opposite_fits set stacked (suc (suc (suc (suc (suc (suc d)))))) v w dir t = absurd (omega arith)

-- a layer has a mask
pub layer_is : (frame : Frame) → IsFrame frame → IsMask (layer_mask frame)
layer_is frame is = plain_is frame.width frame.height is.some_column is.some_row is.width_limit is.height_limit

-- and a place
pub some_area : (frame : Frame) → IsFrame frame → 0 < area frame
some_area frame is = mul-pos is.some_column is.some_row

-- the cell of a place in a layer
pub record IsCellOf (frame : Frame) (c z n : ℕ) : Type 0 where
  pub inside : c < places_in frame
  pub layer : c / area frame ≡ z
  pub place : c % area frame ≡ n

pub cell_of_layer : (frame : Frame) (z n : ℕ) → z < frame.depth → n < area frame → IsCellOf frame (z * area frame + n) z n
cell_of_layer frame z n layer place = record {
  inside = omega (arith, mul-add-lt z (area frame) n frame.depth layer place);
  layer = div-mul-add z (area frame) n place;
  place = mod-mul-add z (area frame) n place;
}

-- a pin that lies inside has a cell
pub pin_inside : (frame : Frame) (p : LayerPin) → IsInBox frame p → pin_cell frame p < places_in frame
pin_inside frame p is = (cell_of_layer frame p.layer (place_number frame.width p.pin.column p.pin.row) is.layer_in (cell_below frame.width frame.height _ _ is.column_in is.row_in)).inside

-- and its row lies in a table
pub row_inside : (frame : Frame) (n : ℕ) (p : LayerPin) → IsInBox frame p → pin_cell frame p * n + n ≤ places_in frame * n
row_inside frame n p is =
    let next : (pin_cell frame p + 1) * n ≡ pin_cell frame p * n + n = omega arith in
    let more : (pin_cell frame p + 1) * n ≤ places_in frame * n = mul-le-mul_right n (omega (arith, pin_inside frame p is)) in
    omega (arith, next, more)

-- a tile set has a variant, so that there are no more cells than pairs
pub few_cells : (set : TileSetView) (frame : Frame) → IsTileSet set → places_in frame * variant_total set.tiles ≤ MAX_PAIRS → places_in frame ≤ MAX_PAIRS
few_cells set frame tiles few =
    let times : places_in frame * 1 ≤ places_in frame * variant_total set.tiles = mul-le-mul_left (places_in frame) (omega (arith, few_tiles set.tiles, tiles.some_tile)) in
    omega (arith, times, few)

module _ (set : TileSetView) (stacked : List (ℕ × ℕ)) (frame : Frame) (pins : List LayerPin) where
  abbrev P : Network
  P = problem_of_box set stacked frame pins

  -- the problem of a layer, without pins
  abbrev Q : Network
  Q = problem_of_tiles set (layer_mask frame) frame.wrap []

  abbrev count : ℕ
  count = variant_total set.tiles

  abbrev A : ℕ
  A = area frame

  abbrev w : ℕ
  w = frame.width

  abbrev h : ℕ
  h = frame.height

  abbrev mask : MaskView
  mask = layer_mask frame

  -- ---- what lies beside a cell

  length-neighbours : length P.neighbours ≡ P.cells * 6
  length-neighbours =
      length-table (all_beside_in_box frame) 6 (λ c. length-map-range_with_len (beside_in_box frame c) 0 6) (range_with_len 0 P.cells)
      ∙ ap (λ k. k * 6) (length-range_with_len 0 P.cells)

  pub entry : (c d : ℕ) → c < P.cells → d < 6 → get_or P.neighbours (c * 6 + d) NO_CELL ≡ beside_in_box frame c d
  entry c d inside dir =
      table-at (all_beside_in_box frame) 6 (λ c. length-map-range_with_len (beside_in_box frame c) 0 6) (range_with_len 0 P.cells) c d 0 NO_CELL
      (omega (arith, length-range_with_len 0 P.cells)) dir
      ∙ ap (λ k. get_or (all_beside_in_box frame k) d NO_CELL) (range_at P.cells c inside)
      ∙ get_or-map-range_with_len (beside_in_box frame c) 0 6 d d NO_CELL dir (zero-add d)

  -- the cell m lies beside c
  pub record IsNear (c d m : ℕ) : Type 0 where
    pub inside : c < P.cells
    pub dir : d < 6
    pub entry : beside_in_box frame c d ≡ m
    pub some : m ≡ NO_CELL → ⊥

  pub neighbour-near : (c d m : ℕ) → neighbour P c d ≡ Some m → IsNear c d m
  neighbour-near c d m at =
      let read = neighbour_read P c d m at in
      let inside = row_below c d 6 P.cells (omega (arith, read.inside, length-neighbours)) in
      record {
        inside = inside;
        dir = read.dir_in;
        entry = sym (entry c d inside read.dir_in) ∙ read.entry;
        some = neighbour_not_none P c d m at;
      }

  pub near-neighbour : (c d m : ℕ) → IsNear c d m → neighbour P c d ≡ Some m
  near-neighbour c d m near =
      let is_m : get_or P.neighbours (c * 6 + d) NO_CELL ≡ m = entry c d near.inside near.dir ∙ near.entry in
      neighbour_is P c d near.dir (λ none. near.some (sym is_m ∙ none)) ∙ ap Some is_m

  -- ---- within a layer

  -- a step from a place of a layer leads to one
  step_below : (n d : ℕ) → n < A → step_from mask (n % w) (n / w) d < A
  step_below n d inside =
      let at = cell_is w h n (omega arith) in
      let u = stepped-is w (right_by d) (left_by d) (n % w) at.column (one_across d) in
      let v = stepped-is h (down_by d) (up_by d) (n / w) at.row (one_down d) in
      cell_below w h _ _ u.below v.below

  -- the place k of the layer lies beside n, and m is its cell
  pub record IsBesideIn (z n d m : ℕ) : Type 0 where
    pub to : ℕ
    pub cell : m ≡ z * A + to
    pub to_in : to < A
    pub beside : neighbour Q n d ≡ Some to

  by_step : IsFrame frame → (z n d m : ℕ) → n < A → d < 4 → (m ≡ NO_CELL → ⊥) → (b : Bool) → is_step mask frame.wrap (n % w) (n / w) d ≡ b
      → (if b then z * A + step_from mask (n % w) (n / w) d else NO_CELL) ≡ m → IsBesideIn z n d m
  by_step is z n d m inside dir some false step e = absurd (some (sym e))
  by_step is z n d m inside dir some true step e =
      let to = step_from mask (n % w) (n / w) d in
      let same : get_or mask.places n 0 ≡ n = plain_place w h n inside in
      record {
        to = to;
        cell = sym e;
        to_in = step_below n d inside;
        beside = beside-neighbour set mask frame.wrap [] (layer_is frame is) n d to (omega (arith, length-range_with_len 0 A)) (record {
          dir = dir;
          there = ap (λ k. is_step mask frame.wrap (k % w) (k / w) d) same ∙ step;
          cell = ap (λ k. cell_number mask (step_from mask (k % w) (k / w) d)) same ∙ plain_cell w h to (step_below n d inside);
        });
      }

  pub near-layer : IsFrame frame → (c d m : ℕ) → d < 4 → IsNear c d m → IsBesideIn (c / A) (c % A) d m
  near-layer is c d m dir near =
      let at = cell_is A frame.depth c near.inside in
      by_step is (c / A) (c % A) d m at.column dir near.some (is_step mask frame.wrap (c % A % w) (c % A / w) d) refl
      (sym (cond-true (nat_lt d 4) _ _ (lt-ltb d 4 dir)) ∙ near.entry)

  pub layer-neighbour : P.cells ≤ MAX_PAIRS → (z n d k : ℕ) → z < frame.depth → n < A → neighbour Q n d ≡ Some k → neighbour P (z * A + n) d ≡ Some (z * A + k)
  layer-neighbour few z n d k layer place at =
      let near = neighbour-beside set mask frame.wrap [] n d k at in
      let same : get_or mask.places n 0 ≡ n = plain_place w h n place in
      let stand = stands mask.places _ k near.cell in
      let inside : k < A = omega (arith, stand.0, length-range_with_len 0 A) in
      let step : is_step mask frame.wrap (n % w) (n / w) d ≡ true = ap (λ j. is_step mask frame.wrap (j % w) (j / w) d) (sym same) ∙ near.there in
      let leads : step_from mask (n % w) (n / w) d ≡ k = ap (λ j. step_from mask (j % w) (j / w) d) (sym same) ∙ sym stand.1 ∙ plain_place w h k inside in
      let cell = cell_of_layer frame z n layer place in
      let other = cell_of_layer frame z k layer inside in
      near-neighbour (z * A + n) d (z * A + k) (record {
        inside = cell.inside;
        dir = omega (arith, near.dir);
        entry = cond-true (nat_lt d 4) _ _ (lt-ltb d 4 near.dir)
            ∙ ap (λ j. beside_in_layer frame j ((z * A + n) % A) d) cell.layer ∙ ap (λ j. beside_in_layer frame z j d) cell.place
            ∙ cond-true (is_step mask frame.wrap (n % w) (n / w) d) _ _ step ∙ ap (λ j. z * A + j) leads;
        some = λ none. absurd (omega (arith, none, other.inside, few));
      })

  -- ---- from layer to layer

  up_by_test : (c m : ℕ) → (m ≡ NO_CELL → ⊥) → (b : Bool) → nat_lt (c / A + 1) frame.depth ≡ b → (if b then c + A else NO_CELL) ≡ m → (c / A + 1 < frame.depth) × (m ≡ c + A)
  up_by_test c m some true test e = (ltb-true (c / A + 1) frame.depth test, sym e)
  up_by_test c m some false test e = absurd (some (sym e))

  down_by_test : (c m : ℕ) → (m ≡ NO_CELL → ⊥) → (b : Bool) → nat_lt 0 (c / A) ≡ b → (if b then c - A else NO_CELL) ≡ m → (0 < c / A) × (m ≡ c - A)
  down_by_test c m some true test e = (ltb-true 0 (c / A) test, sym e)
  down_by_test c m some false test e = absurd (some (sym e))

  pub near-above : (c m : ℕ) → IsNear c 4 m → (c / A + 1 < frame.depth) × (m ≡ c + A)
  near-above c m near = up_by_test c m near.some (nat_lt (c / A + 1) frame.depth) refl near.entry

  pub near-below : (c m : ℕ) → IsNear c 5 m → (0 < c / A) × (m ≡ c - A)
  near-below c m near = down_by_test c m near.some (nat_lt 0 (c / A)) refl near.entry

  pub next_layer : (z n : ℕ) → (z + 1) * A + n ≡ z * A + n + A
  next_layer z n = omega arith

  pub above-neighbour : P.cells ≤ MAX_PAIRS → (z n : ℕ) → z + 1 < frame.depth → n < A → neighbour P (z * A + n) 4 ≡ Some ((z + 1) * A + n)
  above-neighbour few z n layer place =
      let cell = cell_of_layer frame z n (omega arith) place in
      let other = cell_of_layer frame (z + 1) n layer place in
      near-neighbour (z * A + n) 4 ((z + 1) * A + n) (record {
        inside = cell.inside;
        dir = omega arith;
        entry = cond-true (nat_lt ((z * A + n) / A + 1) frame.depth) _ _ (lt-ltb _ _ (omega (arith, cell.layer))) ∙ sym (next_layer z n);
        some = λ none. absurd (omega (arith, none, other.inside, few));
      })

  pub below-neighbour : P.cells ≤ MAX_PAIRS → (z n : ℕ) → z + 1 < frame.depth → n < A → neighbour P ((z + 1) * A + n) 5 ≡ Some (z * A + n)
  below-neighbour few z n layer place =
      let cell = cell_of_layer frame z n (omega arith) place in
      let other = cell_of_layer frame (z + 1) n layer place in
      let back : (z + 1) * A + n - A ≡ z * A + n = omega (arith, next_layer z n) in
      near-neighbour ((z + 1) * A + n) 5 (z * A + n) (record {
        inside = other.inside;
        dir = omega arith;
        entry = cond-true (nat_lt 0 (((z + 1) * A + n) / A)) _ _ (lt-ltb _ _ (omega (arith, other.layer))) ∙ back;
        some = λ none. absurd (omega (arith, none, cell.inside, few));
      })

  -- one of the first four directions, up or down
  pub cases_dir : (d : ℕ) → d < 6 → (d < 4) ⊎ ((4 ≡ d) ⊎ (5 ≡ d))
  cases_dir d dir = elim (cases_lt d 4) [ inl l ↦ inl l | inr ge ↦ elim (cases_eq d 4) [ inl e ↦ inr (inl (sym e)) | inr ne ↦ inr (inr (elim (cases_eq d 5) [ inl e ↦ sym e | inr other ↦ absurd (five d dir ge ne other) ])) ] ]
    where
      five : (d : ℕ) → d < 6 → 4 ≤ d → d ≢ 4 → d ≢ 5 → ⊥
      five d dir ge ne other = elim (cases_lt d 5) [ inl l ↦ ne (omega arith) | inr more ↦ other (omega arith) ]

  in_cells_by : IsFrame frame → (c d m : ℕ) → IsNear c d m → (d < 4) ⊎ ((4 ≡ d) ⊎ (5 ≡ d)) → m < P.cells
  in_cells_by is c d m near (inl low) =
      let at = cell_is A frame.depth c near.inside in
      let to = near-layer is c d m low near in
      omega (arith, to.cell, mul-add-lt (c / A) A to.to frame.depth at.row to.to_in)
  in_cells_by is c d m near (inr (inl e)) =
      let at = cell_is A frame.depth c near.inside in
      let up = near-above c m (subst (λ k. IsNear c k m) (sym e) near) in
      omega (arith, up.1, at.cell, next_layer (c / A) (c % A), mul-add-lt (c / A + 1) A (c % A) frame.depth up.0 at.column)
  in_cells_by is c d m near (inr (inr e)) =
      let low = near-below c m (subst (λ k. IsNear c k m) (sym e) near) in
      omega (arith, low.1, near.inside)

  pub in_cells : IsFrame frame → (c d m : ℕ) → neighbour P c d ≡ Some m → m < P.cells
  in_cells is c d m at = let near = neighbour-near c d m at in in_cells_by is c d m near (cases_dir d near.dir)

  -- ---- the step back

  back_by : IsFrame frame → IsProblem Q → P.cells ≤ MAX_PAIRS → (c d m : ℕ) → IsNear c d m → (d < 4) ⊎ ((4 ≡ d) ⊎ (5 ≡ d)) → neighbour P m (opposite d) ≡ Some c
  back_by is q few c d m near (inl low) =
      let at = cell_is A frame.depth c near.inside in
      let to = near-layer is c d m low near in
      let turn = layer-neighbour few (c / A) to.to (opposite d) (c % A) at.row to.to_in (q.back (c % A) d to.to to.beside) in
      subst (λ k. neighbour P m (opposite d) ≡ Some k) at.cell (subst (λ k. neighbour P k (opposite d) ≡ Some (c / A * A + c % A)) (sym to.cell) turn)
  back_by is q few c d m near (inr (inl e)) =
      let at = cell_is A frame.depth c near.inside in
      let up = near-above c m (subst (λ k. IsNear c k m) (sym e) near) in
      let m_is : (c / A + 1) * A + c % A ≡ m = omega (arith, up.1, at.cell, next_layer (c / A) (c % A)) in
      let turn = below-neighbour few (c / A) (c % A) up.0 at.column in
      let turned : neighbour P m 5 ≡ Some c = subst (λ k. neighbour P m 5 ≡ Some k) at.cell (subst (λ k. neighbour P k 5 ≡ Some (c / A * A + c % A)) m_is turn) in
      subst (λ k. neighbour P m (opposite k) ≡ Some c) e turned
  back_by is q few c d m near (inr (inr e)) =
      let at = cell_is A frame.depth c near.inside in
      let low = near-below c m (subst (λ k. IsNear c k m) (sym e) near) in
      let z = c / A - 1 in
      let layer : z + 1 ≡ c / A = omega (arith, low.0) in
      let c_is : (z + 1) * A + c % A ≡ c = ap (λ k. k * A + c % A) layer ∙ at.cell in
      let m_is : z * A + c % A ≡ m = omega (arith, low.1, c_is, next_layer z (c % A)) in
      let turn = above-neighbour few z (c % A) (omega (arith, layer, at.row)) at.column in
      let turned : neighbour P m 4 ≡ Some c = subst (λ k. neighbour P m 4 ≡ Some k) c_is (subst (λ k. neighbour P k 4 ≡ Some ((z + 1) * A + c % A)) m_is turn) in
      subst (λ k. neighbour P m (opposite k) ≡ Some c) e turned

  back : IsFrame frame → IsProblem Q → P.cells ≤ MAX_PAIRS → (c d m : ℕ) → neighbour P c d ≡ Some m → neighbour P m (opposite d) ≡ Some c
  back is q few c d m at = let near = neighbour-near c d m at in back_by is q few c d m near (cases_dir d near.dir)

  -- ---- which variants may stand side by side, or one on the other

  pub support-fits : (v u d : ℕ) → Contains (supports_of P v d) u → IsFitting count (fits_in set stacked) v u d
  support-fits v u d has = shared.support-fits P count (fits_in set stacked) refl v u d has

  pub fits-support : (v u d : ℕ) → d < 6 → IsFitting count (fits_in set stacked) v u d → Contains (supports_of P v d) u
  fits-support v u d dir fit = shared.fits-support P count (fits_in set stacked) refl v u d dir fit

  symmetric : (v u d : ℕ) → Contains (supports_of P v d) u → Contains (supports_of P u (opposite d)) v
  symmetric v u d has =
      let dir = (supports_inside P v d u has).0 in
      let is = support-fits v u d has in
      fits-support u v (opposite d) (opposite_below 6 d (inr refl) dir) (record { first = is.second; second = is.first; fit = opposite_fits set stacked d v u dir is.fit })

  -- ---- weights and the base

  pub length-weights : length P.weights ≡ count
  length-weights = length-map-range_with_len (λ v. (tile_at set.tiles (variant_at set.tiles v).0).weight) 0 count

  length-base : length P.base ≡ P.cells * length P.weights
  length-base =
      length-table (λ c. box_base_row set frame pins c) count (λ c. length-map-range_with_len (λ v. meets_in_box frame pins c v) 0 count) (range_with_len 0 P.cells)
      ∙ ap (λ k. k * count) (length-range_with_len 0 P.cells)
      ∙ ap (λ k. P.cells * k) (sym length-weights)

  pub base-at : (c v : ℕ) → c < P.cells → v < count → in_base P c v ≡ meets_in_box frame pins c v
  base-at c v inside value =
      ap (λ k. has_flag k P.base c v) length-weights
      ∙ flag_at count P.base c v value
      ∙ table-at (λ c. box_base_row set frame pins c) count (λ c. length-map-range_with_len (λ v. meets_in_box frame pins c v) 0 count) (range_with_len 0 P.cells) c v 0 false
      (omega (arith, length-range_with_len 0 P.cells)) value
      ∙ ap (λ k. get_or (box_base_row set frame pins k) v false) (range_at P.cells c inside)
      ∙ get_or-map-range_with_len (λ v. meets_in_box frame pins c v) 0 count v v false value (zero-add v)

  -- a layer has no more pairs than the box
  pub layer_problem : IsTileSet set → IsFrame frame → P.cells * count ≤ MAX_PAIRS → IsProblem Q
  layer_problem tiles is few =
      let one : 1 * A ≤ frame.depth * A = mul-le-mul_right A (omega (arith, is.some_layer)) in
      let less : A * count ≤ P.cells * count = mul-le-mul_right count (omega (arith, one)) in
      let same : tiled.tile_pair_count set mask ≡ A * count = ap (λ k. k * count) (length-range_with_len 0 A) in
      tiles_problem set mask frame.wrap [] tiles (layer_is frame is) (omega (arith, less, few, same))

  pub box_problem : IsTileSet set → IsFrame frame → P.cells * count ≤ MAX_PAIRS → IsProblem P
  box_problem tiles is few_pairs =
      let q = layer_problem tiles is few_pairs in
      let few : P.cells ≤ MAX_PAIRS = few_cells set frame tiles few_pairs in
      record {
        sized = record {
          some_cell = mul-pos is.some_layer (some_area frame is);
          few_cells = few;
          four_or_six = inr refl;
          some_value = q.sized.some_value;
          few_values = q.sized.few_values;
          few_pairs = subst (λ k. P.cells * k ≤ MAX_PAIRS) (sym length-weights) few_pairs;
          neighbours_table = length-neighbours;
          supports_table = length-supports P count (fits_in set stacked) refl ∙ ap (λ k. k * 6) (sym length-weights);
          base_table = length-base;
        };
        indexed = record {
          in_cells = in_cells is;
          rising = supports_rise P count (fits_in set stacked) refl;
          in_values = λ v u d has. let fit = support-fits v u d has in omega (arith, length-weights, fit.second);
        };
        weighed = record { some_weight = q.weighed.some_weight; small_weight = q.weighed.small_weight };
        back = back is q few;
        symmetric = symmetric;
      }

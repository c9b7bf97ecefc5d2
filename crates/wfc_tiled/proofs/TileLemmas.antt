-- The problem of a tile set, entry by entry; and that it is a problem.
use Rattle.std.proofs.Common.{◌≡◌, ℕ, zero, suc, ◌+◌, ◌*◌, ◌/◌, ◌%◌, ◌<◌, ◌≤◌, Bool, true, false, inl, List, length, get_or, Option, None, Some, Ok, Err, cond, ltb, refl, sym, subst, ap, ◌∙◌, arith, zero-add}
use Rattle.std.specs.Prelude.{Contains, unwrap_or, if◌then◌else◌}
use Rattle.std.proofs.lemmas.Bool.{and_parts, and_from, cond-true, lt-ltb}
use Rattle.std.proofs.lemmas.List.FromFn.{length-map-range_with_len, get_or-map-range_with_len, length-range_with_len}
use Rattle.std.proofs.lemmas.Nat.{mod-mul-add, div-mul-add}
use Rattle.std.proofs.Math.Nat.{mul-le-mul_right, mul_comm}
use Rattle.wfc_lists.proofs.Tables.{length-table, table-at, row_below}
use Rattle.wfc_model.specs.Direction.{opposite, left_by, down_by, right_by, up_by}
use Rattle.wfc_model.specs.Legal.{Pin}
use Rattle.wfc_model.proofs.CallerLemmas.{opposite_below, IsCell, cell_is}
use Rattle.wfc_problem.specs.Network.{Network, IsProblem, neighbour, supports_of, in_base, has_flag}
use Rattle.wfc_problem.specs.declared.TheConstants.{NO_CELL, MAX_PAIRS}
use Rattle.wfc_problem.proofs.CallerLemmas.{neighbour_read, neighbour_not_none, neighbour_is, supports_inside, flag_at}
use Rattle.wfc_places.specs.Steps.{step_end, is_there, place_number}
use Rattle.wfc_places.proofs.CallerLemmas as shared
use Rattle.wfc_places.proofs.CallerLemmas.{IsFitting, length-supports, supports_rise, stepped-is, stepped-stepped, there_again, one_across, one_down}
use Rattle.wfc_tileset.specs.Tiles.{TileSetView, HasWeight, variant_total, variant_at, tile_at}
use Rattle.wfc_tileset.specs.TileSets.{IsTileSet}
use Rattle.wfc_tileset.proofs.CallerLemmas.{few_tiles, variant_there}
use Rattle.wfc_pins.specs.PinView.{PinView}
use Rattle.wfc_pins.specs.declared.fault.BuildFault.TheVariants.{TooLarge}
use Rattle.wfc_tiled.specs.Built.{checked_tile_map_pins, tile_pair_count, tile_map_pins, roomy_mask}
use Rattle.wfc_tiled.specs.Mask.{MaskView, IsMask, cell_number, plain_mask}
use Rattle.wfc_tiled.specs.Tiles.{is_step, step_from, tile_beside, tiles_beside, variants_fit, variant_meets_pins, base_row, problem_of_tiles}
use Rattle.wfc_tiled.proofs.MaskLemmas.{found, stands, few}

-- what fits in a direction fits the other way round in the opposite one
pub opposite_fits : (set : TileSetView) (d v w : ℕ) → d < 4 → variants_fit set d v w ≡ true → variants_fit set (opposite d) w v ≡ true
opposite_fits set zero v w dir t = t
opposite_fits set (suc zero) v w dir t = t
opposite_fits set (suc (suc zero)) v w dir t = t
opposite_fits set (suc (suc (suc zero))) v w dir t = t
opposite_fits set (suc (suc (suc (suc d)))) v w dir t = absurd (omega arith)

-- too many pairs of a place and a variant
pub crowded_mask : (set : TileSetView) (mask : MaskView) → MAX_PAIRS < tile_pair_count set mask → roomy_mask set mask ≡ Err (TooLarge (tile_pair_count set mask))
crowded_mask set mask more = cond-true (ltb MAX_PAIRS (tile_pair_count set mask)) (Err (TooLarge (tile_pair_count set mask))) (Ok mask) (lt-ltb MAX_PAIRS (tile_pair_count set mask) more)

pub crowded_pins : (set : TileSetView) (mask : MaskView) (lines : List PinView) → MAX_PAIRS < tile_pair_count set mask → checked_tile_map_pins set mask lines ≡ Err (TooLarge (tile_pair_count set mask))
crowded_pins set mask lines more = cond-true (ltb MAX_PAIRS (tile_pair_count set mask)) (Err (TooLarge (tile_pair_count set mask))) (tile_map_pins set.tiles mask lines) (lt-ltb MAX_PAIRS (tile_pair_count set mask) more)

-- on a map without holes
pub too_large : (set : TileSetView) (w h product : ℕ) → product ≡ w * h * variant_total set.tiles → MAX_PAIRS < product
    → roomy_mask set (plain_mask w h) ≡ Err (TooLarge product)
too_large set w h product is more =
    let same : tile_pair_count set (plain_mask w h) ≡ product = ap (λ k. k * variant_total set.tiles) (length-range_with_len 0 (w * h)) ∙ sym is in
    crowded_mask set (plain_mask w h) (omega (arith, same)) ∙ ap (λ k. Err (TooLarge k)) same

module _ (set : TileSetView) (mask : MaskView) (wrap : Bool) (pins : List Pin) where
  abbrev P : Network
  P = problem_of_tiles set mask wrap pins

  abbrev count : ℕ
  count = variant_total set.tiles

  -- the place of a cell
  abbrev place : ℕ → ℕ
  place c = get_or mask.places c 0

  abbrev across : ℕ → ℕ → ℕ
  across x d = step_end mask.width (right_by d) (left_by d) x

  abbrev down : ℕ → ℕ → ℕ
  down y d = step_end mask.height (down_by d) (up_by d) y

  pub place_is : IsMask mask → (c : ℕ) → c < P.cells → IsCell mask.width mask.height (place c) (place c % mask.width) (place c / mask.width)
  place_is is c inside = cell_is mask.width mask.height (place c) (omega (arith, is.inside c 0 inside))

  -- ---- what lies beside a cell

  pub entry : (c d : ℕ) → c < P.cells → d < 4 → get_or P.neighbours (c * 4 + d) NO_CELL ≡ tile_beside mask wrap (place c % mask.width) (place c / mask.width) d
  entry c d inside dir =
      table-at (λ n. tiles_beside mask wrap n) 4 (λ n. length-map-range_with_len (λ d. tile_beside mask wrap (n % mask.width) (n / mask.width) d) 0 4) mask.places c d 0 NO_CELL inside dir
      ∙ get_or-map-range_with_len (λ d. tile_beside mask wrap (place c % mask.width) (place c / mask.width) d) 0 4 d d NO_CELL dir (zero-add d)

  -- a step leads from the place of a cell to that of another
  pub record IsBeside (c d m : ℕ) : Type 0 where
    pub dir : d < 4
    pub there : is_step mask wrap (place c % mask.width) (place c / mask.width) d ≡ true
    pub cell : cell_number mask (step_from mask (place c % mask.width) (place c / mask.width) d) ≡ Some m

  by_cell : (c d m : ℕ) → neighbour P c d ≡ Some m → (o : Option ℕ) → unwrap_or o NO_CELL ≡ m → o ≡ Some m
  by_cell c d m at None is = absurd (neighbour_not_none P c d m at (sym is))
  by_cell c d m at (Some k) is = ap Some is

  by_step : (c d m : ℕ) → neighbour P c d ≡ Some m → d < 4 → (b : Bool) → is_step mask wrap (place c % mask.width) (place c / mask.width) d ≡ b
      → (if b then unwrap_or (cell_number mask (step_from mask (place c % mask.width) (place c / mask.width) d)) NO_CELL else NO_CELL) ≡ m → IsBeside c d m
  by_step c d m at dir true e is = record { dir = dir; there = e; cell = by_cell c d m at _ is }
  by_step c d m at dir false e is = absurd (neighbour_not_none P c d m at (sym is))

  pub neighbour-cell : (c d m : ℕ) → neighbour P c d ≡ Some m → c < P.cells
  neighbour-cell c d m at =
      let read = neighbour_read P c d m at in
      row_below c d 4 P.cells
      (omega (arith, read.inside, length-table (λ n. tiles_beside mask wrap n) 4 (λ n. length-map-range_with_len (λ d. tile_beside mask wrap (n % mask.width) (n / mask.width) d) 0 4) mask.places))

  pub neighbour-beside : (c d m : ℕ) → neighbour P c d ≡ Some m → IsBeside c d m
  neighbour-beside c d m at =
      let read = neighbour_read P c d m at in
      let inside = neighbour-cell c d m at in
      by_step c d m at read.dir_in (is_step mask wrap (place c % mask.width) (place c / mask.width) d) refl (sym (entry c d inside read.dir_in) ∙ read.entry)

  pub beside-neighbour : IsMask mask → (c d m : ℕ) → c < P.cells → IsBeside c d m → neighbour P c d ≡ Some m
  beside-neighbour is c d m inside near =
      let is_m : get_or P.neighbours (c * 4 + d) NO_CELL ≡ m =
      entry c d inside near.dir
      ∙ cond-true (is_step mask wrap (place c % mask.width) (place c / mask.width) d) (unwrap_or (cell_number mask (step_from mask (place c % mask.width) (place c / mask.width) d)) NO_CELL) NO_CELL near.there
      ∙ ap (λ o. unwrap_or o NO_CELL) near.cell in
      let at = stands mask.places (step_from mask (place c % mask.width) (place c / mask.width) d) m near.cell in
      neighbour_is P c d near.dir (λ none. absurd (omega (arith, is_m, none, at.0, few mask is))) ∙ ap Some is_m

  in_cells : (c d m : ℕ) → neighbour P c d ≡ Some m → m < P.cells
  in_cells c d m at = (stands mask.places _ m (neighbour-beside c d m at).cell).0

  -- ---- the step back

  back_by : IsMask mask → (c d e m : ℕ) → c < P.cells → e < 4
      → right_by e ≡ left_by d → left_by e ≡ right_by d → down_by e ≡ up_by d → up_by e ≡ down_by d
      → IsBeside c d m → neighbour P m e ≡ Some c
  back_by is c d e m inside dir right left low up near =
      let w = mask.width in
      let h = mask.height in
      let at = place_is is c inside in
      let x = place c % w in
      let y = place c / w in
      let parts = and_parts (is_there w wrap (right_by d) (left_by d) x) (is_there h wrap (down_by d) (up_by d) y) near.there in
      let u = stepped-is w (right_by d) (left_by d) x at.column (one_across d) in
      let v = stepped-is h (down_by d) (up_by d) y at.row (one_down d) in
      let other = stands mask.places (step_from mask x y d) m near.cell in
      let column : place m % w ≡ across x d = ap (λ k. k % w) other.1 ∙ mod-mul-add (down y d) w (across x d) u.below in
      let row : place m / w ≡ down y d = ap (λ k. k / w) other.1 ∙ div-mul-add (down y d) w (across x d) u.below in
      let across_there : is_there w wrap (right_by e) (left_by e) (across x d) ≡ true =
      ap (λ k. is_there w wrap k (left_by e) (across x d)) right ∙ ap (λ k. is_there w wrap (left_by d) k (across x d)) left
      ∙ there_again w wrap (right_by d) (left_by d) x at.column (one_across d) parts.0 in
      let down_there : is_there h wrap (down_by e) (up_by e) (down y d) ≡ true =
      ap (λ k. is_there h wrap k (up_by e) (down y d)) low ∙ ap (λ k. is_there h wrap (up_by d) k (down y d)) up
      ∙ there_again h wrap (down_by d) (up_by d) y at.row (one_down d) parts.1 in
      let back_x : across (across x d) e ≡ x =
      ap (λ k. step_end w k (left_by e) (across x d)) right ∙ ap (λ k. step_end w (left_by d) k (across x d)) left ∙ stepped-stepped w (right_by d) (left_by d) x at.column (one_across d) in
      let back_y : down (down y d) e ≡ y =
      ap (λ k. step_end h k (up_by e) (down y d)) low ∙ ap (λ k. step_end h (up_by d) k (down y d)) up ∙ stepped-stepped h (down_by d) (up_by d) y at.row (one_down d) in
      let there : is_step mask wrap (place m % w) (place m / w) e ≡ true =
      ap (λ k. is_step mask wrap k (place m / w) e) column ∙ ap (λ k. is_step mask wrap (across x d) k e) row ∙ and_from _ _ across_there down_there in
      let step : step_from mask (place m % w) (place m / w) e ≡ place c =
      ap (λ k. step_from mask k (place m / w) e) column ∙ ap (λ k. step_from mask (across x d) k e) row
      ∙ ap (λ k. place_number w k (down (down y d) e)) back_x ∙ ap (λ k. place_number w x k) back_y ∙ at.cell in
      beside-neighbour is m e c other.0 (record {
        dir = dir;
        there = there;
        cell = ap (cell_number mask) step ∙ found mask.places (place c) c is.rising inside refl;
      })

  back_at : IsMask mask → (c d m : ℕ) → c < P.cells → d < 4 → IsBeside c d m → neighbour P m (opposite d) ≡ Some c
  back_at is c zero m inside dir near = back_by is c 0 2 m inside (omega arith) refl refl refl refl near
  back_at is c (suc zero) m inside dir near = back_by is c 1 3 m inside (omega arith) refl refl refl refl near
  back_at is c (suc (suc zero)) m inside dir near = back_by is c 2 0 m inside (omega arith) refl refl refl refl near
  back_at is c (suc (suc (suc zero))) m inside dir near = back_by is c 3 1 m inside (omega arith) refl refl refl refl near
  back_at is c (suc (suc (suc (suc d)))) m inside dir near = absurd (omega arith)

  back : IsMask mask → (c d m : ℕ) → neighbour P c d ≡ Some m → neighbour P m (opposite d) ≡ Some c
  back is c d m at = let near = neighbour-beside c d m at in back_at is c d m (neighbour-cell c d m at) near.dir near

  -- ---- which variants may stand side by side

  pub support-fits : (v w d : ℕ) → d < 4 → Contains (supports_of P v d) w → IsFitting count (variants_fit set) v w d
  support-fits v w d dir has = shared.support-fits P count (variants_fit set) refl v w d has

  pub fits-support : (v w d : ℕ) → d < 4 → IsFitting count (variants_fit set) v w d → Contains (supports_of P v d) w
  fits-support v w d dir fit = shared.fits-support P count (variants_fit set) refl v w d dir fit

  symmetric : (v w d : ℕ) → Contains (supports_of P v d) w → Contains (supports_of P w (opposite d)) v
  symmetric v w d has =
      let dir = (supports_inside P v d w has).0 in
      let is = support-fits v w d dir has in
      fits-support w v (opposite d) (opposite_below 4 d (inl refl) dir) (record { first = is.second; second = is.first; fit = opposite_fits set d v w dir is.fit })

  -- ---- weights and the base

  pub length-weights : length P.weights ≡ count
  length-weights = length-map-range_with_len (λ v. (tile_at set.tiles (variant_at set.tiles v).0).weight) 0 count

  length-base : length P.base ≡ P.cells * length P.weights
  length-base =
      length-table (λ n. base_row set mask.width pins n) count (λ n. length-map-range_with_len (λ v. variant_meets_pins mask.width pins n v) 0 count) mask.places
      ∙ ap (λ k. P.cells * k) (sym length-weights)

  pub base-at : (c v : ℕ) → c < P.cells → v < count → in_base P c v ≡ variant_meets_pins mask.width pins (place c) v
  base-at c v inside value =
      ap (λ k. has_flag k P.base c v) length-weights
      ∙ flag_at count P.base c v value
      ∙ table-at (λ n. base_row set mask.width pins n) count (λ n. length-map-range_with_len (λ v. variant_meets_pins mask.width pins n v) 0 count) mask.places c v 0 false inside value
      ∙ get_or-map-range_with_len (λ v. variant_meets_pins mask.width pins (place c) v) 0 count v v false value (zero-add v)

  some_variant : IsTileSet set → 0 < count
  some_variant is = omega (arith, few_tiles set.tiles, is.some_tile)

  weight_at : (v : ℕ) → v < count → get_or P.weights v 0 ≡ (tile_at set.tiles (variant_at set.tiles v).0).weight
  weight_at v inside = get_or-map-range_with_len (λ v. (tile_at set.tiles (variant_at set.tiles v).0).weight) 0 count v v 0 inside (zero-add v)

  weighed : IsTileSet set → (v : ℕ) → v < count → HasWeight (tile_at set.tiles (variant_at set.tiles v).0)
  weighed is v inside = is.weighed _ _ (variant_there set.tiles v inside).tile_in

  pub tiles_problem : IsTileSet set → IsMask mask → tile_pair_count set mask ≤ MAX_PAIRS → IsProblem P
  tiles_problem tiles is few_pairs = record {
    sized = record {
      some_cell = is.some_place;
      few_cells =
          let some : 1 * P.cells ≤ count * P.cells = mul-le-mul_right P.cells (omega (arith, some_variant tiles)) in
          omega (arith, some, few_pairs, mul_comm count P.cells);
      four_or_six = inl refl;
      some_value = omega (arith, some_variant tiles, length-weights);
      few_values = omega (arith, tiles.limit, length-weights);
      few_pairs = subst (λ k. P.cells * k ≤ MAX_PAIRS) (sym length-weights) few_pairs;
      neighbours_table = length-table (λ n. tiles_beside mask wrap n) 4 (λ n. length-map-range_with_len (λ d. tile_beside mask wrap (n % mask.width) (n / mask.width) d) 0 4) mask.places;
      supports_table = length-supports P count (variants_fit set) refl ∙ ap (λ k. k * 4) (sym length-weights);
      base_table = length-base;
    };
    indexed = record {
      in_cells = in_cells;
      rising = supports_rise P count (variants_fit set) refl;
      in_values = λ v w d has. let fit = support-fits v w d (supports_inside P v d w has).0 has in omega (arith, length-weights, fit.second);
    };
    weighed = record {
      some_weight = λ v inside.
          let below : v < count = omega (arith, length-weights) in
          let heavy = weighed tiles v below in
          omega (arith, weight_at v below, heavy.some_weight);
      small_weight = λ v inside.
          let below : v < count = omega (arith, length-weights) in
          let heavy = weighed tiles v below in
          omega (arith, weight_at v below, heavy.small_weight);
    };
    back = back is;
    symmetric = symmetric;
  }

-- Legal boxes and legal assignments are each other's.
use Rattle.std.proofs.Common.{◌≡◌, ◌≢◌, ℕ, ◌+◌, ◌-◌, ◌*◌, ◌/◌, ◌%◌, ◌<◌, ◌≤◌, Bool, true, false, not, ◌⊎◌, inl, inr, List, [], length, get_or, drop, Some, refl, sym, subst, ap, ◌∙◌, arith, zero-add}
use Rattle.std.specs.Prelude.{Contains, IsTrue, ◌==◌, ◌||◌, MatchBool}
use Rattle.std.proofs.lemmas.Bool.{cond-true, eq-eqb, eqb-true, lt-ltb}
use Rattle.std.proofs.lemmas.List.{ext_get_or, get_or_default, get_or-take, get_or-drop, length-take, length-drop}
use Rattle.std.proofs.lemmas.List.FromFn.{length-map-range_with_len, get_or-map-range_with_len, length-range_with_len}
use Rattle.std.proofs.lemmas.Nat.{mod-mul-add, div-mul-add}
use Rattle.std.proofs.Math.Nat.{mul-le-mul_right}
use Rattle.wfc_lists.proofs.Lists.{all_pass, pass_all, Contains_has, has_Contains}
use Rattle.wfc_model.specs.Raster.{Raster, height_of, number_at, numbers_of, raster_of}
use Rattle.wfc_model.proofs.CallerLemmas.{cell_is, height-raster_of, length-numbers_of, number_at-numbers_of, number_at-raster_of, raster_of-numbers_of}
use Rattle.wfc_problem.specs.Assignment.{IsLegalAssignment}
use Rattle.wfc_problem.specs.Network.{Network, IsProblem, in_base, neighbour, ok}
use Rattle.wfc_problem.specs.declared.TheConstants.{MAX_PAIRS}
use Rattle.wfc_problem.proofs.CallerLemmas.{base_inside}
use Rattle.wfc_places.specs.Marks.{suits}
use Rattle.wfc_places.specs.Steps.{place_number}
use Rattle.wfc_places.proofs.CallerLemmas as shared
use Rattle.wfc_places.proofs.CallerLemmas.{suits-from, held-from_suits}
use Rattle.wfc_tileset.specs.Tiles.{TileSetView, variant_total}
use Rattle.wfc_tileset.specs.TileSets.{IsTileSet}
use Rattle.wfc_tiled.specs.Mask.{MaskView}
use Rattle.wfc_tiled.specs.Maps.{IsLegalTileMap, numbers_of_places}
use Rattle.wfc_tiled.specs.Tiles.{variants_fit, problem_of_tiles}
use Rattle.wfc_tiled.proofs.CallerLemmas as tile
use Rattle.wfc_tiled.proofs.CallerLemmas.{assignment_is_map, cell_below, map_is_assignment, plain_map, plain_number, plain_there}
use Rattle.wfc_box.specs.Boxes.{IsFrame, LayerPin, IsHeldIn, IsInBox, AreInBox, IsLegalBox, area, box_of, layer_at, layer_mask, layer_of, number_in_box, number_of_place, numbers_of_box}
use Rattle.wfc_box.specs.declared.frame.Frame.{Frame}
use Rattle.wfc_box.specs.BoxProblem.{fits_in, pin_cell, problem_of_box, suits_cell}
use Rattle.wfc_box.specs.Stacks.{IsStacked, is_stacked}
use Rattle.wfc_box.proofs.StackLemmas.{passes_stacked, stacked_passes}
use Rattle.wfc_box.proofs.BoxLemmas.{IsNear, above-neighbour, base-at, cases_dir, cell_of_layer, fits-support, layer-neighbour, layer_is, layer_problem, length-weights, near-above, near-below, near-layer, neighbour-near, next_layer, support-fits}

module _ (set : TileSetView) (stacked : List (ℕ × ℕ)) (frame : Frame) (pins : List LayerPin) where
  abbrev P : Network
  P = problem_of_box set stacked frame pins

  abbrev Q : Network
  Q = problem_of_tiles set (layer_mask frame) frame.wrap []

  abbrev count : ℕ
  count = variant_total set.tiles

  abbrev A : ℕ
  A = area frame

  abbrev w : ℕ
  w = frame.width

  abbrev h : ℕ
  h = frame.height

  abbrev mask : MaskView
  mask = layer_mask frame

  -- within a layer the same may stand beside each other as on a map
  low_fits : (d v u : ℕ) → d < 4 → fits_in set stacked d v u ≡ variants_fit set d v u
  low_fits d v u low = cond-true _ _ _ (lt-ltb d 4 low)

  ok_in_box : (d v u : ℕ) → d < 4 → IsTrue (ok Q d v u) → IsTrue (ok P d v u)
  ok_in_box d v u low test =
      let is = shared.support-fits Q count (variants_fit set) refl v u d (has_Contains _ u test) in
      Contains_has _ u (fits-support set stacked frame pins v u d (omega arith) (record { first = is.first; second = is.second; fit = low_fits d v u low ∙ is.fit }))

  ok_in_layer : (d v u : ℕ) → d < 4 → IsTrue (ok P d v u) → IsTrue (ok Q d v u)
  ok_in_layer d v u low test =
      let is = support-fits set stacked frame pins v u d (has_Contains _ u test) in
      Contains_has _ u (shared.fits-support Q count (variants_fit set) refl v u d low (record { first = is.first; second = is.second; fit = sym (low_fits d v u low) ∙ is.fit }))

  -- the entries for a layer
  length-layer_of : (a : List ℕ) (z : ℕ) → length a ≡ P.cells → z < frame.depth → length (layer_of frame a z) ≡ A
  length-layer_of a z long layer =
      let rows : (z + 1) * A ≤ frame.depth * A = mul-le-mul_right A (omega arith) in
      let next : (z + 1) * A ≡ z * A + A = omega arith in
      omega (arith, rows, next, long, length-take A (drop (z * A) a), length-drop (z * A) a)

  layer_entry : (a : List ℕ) (z n : ℕ) → n < A → get_or (layer_of frame a z) n 0 ≡ get_or a (z * A + n) 0
  layer_entry a z n place = get_or-take A (drop (z * A) a) n 0 place ∙ get_or-drop (z * A) a n 0

  -- ---- from boxes to assignments

  module _ (box : List Raster) (is : IsFrame frame) (legal : IsLegalBox set stacked frame pins box) where
    abbrev a : List ℕ
    a = numbers_of_box frame box

    layer_legal : (z : ℕ) → z < frame.depth → IsLegalTileMap set mask frame.wrap [] (layer_at box z)
    layer_legal z inside = legal.layers z (raster_of 0 0 []) (omega (arith, legal.deep))

    number : (c : ℕ) → c < P.cells → get_or a c 0 ≡ number_of_place frame box c
    number c inside = get_or-map-range_with_len (number_of_place frame box) 0 P.cells c c 0 inside (zero-add c)

    number_of_layer : (z n : ℕ) → z < frame.depth → n < A → get_or a (z * A + n) 0 ≡ number_in_box box (n % w) (n / w) z
    number_of_layer z n layer place =
        let cell = cell_of_layer frame z n layer place in
        number (z * A + n) cell.inside
        ∙ ap (λ k. number_in_box box (k % w) (k / w) ((z * A + n) / A)) cell.place
        ∙ ap (λ k. number_in_box box (n % w) (n / w) k) cell.layer

    -- as the layer's own assignment
    layer_number : (z n : ℕ) → z < frame.depth → n < A → get_or (numbers_of_places mask (layer_at box z)) n 0 ≡ get_or a (z * A + n) 0
    layer_number z n layer place = plain_number w h (layer_at box z) n place ∙ sym (number_of_layer z n layer place)

    value_in : (c : ℕ) → c < P.cells → get_or a c 0 < count
    value_in c inside =
        let at = cell_is A frame.depth c inside in
        let place = cell_is w h (c % A) (omega (arith, at.column)) in
        subst (λ k. k < count) (sym (number c inside))
        ((layer_legal (c / A) at.row).filled (c % A % w) (c % A / w) place.column place.row (plain_there w h _ _ place.column place.row))

    pin_suits : (c : ℕ) → c < P.cells → (p : LayerPin) → IsHeldIn box p → suits_cell frame c (get_or a c 0) p ≡ true
    pin_suits c inside p is_held = by (pin_cell frame p == c) refl
      where
        by : (b : Bool) → (pin_cell frame p == c) ≡ b → (not b || suits p.pin (get_or a c 0)) ≡ true
        by false e = refl
        by true e =
            let same : pin_cell frame p ≡ c = eqb-true (pin_cell frame p) c e in
            let layer : p.layer < frame.depth = omega (arith, is_held.layer_in, legal.deep) in
            let sized = (layer_legal p.layer layer).sized in
            let column : p.pin.column < w = omega (arith, is_held.held.column_in, sized.same_width) in
            let row : p.pin.row < h = omega (arith, is_held.held.row_in, sized.same_height) in
            let n = place_number w p.pin.column p.pin.row in
            let there : get_or a c 0 ≡ number_in_box box p.pin.column p.pin.row p.layer =
            ap (λ k. get_or a k 0) (sym same)
            ∙ number_of_layer p.layer n layer (cell_below w h _ _ column row)
            ∙ ap (λ k. number_in_box box k (n / w) p.layer) (mod-mul-add p.pin.row w p.pin.column column)
            ∙ ap (λ k. number_in_box box p.pin.column k p.layer) (div-mul-add p.pin.row w p.pin.column column) in
            ap (suits p.pin) there ∙ suits-from p.pin (number_in_box box p.pin.column p.pin.row p.layer) is_held.held.number

    based : (c : ℕ) → c < P.cells → IsTrue (in_base P c (get_or a c 0))
    based c inside =
        base-at set stacked frame pins c (get_or a c 0) inside (value_in c inside)
        ∙ pass_all (λ p. suits_cell frame c (get_or a c 0) p) pins (λ p within.
        let held = legal.held within.0 p within.1 in
        pin_suits c inside p (subst (IsHeldIn box) within.2 held))

    -- each place and the one above it
    stacked_at : (z n : ℕ) → z + 1 < frame.depth → n < A → is_stacked stacked (get_or a (z * A + n) 0) (get_or a ((z + 1) * A + n) 0) ≡ true
    stacked_at z n layer place =
        let at = cell_is w h n (omega (arith, place)) in
        ap (λ k. is_stacked stacked k (get_or a ((z + 1) * A + n) 0)) (number_of_layer z n (omega arith) place)
        ∙ ap (λ k. is_stacked stacked (number_in_box box (n % w) (n / w) z) k) (number_of_layer (z + 1) n layer place)
        ∙ stacked_passes stacked _ _ (legal.upon (n % w) (n / w) z at.column at.row layer)

    other_in : (z n : ℕ) → z < frame.depth → n < A → get_or a (z * A + n) 0 < count
    other_in z n layer place = value_in (z * A + n) (cell_of_layer frame z n layer place).inside

    beside_by : (c d m : ℕ) → IsNear set stacked frame pins c d m → (d < 4) ⊎ ((4 ≡ d) ⊎ (5 ≡ d)) → IsTrue (ok P d (get_or a c 0) (get_or a m 0))
    beside_by c d m near (inl low) =
        let at = cell_is A frame.depth c near.inside in
        let to = near-layer set stacked frame pins is c d m low near in
        let map = map_is_assignment set mask frame.wrap [] (layer_at box (c / A)) (layer_is frame is) (layer_legal (c / A) at.row) in
        let here : get_or (numbers_of_places mask (layer_at box (c / A))) (c % A) 0 ≡ get_or a c 0 =
        layer_number (c / A) (c % A) at.row at.column ∙ ap (λ k. get_or a k 0) at.cell in
        let there : get_or (numbers_of_places mask (layer_at box (c / A))) to.to 0 ≡ get_or a m 0 =
        layer_number (c / A) to.to at.row to.to_in ∙ ap (λ k. get_or a k 0) (sym to.cell) in
        subst (λ k. IsTrue (ok P d k (get_or a m 0))) here
        (subst (λ k. IsTrue (ok P d (get_or (numbers_of_places mask (layer_at box (c / A))) (c % A) 0) k)) there
        (ok_in_box d _ _ low (map.beside (c % A) d to.to to.beside)))
    beside_by c d m near (inr (inl e)) =
        let at = cell_is A frame.depth c near.inside in
        let up = near-above set stacked frame pins c m (subst (λ k. IsNear set stacked frame pins c k m) (sym e) near) in
        let m_is : (c / A + 1) * A + c % A ≡ m = omega (arith, up.1, at.cell, next_layer set stacked frame pins (c / A) (c % A)) in
        let fit : is_stacked stacked (get_or a c 0) (get_or a m 0) ≡ true =
        ap (λ k. is_stacked stacked (get_or a k 0) (get_or a m 0)) (sym at.cell)
        ∙ ap (λ k. is_stacked stacked (get_or a (c / A * A + c % A) 0) (get_or a k 0)) (sym m_is)
        ∙ stacked_at (c / A) (c % A) up.0 at.column in
        subst (λ k. IsTrue (ok P k (get_or a c 0) (get_or a m 0))) e
        (Contains_has _ (get_or a m 0) (fits-support set stacked frame pins (get_or a c 0) (get_or a m 0) 4 (omega arith) (record {
          first = value_in c near.inside;
          second = subst (λ k. get_or a k 0 < count) m_is (other_in (c / A + 1) (c % A) up.0 at.column);
          fit = fit;
        })))
    beside_by c d m near (inr (inr e)) =
        let at = cell_is A frame.depth c near.inside in
        let low = near-below set stacked frame pins c m (subst (λ k. IsNear set stacked frame pins c k m) (sym e) near) in
        let z = c / A - 1 in
        let n = c % A in
        let next : z + 1 ≡ c / A = omega (arith, low.0) in
        let layer : z + 1 < frame.depth = omega (arith, next, at.row) in
        let c_is : (z + 1) * A + n ≡ c = ap (λ k. k * A + n) next ∙ at.cell in
        let m_is : z * A + n ≡ m = omega (arith, low.1, c_is, next_layer set stacked frame pins z n) in
        let fit : is_stacked stacked (get_or a m 0) (get_or a c 0) ≡ true =
        ap (λ k. is_stacked stacked (get_or a k 0) (get_or a c 0)) (sym m_is)
        ∙ ap (λ k. is_stacked stacked (get_or a (z * A + n) 0) (get_or a k 0)) (sym c_is)
        ∙ stacked_at z n layer at.column in
        subst (λ k. IsTrue (ok P k (get_or a c 0) (get_or a m 0))) e
        (Contains_has _ (get_or a m 0) (fits-support set stacked frame pins (get_or a c 0) (get_or a m 0) 5 (omega arith) (record {
          first = value_in c near.inside;
          second = subst (λ k. get_or a k 0 < count) m_is (other_in z n (omega (arith, layer)) at.column);
          fit = fit;
        })))

    pub box_is_assignment : IsLegalAssignment P a
    box_is_assignment = record {
      each_cell = length-map-range_with_len (number_of_place frame box) 0 P.cells;
      based = based;
      beside = λ c d m at.
          let near = neighbour-near set stacked frame pins c d m at in
          beside_by c d m near (cases_dir set stacked frame pins d near.dir);
    }

    layer_again : (z : ℕ) → z < frame.depth → layer_of frame a z ≡ numbers_of (layer_at box z)
    layer_again z layer =
        let sized = (layer_legal z layer).sized in
        let many = length-map-range_with_len (number_of_place frame box) 0 P.cells in
        let long = length-layer_of a z many layer in
        ext_get_or 0 (layer_of frame a z) (numbers_of (layer_at box z)) (long ∙ sym (length-numbers_of (layer_at box z) w h sized)) (λ n within.
        let place : n < A = omega (arith, long) in
        let at = cell_is w h n (omega arith) in
        layer_entry a z n place
        ∙ number_of_layer z n layer place
        ∙ number_at-numbers_of (layer_at box z) w h sized (n % w) (n / w) at.column at.row
        ∙ ap (λ k. get_or (numbers_of (layer_at box z)) k 0) at.cell)

    -- the box is made of its assignment again
    pub box_again : box_of frame a ≡ box
    box_again =
        let F : ℕ → Raster = λ z. raster_of w h (layer_of frame a z) in
        let many : length (box_of frame a) ≡ frame.depth = length-map-range_with_len F 0 frame.depth in
        ext_get_or (raster_of 0 0 []) (box_of frame a) box (many ∙ sym legal.deep) (λ z within.
        let layer : z < frame.depth = omega (arith, many) in
        get_or-map-range_with_len F 0 frame.depth z z (raster_of 0 0 []) layer (zero-add z)
        ∙ ap (raster_of w h) (layer_again z layer)
        ∙ raster_of-numbers_of (layer_at box z) w h (layer_legal z layer).sized)

  -- ---- from assignments to boxes

  module _ (a : List ℕ) (is : IsFrame frame) (tiles : IsTileSet set) (problem : IsProblem P) (inside : AreInBox frame pins) (legal : IsLegalAssignment P a) where
    abbrev box : List Raster
    box = box_of frame a

    abbrev layer_map : ℕ → Raster
    layer_map z = raster_of w h (layer_of frame a z)

    few : P.cells * count ≤ MAX_PAIRS
    few = subst (λ k. P.cells * k ≤ MAX_PAIRS) (length-weights set stacked frame pins) problem.sized.few_pairs

    q : IsProblem Q
    q = layer_problem set stacked frame pins tiles is few

    value : (c : ℕ) → c < P.cells → get_or a c 0 < count
    value c within =
        let b = base_inside P problem c (get_or a c 0) (legal.based c within) in
        omega (arith, b.1, length-weights set stacked frame pins)

    layer_based : (z n : ℕ) → z < frame.depth → n < A → IsTrue (in_base Q n (get_or (layer_of frame a z) n 0))
    layer_based z n layer place =
        tile.base-at set mask frame.wrap [] n (get_or (layer_of frame a z) n 0) (omega (arith, length-range_with_len 0 A))
        (subst (λ k. k < count) (sym (layer_entry a z n place)) (value (z * A + n) (cell_of_layer frame z n layer place).inside))

    layer_beside : (z n d k : ℕ) → z < frame.depth → neighbour Q n d ≡ Some k → IsTrue (ok Q d (get_or (layer_of frame a z) n 0) (get_or (layer_of frame a z) k 0))
    layer_beside z n d k layer at =
        let near = tile.neighbour-beside set mask frame.wrap [] n d k at in
        let from : n < A = omega (arith, tile.neighbour-cell set mask frame.wrap [] n d k at, length-range_with_len 0 A) in
        let to : k < A = omega (arith, q.indexed.in_cells n d k at, length-range_with_len 0 A) in
        let test = legal.beside (z * A + n) d (z * A + k) (layer-neighbour set stacked frame pins problem.sized.few_cells z n d k layer from at) in
        subst (λ v. IsTrue (ok Q d v (get_or (layer_of frame a z) k 0))) (sym (layer_entry a z n from))
        (subst (λ u. IsTrue (ok Q d (get_or a (z * A + n) 0) u)) (sym (layer_entry a z k to)) (ok_in_layer d _ _ near.dir test))

    layer_assignment : (z : ℕ) → z < frame.depth → IsLegalAssignment Q (layer_of frame a z)
    layer_assignment z layer = record {
      each_cell = length-layer_of a z legal.each_cell layer ∙ sym (length-range_with_len 0 A);
      based = λ n within. layer_based z n layer (omega (arith, length-range_with_len 0 A));
      beside = λ n d k at. layer_beside z n d k layer at;
    }

    layer_legal_map : (z : ℕ) → z < frame.depth → IsLegalTileMap set mask frame.wrap [] (layer_map z)
    layer_legal_map z layer =
        subst (IsLegalTileMap set mask frame.wrap []) (plain_map w h (layer_of frame a z) (length-layer_of a z legal.each_cell layer))
        (assignment_is_map set mask frame.wrap [] (layer_of frame a z) (layer_is frame is) q (λ k d none. absurd (omega arith)) (layer_assignment z layer))

    deep : length box ≡ frame.depth
    deep = length-map-range_with_len layer_map 0 frame.depth

    layer_there : (z : ℕ) → z < frame.depth → layer_at box z ≡ layer_map z
    layer_there z layer = get_or-map-range_with_len layer_map 0 frame.depth z z (raster_of 0 0 []) layer (zero-add z)

    tile_there : (x y z : ℕ) → x < w → y < h → z < frame.depth → number_in_box box x y z ≡ get_or a (z * A + place_number w x y) 0
    tile_there x y z column row layer =
        ap (λ (m : Raster). number_at m x y) (layer_there z layer)
        ∙ number_at-raster_of w h (layer_of frame a z) x y column row
        ∙ layer_entry a z (place_number w x y) (cell_below w h x y column row)

    stacked_there : (x y z : ℕ) → x < w → y < h → z + 1 < frame.depth → IsStacked stacked (number_in_box box x y z) (number_in_box box x y (z + 1))
    stacked_there x y z column row layer =
        let n = place_number w x y in
        let place = cell_below w h x y column row in
        let test = legal.beside (z * A + n) 4 ((z + 1) * A + n) (above-neighbour set stacked frame pins problem.sized.few_cells z n layer place) in
        let fit = (support-fits set stacked frame pins _ _ 4 (has_Contains _ (get_or a ((z + 1) * A + n) 0) test)).fit in
        subst (λ k. IsStacked stacked k (number_in_box box x y (z + 1))) (sym (tile_there x y z column row (omega arith)))
        (subst (λ k. IsStacked stacked (get_or a (z * A + n) 0) k) (sym (tile_there x y (z + 1) column row layer)) (passes_stacked stacked _ _ fit))

    held : (p : LayerPin) → Contains pins p → IsInBox frame p → IsHeldIn box p
    held p within at =
        let n = place_number w p.pin.column p.pin.row in
        let c = pin_cell frame p in
        let c_in = (cell_of_layer frame p.layer n at.layer_in (cell_below w h _ _ at.column_in at.row_in)).inside in
        let v = get_or a c 0 in
        let met = sym (base-at set stacked frame pins c v c_in (value c c_in)) ∙ legal.based c c_in in
        let one = all_pass (λ (p : LayerPin). suits_cell frame c v p) pins p met within in
        let suits_it : suits p.pin v ≡ true = sym (ap (λ b. not b || suits p.pin v) (eq-eqb (pin_cell frame p) c refl)) ∙ one in
        let layer = layer_there p.layer at.layer_in in
        record {
          layer_in = omega (arith, at.layer_in, deep);
          held = record {
            column_in = subst (λ (m : Raster). p.pin.column < m.width) (sym layer) at.column_in;
            row_in = subst (λ (m : Raster). p.pin.row < height_of m) (sym layer) (omega (arith, at.row_in, height-raster_of w h (layer_of frame a p.layer)));
            number = subst (λ k. MatchBool p.pin.keep (k ≡ p.pin.number) (k ≢ p.pin.number)) (sym (tile_there p.pin.column p.pin.row p.layer at.column_in at.row_in at.layer_in))
                (held-from_suits p.pin v suits_it);
          };
        }

    pub assignment_is_box : IsLegalBox set stacked frame pins box
    assignment_is_box = record {
      deep = deep;
      layers = λ z d within.
          let layer : z < frame.depth = omega (arith, deep) in
          subst (IsLegalTileMap set mask frame.wrap []) (sym (get_or-map-range_with_len layer_map 0 frame.depth z z d layer (zero-add z))) (layer_legal_map z layer);
      upon = stacked_there;
      held = λ k d within. held (get_or pins k d) (k, within, get_or_default pins k (get_or pins k d) d within) (inside k d within);
    }

    -- the box gives the assignment again
    pub assignment_again : numbers_of_box frame box ≡ a
    assignment_again =
        let many = length-map-range_with_len (number_of_place frame box) 0 P.cells in
        ext_get_or 0 (numbers_of_box frame box) a (many ∙ sym legal.each_cell) (λ c within.
        let c_in : c < P.cells = omega (arith, many) in
        let at = cell_is A frame.depth c c_in in
        let place = cell_is w h (c % A) (omega (arith, at.column)) in
        get_or-map-range_with_len (number_of_place frame box) 0 P.cells c c 0 c_in (zero-add c)
        ∙ tile_there (c % A % w) (c % A / w) (c / A) place.column place.row at.row
        ∙ ap (λ k. get_or a (c / A * A + k) 0) place.cell
        ∙ ap (λ k. get_or a k 0) at.cell)

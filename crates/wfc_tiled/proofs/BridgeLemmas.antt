-- Legal tile maps and legal assignments are each other's.
use Rattle.std.proofs.Common.{◌≡◌, ◌≢◌, ℕ, zero, suc, ◌*◌, ◌/◌, ◌%◌, ◌<◌, Bool, true, false, not, inl, inr, List, length, get_or, Option, None, Some, refl, sym, subst, ap, ◌∙◌, arith, zero-add}
use Rattle.std.specs.Prelude.{Contains, IsTrue, ◌==◌, ◌||◌, MatchBool}
use Rattle.std.proofs.lemmas.Bool.{and_parts, and_from, eq-eqb, eqb-true}
use Rattle.std.proofs.lemmas.List.{get_or_default, get_or-map, length-map, ext_get_or}
use Rattle.std.proofs.lemmas.List.FromFn.{length-map-range_with_len, get_or-map-range_with_len}
use Rattle.std.proofs.lemmas.Nat.{mul-add-lt, mod-mul-add, div-mul-add}
use Rattle.wfc_lists.proofs.Lists.{all_pass, pass_all, Contains_has, has_Contains}
use Rattle.wfc_model.specs.Raster.{Raster, number_at, raster_of, numbers_of}
use Rattle.wfc_model.specs.Legal.{Pin, IsHeld}
use Rattle.wfc_model.proofs.CallerLemmas.{number_at-raster_of, IsSized-raster_of, height-raster_of, raster_of-numbers_of, number_at-numbers_of, length-numbers_of, IsCell, cell_is}
use Rattle.wfc_problem.specs.Network.{Network, IsProblem, in_base}
use Rattle.wfc_problem.proofs.CallerLemmas.{base_inside}
use Rattle.wfc_problem.specs.Assignment.{IsLegalAssignment}
use Rattle.wfc_places.specs.Marks.{suits}
use Rattle.wfc_places.specs.Steps.{step_end, is_there, place_number}
use Rattle.wfc_places.proofs.CallerLemmas.{suits-from, held-from_suits, stepped-is, exact, forth_there, stay_there, stayed}
use Rattle.wfc_tileset.specs.Tiles.{TileSetView, variant_total, variant_at}
use Rattle.wfc_tileset.specs.Allowed.{IsAcross, IsDown, across_pairs, down_pairs, may_be_above, may_be_left}
use Rattle.wfc_tileset.specs.declared.TheConstants.{HOLE}
use Rattle.wfc_tileset.proofs.CallerLemmas.{has_the_pair, pair_has}
use Rattle.wfc_tiled.specs.Mask.{MaskView, IsMask, IsPlace, cell_number}
use Rattle.wfc_tiled.specs.Tiles.{is_step, step_from, variants_fit, variant_suits_at, problem_of_tiles}
use Rattle.wfc_tiled.specs.Maps.{IsNext, IsLegalTileMap, IsPlaced, ArePlaced, number_of_cell, numbers_of_cells, tile_map, numbers_of_places}
use Rattle.wfc_tiled.proofs.MaskLemmas.{found, stands, member, there}
use Rattle.wfc_tiled.proofs.TileLemmas.{place_is, length-weights, neighbour-cell, neighbour-beside, beside-neighbour, support-fits, fits-support, base-at}

-- ---- steps

-- a step forth that is there leads to the next
forth_next : (count : ℕ) (wrap : Bool) (at : ℕ) → at < count → is_there count wrap 1 0 at ≡ true → IsNext count wrap at (step_end count 1 0 at)
forth_next count true at inside there =
    let s = stepped-is count 1 0 at inside (omega arith) in
    let below = s.below in
    (below, elim s.apart [ inl e ↦ inl (omega arith) | inr more ↦ elim more [ inl e ↦ inr (refl, omega arith, omega arith) | inr e ↦ absurd (omega arith) ] ])
forth_next count false at inside there =
    let s = stepped-is count 1 0 at inside (omega arith) in
    let e = exact count 1 0 at (step_end count 1 0 at) s there in
    (s.below, inl (omega arith))

-- and a step back from the next
back_next : (count : ℕ) (wrap : Bool) (at : ℕ) → at < count → is_there count wrap 0 1 at ≡ true → IsNext count wrap (step_end count 0 1 at) at
back_next count true at inside there =
    let s = stepped-is count 0 1 at inside (omega arith) in
    let below = s.below in
    (inside, elim s.apart [ inl e ↦ inl (omega arith) | inr more ↦ elim more [ inl e ↦ absurd (omega arith) | inr e ↦ inr (refl, omega arith, omega arith) ] ])
back_next count false at inside there =
    let s = stepped-is count 0 1 at inside (omega arith) in
    let e = exact count 0 1 at (step_end count 0 1 at) s there in
    (inside, inl (omega arith))

-- the next is one step forth
next_there : (count : ℕ) (wrap : Bool) (at next : ℕ) → IsNext count wrap at next → is_there count wrap 1 0 at ≡ true
next_there count wrap at next is = elim is.1 [ inl e ↦ forth_there count wrap at (inr (omega (arith, is.0))) | inr last ↦ forth_there count wrap at (inl last.0) ]

next_is : (count : ℕ) (wrap : Bool) (at next : ℕ) → at < count → IsNext count wrap at next → step_end count 1 0 at ≡ next
next_is count wrap at next inside is =
    let s = stepped-is count 1 0 at inside (omega arith) in
    let below = s.below in
    let variants_fit = is.0 in
    elim is.1 [
      | inl e ↦ elim s.apart [ inl f ↦ omega arith | inr more ↦ elim more [ inl f ↦ absurd (omega arith) | inr f ↦ absurd (omega arith) ] ]
      | inr last ↦ let l = last.1 in let z = last.2 in elim s.apart [ inl f ↦ absurd (omega arith) | inr more ↦ elim more [ inl f ↦ omega arith | inr f ↦ absurd (omega arith) ] ]
    ]

-- the column and the row of a place's number
column_of : (w x y : ℕ) → x < w → place_number w x y % w ≡ x
column_of w x y inside = mod-mul-add y w x inside

row_of : (w x y : ℕ) → x < w → place_number w x y / w ≡ y
row_of w x y inside = div-mul-add y w x inside

module _ (set : TileSetView) (mask : MaskView) (wrap : Bool) (pins : List Pin) where
  abbrev P : Network
  P = problem_of_tiles set mask wrap pins

  abbrev w : ℕ
  w = mask.width

  abbrev h : ℕ
  h = mask.height

  abbrev count : ℕ
  count = variant_total set.tiles

  abbrev place : ℕ → ℕ
  place c = get_or mask.places c 0

  -- ---- from maps to assignments

  module _ (m : Raster) (is : IsMask mask) (legal : IsLegalTileMap set mask wrap pins m) where
    abbrev a : List ℕ
    a = numbers_of_places mask m

    number : (c : ℕ) → c < P.cells → get_or a c 0 ≡ number_at m (place c % w) (place c / w)
    number c inside = get_or-map (λ n. number_at m (n % w) (n / w)) mask.places c 0 0 inside

    is_place : (c : ℕ) → c < P.cells → IsPlace mask (place c % w) (place c / w)
    is_place c inside = subst (Contains mask.places) (sym (place_is set mask wrap pins is c inside).cell) (c, inside, get_or_default mask.places c (place c) 0 inside)

    value_in : (c : ℕ) → c < P.cells → get_or a c 0 < count
    value_in c inside =
        let at = place_is set mask wrap pins is c inside in
        subst (λ k. k < count) (sym (number c inside)) (legal.filled (place c % w) (place c / w) at.column at.row (is_place c inside))

    pin_suits : (c : ℕ) → c < P.cells → (pin : Pin) → IsHeld m pin → variant_suits_at w (place c) (get_or a c 0) pin ≡ true
    pin_suits c inside pin held = by (place_number w pin.column pin.row == place c) refl
      where
        by : (b : Bool) → (place_number w pin.column pin.row == place c) ≡ b → (not b || suits pin (get_or a c 0)) ≡ true
        by false e = refl
        by true e =
            let same = eqb-true (place_number w pin.column pin.row) (place c) e in
            let column_in : pin.column < w = omega (arith, held.column_in, legal.sized.same_width) in
            let column : place c % w ≡ pin.column = ap (λ k. k % w) (sym same) ∙ column_of w pin.column pin.row column_in in
            let row : place c / w ≡ pin.row = ap (λ k. k / w) (sym same) ∙ row_of w pin.column pin.row column_in in
            let there : get_or a c 0 ≡ number_at m pin.column pin.row = number c inside ∙ ap (λ k. number_at m k (place c / w)) column ∙ ap (number_at m pin.column) row in
            ap (suits pin) there ∙ suits-from pin (number_at m pin.column pin.row) held.number

    based : (c : ℕ) → c < P.cells → IsTrue (in_base P c (get_or a c 0))
    based c inside =
        base-at set mask wrap pins c (get_or a c 0) inside (value_in c inside)
        ∙ pass_all (λ pin. variant_suits_at w (place c) (get_or a c 0) pin) pins (λ pin within.
        let held = legal.held within.0 pin within.1 in
        pin_suits c inside pin (subst (IsHeld m) within.2 held.1))

    -- what stands beside a cell fits
    fitting_at : (c d n : ℕ) → c < P.cells → n < P.cells → d < 4 → is_step mask wrap (place c % w) (place c / w) d ≡ true → place n ≡ step_from mask (place c % w) (place c / w) d
        → variants_fit set d (get_or a c 0) (get_or a n 0) ≡ true
    fitting_at c zero n inside other dir step at =
        let x = place c % w in
        let y = place c / w in
        let here = place_is set mask wrap pins is c inside in
        let u = step_end w 0 1 x in
        let parts = and_parts (is_there w wrap 0 1 x) (is_there h wrap 0 0 y) step in
        let next = back_next w wrap x here.column parts.0 in
        let s = stepped-is w 0 1 x here.column (omega arith) in
        let column : place n % w ≡ u = ap (λ k. k % w) at ∙ column_of w u (step_end h 0 0 y) s.below in
        let row : place n / w ≡ y = ap (λ k. k / w) at ∙ row_of w u (step_end h 0 0 y) s.below ∙ stayed h y here.row in
        let there : get_or a n 0 ≡ number_at m u y = number n other ∙ ap (λ k. number_at m k (place n / w)) column ∙ ap (number_at m u) row in
        let placed : IsPlace mask u y = subst (λ k. IsPlace mask k y) column (subst (λ k. IsPlace mask (place n % w) k) row (is_place n other)) in
        ap (λ k. may_be_left set k (get_or a c 0)) there ∙ ap (may_be_left set (number_at m u y)) (number c inside)
        ∙ has_the_pair (across_pairs set) _ _ (legal.across u y x s.below here.row next placed (is_place c inside))
    fitting_at c (suc zero) n inside other dir step at =
        let x = place c % w in
        let y = place c / w in
        let here = place_is set mask wrap pins is c inside in
        let v = step_end h 1 0 y in
        let parts = and_parts (is_there w wrap 0 0 x) (is_there h wrap 1 0 y) step in
        let next = forth_next h wrap y here.row parts.1 in
        let stay = stayed w x here.column in
        let s = stepped-is w 0 0 x here.column (omega arith) in
        let column : place n % w ≡ x = ap (λ k. k % w) at ∙ column_of w (step_end w 0 0 x) v s.below ∙ stay in
        let row : place n / w ≡ v = ap (λ k. k / w) at ∙ row_of w (step_end w 0 0 x) v s.below in
        let there : get_or a n 0 ≡ number_at m x v = number n other ∙ ap (λ k. number_at m k (place n / w)) column ∙ ap (number_at m x) row in
        let placed : IsPlace mask x v = subst (λ k. IsPlace mask k v) column (subst (λ k. IsPlace mask (place n % w) k) row (is_place n other)) in
        ap (may_be_above set (get_or a c 0)) there ∙ ap (λ k. may_be_above set k (number_at m x v)) (number c inside)
        ∙ has_the_pair (down_pairs set) _ _ (legal.down x y v here.column here.row next (is_place c inside) placed)
    fitting_at c (suc (suc zero)) n inside other dir step at =
        let x = place c % w in
        let y = place c / w in
        let here = place_is set mask wrap pins is c inside in
        let u = step_end w 1 0 x in
        let parts = and_parts (is_there w wrap 1 0 x) (is_there h wrap 0 0 y) step in
        let next = forth_next w wrap x here.column parts.0 in
        let s = stepped-is w 1 0 x here.column (omega arith) in
        let column : place n % w ≡ u = ap (λ k. k % w) at ∙ column_of w u (step_end h 0 0 y) s.below in
        let row : place n / w ≡ y = ap (λ k. k / w) at ∙ row_of w u (step_end h 0 0 y) s.below ∙ stayed h y here.row in
        let there : get_or a n 0 ≡ number_at m u y = number n other ∙ ap (λ k. number_at m k (place n / w)) column ∙ ap (number_at m u) row in
        let placed : IsPlace mask u y = subst (λ k. IsPlace mask k y) column (subst (λ k. IsPlace mask (place n % w) k) row (is_place n other)) in
        ap (may_be_left set (get_or a c 0)) there ∙ ap (λ k. may_be_left set k (number_at m u y)) (number c inside)
        ∙ has_the_pair (across_pairs set) _ _ (legal.across x y u here.column here.row next (is_place c inside) placed)
    fitting_at c (suc (suc (suc zero))) n inside other dir step at =
        let x = place c % w in
        let y = place c / w in
        let here = place_is set mask wrap pins is c inside in
        let v = step_end h 0 1 y in
        let parts = and_parts (is_there w wrap 0 0 x) (is_there h wrap 0 1 y) step in
        let next = back_next h wrap y here.row parts.1 in
        let t = stepped-is h 0 1 y here.row (omega arith) in
        let s = stepped-is w 0 0 x here.column (omega arith) in
        let column : place n % w ≡ x = ap (λ k. k % w) at ∙ column_of w (step_end w 0 0 x) v s.below ∙ stayed w x here.column in
        let row : place n / w ≡ v = ap (λ k. k / w) at ∙ row_of w (step_end w 0 0 x) v s.below in
        let there : get_or a n 0 ≡ number_at m x v = number n other ∙ ap (λ k. number_at m k (place n / w)) column ∙ ap (number_at m x) row in
        let placed : IsPlace mask x v = subst (λ k. IsPlace mask k v) column (subst (λ k. IsPlace mask (place n % w) k) row (is_place n other)) in
        ap (λ k. may_be_above set k (get_or a c 0)) there ∙ ap (may_be_above set (number_at m x v)) (number c inside)
        ∙ has_the_pair (down_pairs set) _ _ (legal.down x v y here.column t.below next placed (is_place c inside))
    fitting_at c (suc (suc (suc (suc d)))) n inside other dir step at = absurd (omega arith)

    pub map_is_assignment : IsLegalAssignment P a
    map_is_assignment = record {
      each_cell = length-map mask.places (λ n. number_at m (n % w) (n / w));
      based = based;
      beside = λ c d n at.
          let near = neighbour-beside set mask wrap pins c d n at in
          let inside = neighbour-cell set mask wrap pins c d n at in
          let other = stands mask.places (step_from mask (place c % w) (place c / w) d) n near.cell in
          Contains_has _ (get_or a n 0) (fits-support set mask wrap pins (get_or a c 0) (get_or a n 0) d near.dir (record {
            first = value_in c inside;
            second = value_in n other.0;
            fit = fitting_at c d n inside other.0 near.dir near.there other.1;
          }));
    }

    read_again : (k : ℕ) → IsCell w h k (k % w) (k / w) → (o : Option ℕ) → cell_number mask k ≡ o → number_of_cell a (cell_number mask k) ≡ number_at m (k % w) (k / w)
    read_again k at None e =
        ap (number_of_cell a) e
        ∙ sym (legal.holes (k % w) (k / w) at.column at.row (λ p.
        let f = member mask.places k is.rising (subst (Contains mask.places) at.cell p) in
        let clash = sym e ∙ f.1 in
        cc))
    read_again k at (Some c) e =
        let s = stands mask.places k c e in
        ap (number_of_cell a) e ∙ get_or-map (λ n. number_at m (n % w) (n / w)) mask.places c 0 0 s.0 ∙ ap (λ n. number_at m (n % w) (n / w)) s.1

    -- the map is made of its assignment again
    pub map_again : tile_map mask a ≡ m
    map_again =
        let F : ℕ → ℕ = λ n. number_of_cell a (cell_number mask n) in
        let long : length (numbers_of_cells mask a) ≡ w * h = length-map-range_with_len F 0 (w * h) in
        let same : numbers_of_cells mask a ≡ numbers_of m =
        ext_get_or 0 (numbers_of_cells mask a) (numbers_of m) (long ∙ sym (length-numbers_of m w h legal.sized)) (λ k within.
        let inside : k < w * h = omega (arith, long) in
        let at = cell_is w h k (omega arith) in
        get_or-map-range_with_len F 0 (w * h) k k 0 inside (zero-add k)
        ∙ read_again k at (cell_number mask k) refl
        ∙ number_at-numbers_of m w h legal.sized (k % w) (k / w) at.column at.row
        ∙ ap (λ j. get_or (numbers_of m) j 0) at.cell) in
        ap (raster_of w h) same ∙ raster_of-numbers_of m w h legal.sized

  -- ---- from assignments to maps

  module _ (a : List ℕ) (is : IsMask mask) (problem : IsProblem P) (placed : ArePlaced mask pins) (legal : IsLegalAssignment P a) where
    abbrev m : Raster
    m = tile_map mask a

    cell_in : (x y : ℕ) → x < w → y < h → place_number w x y < w * h
    cell_in x y column row = omega (arith, mul-add-lt y w x h row column)

    tile : (x y : ℕ) → x < w → y < h → number_at m x y ≡ number_of_cell a (cell_number mask (place_number w x y))
    tile x y column row =
        number_at-raster_of w h (numbers_of_cells mask a) x y column row
        ∙ get_or-map-range_with_len (λ n. number_of_cell a (cell_number mask n)) 0 (w * h) (place_number w x y) (place_number w x y) 0 (cell_in x y column row) (zero-add (place_number w x y))

    -- the cell of a place, and what stands there
    pub record IsAt (x y c : ℕ) : Type 0 where
      pub inside : c < P.cells
      pub cell : cell_number mask (place_number w x y) ≡ Some c
      pub column : place c % w ≡ x
      pub row : place c / w ≡ y
      pub tile : number_at m x y ≡ get_or a c 0

    at_place : (x y : ℕ) → x < w → y < h → IsPlace mask x y → (c : ℕ) × IsAt x y c
    at_place x y column row p =
        let f = member mask.places (place_number w x y) is.rising p in
        let s = stands mask.places (place_number w x y) f.0 f.1 in (
          f.0,
          record {
            inside = s.0;
            cell = f.1;
            column = ap (λ k. k % w) s.1 ∙ column_of w x y column;
            row = ap (λ k. k / w) s.1 ∙ row_of w x y column;
            tile = tile x y column row ∙ ap (number_of_cell a) f.1;
          },
        )

    value : (c : ℕ) → c < P.cells → get_or a c 0 < count
    value c inside =
        let b = base_inside P problem c (get_or a c 0) (legal.based c inside) in
        omega (arith, b.1, length-weights set mask wrap pins)

    across : (x y u : ℕ) → x < w → y < h → IsNext w wrap x u → IsPlace mask x y → IsPlace mask u y → IsAcross set (variant_at set.tiles (number_at m x y)) (variant_at set.tiles (number_at m u y))
    across x y u column row next here there =
        let c = at_place x y column row here in
        let e = at_place u y next.0 row there in
        let step : is_step mask wrap (place c.0 % w) (place c.0 / w) 2 ≡ true =
        ap (λ k. is_step mask wrap k (place c.0 / w) 2) c.1.column ∙ ap (λ k. is_step mask wrap x k 2) c.1.row
        ∙ and_from _ _ (next_there w wrap x u next) (stay_there h wrap y row) in
        let leads : step_from mask (place c.0 % w) (place c.0 / w) 2 ≡ place_number w u y =
        ap (λ k. step_from mask k (place c.0 / w) 2) c.1.column ∙ ap (λ k. step_from mask x k 2) c.1.row
        ∙ ap (λ k. place_number w k (step_end h 0 0 y)) (next_is w wrap x u column next) ∙ ap (place_number w u) (stayed h y row) in
        let near = beside-neighbour set mask wrap pins is c.0 2 e.0 c.1.inside (record { dir = omega arith; there = step; cell = ap (cell_number mask) leads ∙ e.1.cell }) in
        let fit = (support-fits set mask wrap pins (get_or a c.0 0) (get_or a e.0 0) 2 (omega arith) (has_Contains _ (get_or a e.0 0) (legal.beside c.0 2 e.0 near))).fit in
        subst (λ k. IsAcross set (variant_at set.tiles k) (variant_at set.tiles (number_at m u y))) (sym c.1.tile)
        (subst (λ k. IsAcross set (variant_at set.tiles (get_or a c.0 0)) (variant_at set.tiles k)) (sym e.1.tile) (pair_has (across_pairs set) _ _ fit))

    down : (x y v : ℕ) → x < w → y < h → IsNext h wrap y v → IsPlace mask x y → IsPlace mask x v → IsDown set (variant_at set.tiles (number_at m x y)) (variant_at set.tiles (number_at m x v))
    down x y v column row next here there =
        let c = at_place x y column row here in
        let e = at_place x v column next.0 there in
        let step : is_step mask wrap (place c.0 % w) (place c.0 / w) 1 ≡ true =
        ap (λ k. is_step mask wrap k (place c.0 / w) 1) c.1.column ∙ ap (λ k. is_step mask wrap x k 1) c.1.row
        ∙ and_from _ _ (stay_there w wrap x column) (next_there h wrap y v next) in
        let leads : step_from mask (place c.0 % w) (place c.0 / w) 1 ≡ place_number w x v =
        ap (λ k. step_from mask k (place c.0 / w) 1) c.1.column ∙ ap (λ k. step_from mask x k 1) c.1.row
        ∙ ap (λ k. place_number w k (step_end h 1 0 y)) (stayed w x column) ∙ ap (place_number w x) (next_is h wrap y v row next) in
        let near = beside-neighbour set mask wrap pins is c.0 1 e.0 c.1.inside (record { dir = omega arith; there = step; cell = ap (cell_number mask) leads ∙ e.1.cell }) in
        let fit = (support-fits set mask wrap pins (get_or a c.0 0) (get_or a e.0 0) 1 (omega arith) (has_Contains _ (get_or a e.0 0) (legal.beside c.0 1 e.0 near))).fit in
        subst (λ k. IsDown set (variant_at set.tiles k) (variant_at set.tiles (number_at m x v))) (sym c.1.tile)
        (subst (λ k. IsDown set (variant_at set.tiles (get_or a c.0 0)) (variant_at set.tiles k)) (sym e.1.tile) (pair_has (down_pairs set) _ _ fit))

    hole : (x y : ℕ) → x < w → y < h → (IsPlace mask x y → ⊥) → number_at m x y ≡ HOLE
    hole x y column row none = tile x y column row ∙ by (cell_number mask (place_number w x y)) refl
      where
        by : (o : Option ℕ) → cell_number mask (place_number w x y) ≡ o → number_of_cell a (cell_number mask (place_number w x y)) ≡ HOLE
        by None e = ap (number_of_cell a) e
        by (Some c) e = absurd (none (there mask.places (place_number w x y) c e))

    held : (pin : Pin) → Contains pins pin → IsPlaced mask pin → IsPlace mask pin.column pin.row × IsHeld m pin
    held pin within p =
        let c = at_place pin.column pin.row p.column_in p.row_in p.place in
        let v = get_or a c.0 0 in
        let s = stands mask.places (place_number w pin.column pin.row) c.0 c.1.cell in
        let met = sym (base-at set mask wrap pins c.0 v c.1.inside (value c.0 c.1.inside)) ∙ legal.based c.0 c.1.inside in
        let one = all_pass (λ (pin : Pin). variant_suits_at w (place c.0) v pin) pins pin met within in
        let suits_it : suits pin v ≡ true = sym (ap (λ b. not b || suits pin v) (eq-eqb (place_number w pin.column pin.row) (place c.0) (sym s.1))) ∙ one in (
          p.place,
          record {
            column_in = p.column_in;
            row_in = omega (arith, p.row_in, height-raster_of w h (numbers_of_cells mask a));
            number = subst (λ k. MatchBool pin.keep (k ≡ pin.number) (k ≢ pin.number)) (sym c.1.tile) (held-from_suits pin v suits_it);
          },
        )

    pub assignment_is_map : IsLegalTileMap set mask wrap pins m
    assignment_is_map = record {
      sized = IsSized-raster_of w h (numbers_of_cells mask a) (record {
        some_column = is.some_column;
        some_row = is.some_row;
        as_many = length-map-range_with_len (λ n. number_of_cell a (cell_number mask n)) 0 (w * h);
      });
      filled = λ x y column row p. let c = at_place x y column row p in subst (λ k. k < count) (sym c.1.tile) (value c.0 c.1.inside);
      holes = hole;
      across = across;
      down = down;
      held = λ k d inside. held (get_or pins k d) (k, inside, get_or_default pins k (get_or pins k d) d inside) (placed k d inside);
    }

    -- the map gives the assignment again
    pub assignment_again : numbers_of_places mask m ≡ a
    assignment_again =
        ext_get_or 0 (numbers_of_places mask m) a (length-map mask.places (λ n. number_at m (n % w) (n / w)) ∙ sym legal.each_cell) (λ c within.
        let inside : c < P.cells = omega (arith, length-map mask.places (λ n. number_at m (n % w) (n / w))) in
        let at = place_is set mask wrap pins is c inside in
        get_or-map (λ n. number_at m (n % w) (n / w)) mask.places c 0 0 inside
        ∙ tile (place c % w) (place c / w) at.column at.row
        ∙ ap (λ k. number_of_cell a (cell_number mask k)) at.cell
        ∙ ap (number_of_cell a) (found mask.places (place c) c is.rising inside refl))

-- The tables of a tile set's problem say what its places, its variants and its pins say.
use Rattle.std.proofs.Common.{◌≡◌, ℕ, ◌+◌, ◌%◌, ◌<◌, Bool, true, false, not, List, length, get_or, Some, refl, sym, subst, ap, ◌∙◌, arith}
use Rattle.std.specs.Prelude.{Contains, All, MatchBool, ◌↔◌, ◌==◌, ◌||◌}
use Rattle.std.proofs.lemmas.Bool.{and_parts, and_from, eqb-true, eq-eqb}
use Rattle.std.proofs.lemmas.List.Sums.{AllPass-from_list_all, list_all-from_AllPass}
use Rattle.wfc_model.specs.Direction.{left_by, down_by, right_by, up_by}
use Rattle.wfc_model.specs.Legal.{Pin}
use Rattle.wfc_problem.specs.Network.{neighbour, supports_of, in_base}
use Rattle.wfc_places.specs.Marks.{suits}
use Rattle.wfc_places.specs.Steps.{place_number, is_there, step_end, IsStepFrom}
use Rattle.wfc_places.proofs.CallerLemmas.{suits-from, held-from_suits, one_across, one_down, stepped-is, apart-stepped, apart-there, same_column, same_row, step-apart, step_across, step_down, step_from}
use Rattle.wfc_tileset.specs.Allowed.{IsAcross, IsDown, across_pairs, down_pairs}
use Rattle.wfc_tileset.specs.Tiles.{TileSetView, variant_at, variant_total}
use Rattle.wfc_tileset.proofs.CallerLemmas.{has_the_pair, pair_has}
use Rattle.wfc_tiled.specs.Maps.{ArePlaced}
use Rattle.wfc_tiled.specs.Mask.{MaskView, IsMask, cell_number}
use Rattle.wfc_tiled.specs.Subject.{HoldsPinAt, cell_column, cell_row}
use Rattle.wfc_tiled.specs.Tiles.{variants_fit, problem_of_tiles, variant_suits_at}
use Rattle.wfc_tiled.proofs.MaskLemmas.{found, stands}
use Rattle.wfc_tiled.proofs.TileLemmas.{base-at, beside-neighbour, fits-support, neighbour-beside, place_is, support-fits}

module _ (set : TileSetView) (mask : MaskView) (wrap : Bool) (pins : List Pin) where
  abbrev w : ℕ
  w = mask.width

  abbrev h : ℕ
  h = mask.height

  abbrev count : ℕ
  count = variant_total set.tiles

  -- a neighbour's place lies one step away
  pub neighbour-step : IsMask mask → (c m d : ℕ) → c < length mask.places → m < length mask.places → neighbour (problem_of_tiles set mask wrap pins) c d ≡ Some m
      → IsStepFrom wrap w h d (cell_column mask c) (cell_row mask c) (cell_column mask m) (cell_row mask m)
  neighbour-step is c m d inside other at =
      let here = place_is set mask wrap pins is c inside in
      let far = place_is set mask wrap pins is m other in
      let x = cell_column mask c in
      let y = cell_row mask c in
      let u = cell_column mask m in
      let v = cell_row mask m in
      let near = neighbour-beside set mask wrap pins c d m at in
      let p = step_end w (right_by d) (left_by d) x in
      let q = step_end h (down_by d) (up_by d) y in
      let p_in : p < w = (stepped-is w (right_by d) (left_by d) x here.column (one_across d)).below in
      let same : place_number w u v ≡ place_number w p q = far.cell ∙ (stands mask.places (place_number w p q) m near.cell).1 in
      let column : p ≡ u = sym (same_column w u v p q far.column p_in same) in
      let row : q ≡ v = sym (same_row w u v p q far.column p_in same) in
      let parts = and_parts (is_there w wrap (right_by d) (left_by d) x) (is_there h wrap (down_by d) (up_by d) y) near.there in
      step_from wrap w h d x y u v
      (subst (λ k. MatchBool wrap ((x + right_by d) % w ≡ (k + left_by d) % w) (x + right_by d ≡ k + left_by d)) column
      (step-apart wrap w (right_by d) (left_by d) x here.column (one_across d) parts.0))
      (subst (λ k. MatchBool wrap ((y + down_by d) % h ≡ (k + up_by d) % h) (y + down_by d ≡ k + up_by d)) row
      (step-apart wrap h (down_by d) (up_by d) y here.row (one_down d) parts.1))

  -- and the place one step away is the neighbour's
  pub step-neighbour : IsMask mask → (c m d : ℕ) → c < length mask.places → m < length mask.places → d < 4
      → IsStepFrom wrap w h d (cell_column mask c) (cell_row mask c) (cell_column mask m) (cell_row mask m) → neighbour (problem_of_tiles set mask wrap pins) c d ≡ Some m
  step-neighbour is c m d inside other dir step =
      let here = place_is set mask wrap pins is c inside in
      let far = place_is set mask wrap pins is m other in
      let x = cell_column mask c in
      let y = cell_row mask c in
      let u = cell_column mask m in
      let v = cell_row mask m in
      let across = step_across wrap w h d x y u v step in
      let down = step_down wrap w h d x y u v step in
      let column : step_end w (right_by d) (left_by d) x ≡ u = apart-stepped wrap w (right_by d) (left_by d) x u here.column far.column (one_across d) across in
      let row : step_end h (down_by d) (up_by d) y ≡ v = apart-stepped wrap h (down_by d) (up_by d) y v here.row far.row (one_down d) down in
      let place : place_number w (step_end w (right_by d) (left_by d) x) (step_end h (down_by d) (up_by d) y) ≡ get_or mask.places m 0 =
      ap (λ k. place_number w k (step_end h (down_by d) (up_by d) y)) column ∙ ap (place_number w u) row ∙ far.cell in
      beside-neighbour set mask wrap pins is c d m inside (record {
        dir = dir;
        there = and_from _ _
            (apart-there wrap w (right_by d) (left_by d) x u here.column far.column (one_across d) across)
            (apart-there wrap h (down_by d) (up_by d) y v here.row far.row (one_down d) down);
        cell = ap (cell_number mask) place ∙ found mask.places (get_or mask.places m 0) m is.rising other refl;
      })

  -- ---- supports

  -- what fits is allowed
  support_by : (v u d : ℕ) (Allowed : Type 0) → v < count → d < 4 → (variants_fit set d v u ≡ true → Allowed) → (Allowed → variants_fit set d v u ≡ true)
      → Contains (supports_of (problem_of_tiles set mask wrap pins) v d) u ↔ ((u < count) × Allowed)
  support_by v u d Allowed first dir there back = (
    λ has. (let is = support-fits set mask wrap pins v u d dir has in (is.second, there is.fit)),
    λ both. fits-support set mask wrap pins v u d dir (record { first = first; second = both.0; fit = back both.1 }),
  )

  pub support-left : (v u : ℕ) → v < count
      → Contains (supports_of (problem_of_tiles set mask wrap pins) v 0) u ↔ ((u < count) × IsAcross set (variant_at set.tiles u) (variant_at set.tiles v))
  support-left v u first = support_by v u 0 (IsAcross set (variant_at set.tiles u) (variant_at set.tiles v)) first (omega arith) (pair_has (across_pairs set) _ _) (has_the_pair (across_pairs set) _ _)

  pub support-below : (v u : ℕ) → v < count
      → Contains (supports_of (problem_of_tiles set mask wrap pins) v 1) u ↔ ((u < count) × IsDown set (variant_at set.tiles v) (variant_at set.tiles u))
  support-below v u first = support_by v u 1 (IsDown set (variant_at set.tiles v) (variant_at set.tiles u)) first (omega arith) (pair_has (down_pairs set) _ _) (has_the_pair (down_pairs set) _ _)

  pub support-right : (v u : ℕ) → v < count
      → Contains (supports_of (problem_of_tiles set mask wrap pins) v 2) u ↔ ((u < count) × IsAcross set (variant_at set.tiles v) (variant_at set.tiles u))
  support-right v u first = support_by v u 2 (IsAcross set (variant_at set.tiles v) (variant_at set.tiles u)) first (omega arith) (pair_has (across_pairs set) _ _) (has_the_pair (across_pairs set) _ _)

  pub support-above : (v u : ℕ) → v < count
      → Contains (supports_of (problem_of_tiles set mask wrap pins) v 3) u ↔ ((u < count) × IsDown set (variant_at set.tiles u) (variant_at set.tiles v))
  support-above v u first = support_by v u 3 (IsDown set (variant_at set.tiles u) (variant_at set.tiles v)) first (omega arith) (pair_has (down_pairs set) _ _) (has_the_pair (down_pairs set) _ _)

  -- ---- the base

  -- a pin's place is a cell's where its column and its row are
  pin_place : IsMask mask → (c : ℕ) → c < length mask.places → (pin : Pin) → pin.column ≡ cell_column mask c → pin.row ≡ cell_row mask c → place_number w pin.column pin.row ≡ get_or mask.places c 0
  pin_place is c inside pin column row = ap (λ k. place_number w k pin.row) column ∙ ap (place_number w (cell_column mask c)) row ∙ (place_is set mask wrap pins is c inside).cell

  suits_there : (n v : ℕ) (pin : Pin) → place_number w pin.column pin.row ≡ n → variant_suits_at w n v pin ≡ true → suits pin v ≡ true
  suits_there n v pin same test = sym (ap (λ t. not t || suits pin v) (eq-eqb (place_number w pin.column pin.row) n same)) ∙ test

  there_suits : (n v : ℕ) (pin : Pin) → (place_number w pin.column pin.row ≡ n → suits pin v ≡ true) → variant_suits_at w n v pin ≡ true
  there_suits n v pin here = by (place_number w pin.column pin.row == n) refl
    where
      by : (b : Bool) → (place_number w pin.column pin.row == n) ≡ b → (not b || suits pin v) ≡ true
      by true e = here (eqb-true (place_number w pin.column pin.row) n e)
      by false e = refl

  pub base-holds : IsMask mask → (c v : ℕ) → c < length mask.places → v < count
      → in_base (problem_of_tiles set mask wrap pins) c v ≡ true → All (HoldsPinAt (cell_column mask c) (cell_row mask c) v) pins
  base-holds is c v inside value base k d l column row =
      held-from_suits (get_or pins k d) v
      (suits_there (get_or mask.places c 0) v (get_or pins k d) (pin_place is c inside (get_or pins k d) column row)
      (AllPass-from_list_all (λ pin. variant_suits_at w (get_or mask.places c 0) v pin) pins (sym (base-at set mask wrap pins c v inside value) ∙ base) k d l))

  pub holds-base : IsMask mask → ArePlaced mask pins → (c v : ℕ) → c < length mask.places → v < count
      → All (HoldsPinAt (cell_column mask c) (cell_row mask c) v) pins → in_base (problem_of_tiles set mask wrap pins) c v ≡ true
  holds-base is placed c v inside value holds =
      base-at set mask wrap pins c v inside value
      ∙ list_all-from_AllPass (λ pin. variant_suits_at w (get_or mask.places c 0) v pin) pins (λ k d l.
      let pin = get_or pins k d in
      let here = place_is set mask wrap pins is c inside in
      there_suits (get_or mask.places c 0) v pin (λ same.
      let both : place_number w pin.column pin.row ≡ place_number w (cell_column mask c) (cell_row mask c) = same ∙ sym here.cell in
      suits-from pin v
      (holds k d l
      (same_column w pin.column pin.row (cell_column mask c) (cell_row mask c) (placed k d l).column_in here.column both)
      (same_row w pin.column pin.row (cell_column mask c) (cell_row mask c) (placed k d l).column_in here.column both))))

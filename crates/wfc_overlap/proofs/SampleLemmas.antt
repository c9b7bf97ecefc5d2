-- The problem of a sample, entry by entry; and that it is a problem.
use Rattle.std.proofs.Common.{◌≡◌, ℕ, zero, suc, ◌+◌, ◌*◌, ◌/◌, ◌%◌, ◌<◌, ◌≤◌, Bool, true, false, ◌&&◌, inl, List, [], length, get_or, map, refl, sym, subst, ap, ◌∙◌, arith, zero-add, Some}
use Rattle.std.specs.Prelude.{Contains}
use Rattle.std.specs.List.{range_with_len}
use Rattle.std.proofs.lemmas.Bool.{and_parts, and_from, cond-true, cond-false}
use Rattle.std.proofs.lemmas.List.{get_or-map, length-map}
use Rattle.std.proofs.lemmas.List.FromFn.{length-map-range_with_len, get_or-map-range_with_len}
use Rattle.std.proofs.lemmas.Nat.{mul-add-lt}
use Rattle.std.proofs.Math.Nat.{mul-le-mul_right, mul_comm}
use Rattle.wfc_model.specs.Direction.{opposite, left_by, down_by, right_by, up_by}
use Rattle.wfc_model.specs.Window.{places, starts}
use Rattle.wfc_model.specs.Legal.{Pin}
use Rattle.wfc_pattern.specs.Agreement.{agrees}
use Rattle.wfc_pattern.specs.Patterns.{PatternsView, IsPatterns, window_at}
use Rattle.wfc_pattern.proofs.CallerLemmas.{opposite_agrees}
use Rattle.wfc_problem.specs.Network.{Network, IsProblem, neighbour, supports_of, in_base, has_flag}
use Rattle.wfc_problem.specs.declared.TheConstants.{NO_CELL, MAX_PAIRS}
use Rattle.wfc_lists.proofs.Tables.{length-table, table-at, row_below}
use Rattle.wfc_model.proofs.CallerLemmas.{opposite_below}
use Rattle.wfc_problem.proofs.CallerLemmas.{neighbour_read, neighbour_not_none, neighbour_is, supports_inside, flag_at}
use Rattle.wfc_places.specs.Steps.{step_end, is_there, place_number}
use Rattle.wfc_overlap.specs.Sample.{Output, window_beside, agreeing_patterns, window_meets_pins, problem_of_sample}
use Rattle.wfc_overlap.specs.Bridge.{IsRoom}
use Rattle.wfc_places.proofs.CallerLemmas as shared
use Rattle.wfc_places.proofs.CallerLemmas.{one_across, one_down, length-supports, support-fits, fits-support, supports_rise, stepped-is, stepped-stepped, there_again}
use Rattle.wfc_model.proofs.CallerLemmas.{length-places, places-at, IsCell, cell_is}

module _ (patterns : PatternsView) (output : Output) (pins : List Pin) where
  abbrev P : Network
  P = problem_of_sample patterns output pins

  abbrev all : List (ℕ × ℕ)
  all = places output.width output.height patterns.n output.wrap

  abbrev columns : ℕ
  columns = starts output.width patterns.n output.wrap

  abbrev rows : ℕ
  rows = starts output.height patterns.n output.wrap

  abbrev count : ℕ
  count = length patterns.windows

  abbrev across : ℕ → ℕ → ℕ
  across x d = step_end columns (right_by d) (left_by d) x

  abbrev down : ℕ → ℕ → ℕ
  down y d = step_end rows (down_by d) (up_by d) y

  pub cells-is : P.cells ≡ rows * columns
  cells-is = length-places output.width output.height patterns.n output.wrap

  pub cell_inside : (x y : ℕ) → x < columns → y < rows → place_number columns x y < P.cells
  cell_inside x y column row = omega (arith, cells-is, mul-add-lt y columns x rows row column)

  pub cell_place : (c : ℕ) → c < P.cells → IsCell columns rows c (c % columns) (c / columns)
  cell_place c inside = cell_is columns rows c (omega (arith, cells-is))

  -- ---- what lies beside a place

  pub entry : (x y d : ℕ) → x < columns → y < rows → d < 4 → get_or P.neighbours (place_number columns x y * 4 + d) NO_CELL ≡ window_beside patterns.n output (x, y) d
  entry x y d column row dir =
      table-at (λ place. map (λ d. window_beside patterns.n output place d) (range_with_len 0 4)) 4
      (λ place. length-map-range_with_len (λ d. window_beside patterns.n output place d) 0 4) all (place_number columns x y) d (0, 0) NO_CELL (cell_inside x y column row) dir
      ∙ ap (λ place. get_or (map (λ d. window_beside patterns.n output place d) (range_with_len 0 4)) d NO_CELL) (places-at output.width output.height patterns.n output.wrap x y (0, 0) column row)
      ∙ get_or-map-range_with_len (λ d. window_beside patterns.n output (x, y) d) 0 4 d d NO_CELL dir (zero-add d)

  pub record IsBeside (x y d m : ℕ) : Type 0 where
    pub dir : d < 4
    pub across_there : is_there columns output.wrap (right_by d) (left_by d) x ≡ true
    pub down_there : is_there rows output.wrap (down_by d) (up_by d) y ≡ true
    pub cell : m ≡ place_number columns (across x d) (down y d)

  abbrev both_there : ℕ → ℕ → ℕ → Bool
  both_there x y d = is_there columns output.wrap (right_by d) (left_by d) x && is_there rows output.wrap (down_by d) (up_by d) y

  pub neighbour-place : (x y d m : ℕ) → x < columns → y < rows → neighbour P (place_number columns x y) d ≡ Some m → IsBeside x y d m
  neighbour-place x y d m column row at =
      let read = neighbour_read P (place_number columns x y) d m at in
      let is_m : window_beside patterns.n output (x, y) d ≡ m = sym (entry x y d column row read.dir_in) ∙ read.entry in
      by read.dir_in is_m (both_there x y d) refl
    where
      by : d < 4 → window_beside patterns.n output (x, y) d ≡ m → (b : Bool) → both_there x y d ≡ b → IsBeside x y d m
      by dir is_m true e =
          let parts = and_parts _ _ e in
          record { dir = dir; across_there = parts.0; down_there = parts.1; cell = sym is_m ∙ cond-true (both_there x y d) (place_number columns (across x d) (down y d)) NO_CELL e }
      by dir is_m false e =
          absurd (neighbour_not_none P (place_number columns x y) d m at (sym is_m ∙ cond-false (both_there x y d) (place_number columns (across x d) (down y d)) NO_CELL e))

  pub neighbour-cell : (c d m : ℕ) → neighbour P c d ≡ Some m → c < P.cells
  neighbour-cell c d m at =
      let read = neighbour_read P c d m at in
      row_below c d 4 P.cells
      (omega (arith, read.inside, length-table (λ place. map (λ d. window_beside patterns.n output place d) (range_with_len 0 4)) 4 (λ place. length-map-range_with_len (λ d. window_beside patterns.n output place d) 0 4) all))

  few_cells : IsPatterns patterns → IsRoom patterns output → P.cells ≤ MAX_PAIRS
  few_cells taught room =
      let some : 1 * P.cells ≤ count * P.cells = mul-le-mul_right P.cells taught.some_window in
      omega (arith, some, room.few_pairs, mul_comm count P.cells)

  pub place-neighbour : IsPatterns patterns → IsRoom patterns output → (x y d : ℕ) → x < columns → y < rows → d < 4
      → is_there columns output.wrap (right_by d) (left_by d) x ≡ true → is_there rows output.wrap (down_by d) (up_by d) y ≡ true
      → neighbour P (place_number columns x y) d ≡ Some (place_number columns (across x d) (down y d))
  place-neighbour taught room x y d column row dir across_there down_there =
      let is_grid_byte : get_or P.neighbours (place_number columns x y * 4 + d) NO_CELL ≡ place_number columns (across x d) (down y d) =
      entry x y d column row dir ∙ cond-true (both_there x y d) (place_number columns (across x d) (down y d)) NO_CELL (and_from _ _ across_there down_there) in
      let u = stepped-is columns (right_by d) (left_by d) x column (one_across d) in
      let v = stepped-is rows (down_by d) (up_by d) y row (one_down d) in
      let inside = cell_inside (across x d) (down y d) u.below v.below in
      let few = few_cells taught room in
      neighbour_is P (place_number columns x y) d dir (λ none. omega (arith, is_grid_byte, none, inside, few)) ∙ ap Some is_grid_byte

  -- ---- the step back

  back_by : IsPatterns patterns → IsRoom patterns output → (x y d e m : ℕ) → x < columns → y < rows → e < 4
      → right_by e ≡ left_by d → left_by e ≡ right_by d → down_by e ≡ up_by d → up_by e ≡ down_by d
      → IsBeside x y d m → neighbour P m e ≡ Some (place_number columns x y)
  back_by taught room x y d e m column row dir right left low up near =
      let u = stepped-is columns (right_by d) (left_by d) x column (one_across d) in
      let v = stepped-is rows (down_by d) (up_by d) y row (one_down d) in
      let across_there : is_there columns output.wrap (right_by e) (left_by e) (across x d) ≡ true =
      ap (λ k. is_there columns output.wrap k (left_by e) (across x d)) right ∙ ap (λ k. is_there columns output.wrap (left_by d) k (across x d)) left
      ∙ there_again columns output.wrap (right_by d) (left_by d) x column (one_across d) near.across_there in
      let down_there : is_there rows output.wrap (down_by e) (up_by e) (down y d) ≡ true =
      ap (λ k. is_there rows output.wrap k (up_by e) (down y d)) low ∙ ap (λ k. is_there rows output.wrap (up_by d) k (down y d)) up
      ∙ there_again rows output.wrap (down_by d) (up_by d) y row (one_down d) near.down_there in
      let back_x : across (across x d) e ≡ x =
      ap (λ k. step_end columns k (left_by e) (across x d)) right ∙ ap (λ k. step_end columns (left_by d) k (across x d)) left ∙ stepped-stepped columns (right_by d) (left_by d) x column (one_across d) in
      let back_y : down (down y d) e ≡ y =
      ap (λ k. step_end rows k (up_by e) (down y d)) low ∙ ap (λ k. step_end rows (up_by d) k (down y d)) up ∙ stepped-stepped rows (down_by d) (up_by d) y row (one_down d) in
      ap (λ k. neighbour P k e) near.cell
      ∙ place-neighbour taught room (across x d) (down y d) e u.below v.below dir across_there down_there
      ∙ ap (λ k. Some (place_number columns k (down (down y d) e))) back_x
      ∙ ap (λ k. Some (place_number columns x k)) back_y

  back_at : IsPatterns patterns → IsRoom patterns output → (x y d m : ℕ) → x < columns → y < rows → d < 4 → IsBeside x y d m → neighbour P m (opposite d) ≡ Some (place_number columns x y)
  back_at taught room x y zero m column row dir near = back_by taught room x y 0 2 m column row (omega arith) refl refl refl refl near
  back_at taught room x y (suc zero) m column row dir near = back_by taught room x y 1 3 m column row (omega arith) refl refl refl refl near
  back_at taught room x y (suc (suc zero)) m column row dir near = back_by taught room x y 2 0 m column row (omega arith) refl refl refl refl near
  back_at taught room x y (suc (suc (suc zero))) m column row dir near = back_by taught room x y 3 1 m column row (omega arith) refl refl refl refl near
  back_at taught room x y (suc (suc (suc (suc d)))) m column row dir near = absurd (omega arith)

  back : IsPatterns patterns → IsRoom patterns output → (c d m : ℕ) → neighbour P c d ≡ Some m → neighbour P m (opposite d) ≡ Some c
  back taught room c d m at =
      let place = cell_place c (neighbour-cell c d m at) in
      let near = neighbour-place (c % columns) (c / columns) d m place.column place.row (ap (λ k. neighbour P k d) place.cell ∙ at) in
      back_at taught room (c % columns) (c / columns) d m place.column place.row near.dir near ∙ ap Some place.cell

  in_cells : (c d m : ℕ) → neighbour P c d ≡ Some m → m < P.cells
  in_cells c d m at =
      let place = cell_place c (neighbour-cell c d m at) in
      let near = neighbour-place (c % columns) (c / columns) d m place.column place.row (ap (λ k. neighbour P k d) place.cell ∙ at) in
      let u = stepped-is columns (right_by d) (left_by d) (c % columns) place.column (one_across d) in
      let v = stepped-is rows (down_by d) (up_by d) (c / columns) place.row (one_down d) in
      omega (arith, near.cell, cell_inside (across (c % columns) d) (down (c / columns) d) u.below v.below)

  -- ---- which patterns may stand side by side

  abbrev agree_in : ℕ → ℕ → ℕ → Bool
  agree_in d p q = agrees patterns.n (window_at patterns p) (window_at patterns q) d

  pub supports-at : (p d : ℕ) → p < count → d < 4 → supports_of P p d ≡ agreeing_patterns patterns p d
  supports-at p d inside dir = shared.supports-at P count agree_in refl p d inside dir

  pub record IsBesideIn (p q d : ℕ) : Type 0 where
    pub first : p < count
    pub second : q < count
    pub agree : agrees patterns.n (window_at patterns p) (window_at patterns q) d ≡ true

  pub support-agrees : (p q d : ℕ) → d < 4 → Contains (supports_of P p d) q → IsBesideIn p q d
  support-agrees p q d dir has = let fit = support-fits P count agree_in refl p q d has in record { first = fit.first; second = fit.second; agree = fit.fit }

  pub agrees-support : (p q d : ℕ) → d < 4 → IsBesideIn p q d → Contains (supports_of P p d) q
  agrees-support p q d dir fit = fits-support P count agree_in refl p q d dir (record { first = fit.first; second = fit.second; fit = fit.agree })

  symmetric : (v w d : ℕ) → Contains (supports_of P v d) w → Contains (supports_of P w (opposite d)) v
  symmetric v w d has =
      let dir = (supports_inside P v d w has).0 in
      let fit = support-agrees v w d dir has in
      agrees-support w v (opposite d) (opposite_below 4 d (inl refl) dir)
      (record {
        first = fit.second;
        second = fit.first;
        agree = sym (opposite_agrees patterns.n (window_at patterns v) (window_at patterns w) d dir) ∙ fit.agree;
      })

  -- ---- the base

  pub length-base : IsPatterns patterns → length P.base ≡ P.cells * length patterns.weights
  length-base taught =
      length-table (λ place. map (λ w. window_meets_pins patterns.n output place w pins) patterns.windows) count (λ place. length-map patterns.windows (λ w. window_meets_pins patterns.n output place w pins)) all
      ∙ ap (λ k. P.cells * k) (sym taught.weighed)

  pub base-at : IsPatterns patterns → (x y v : ℕ) → x < columns → y < rows → v < count → in_base P (place_number columns x y) v ≡ window_meets_pins patterns.n output (x, y) (window_at patterns v) pins
  base-at taught x y v column row inside =
      ap (λ k. has_flag k P.base (place_number columns x y) v) taught.weighed
      ∙ flag_at count P.base (place_number columns x y) v inside
      ∙ table-at (λ place. map (λ w. window_meets_pins patterns.n output place w pins) patterns.windows) count (λ place. length-map patterns.windows (λ w. window_meets_pins patterns.n output place w pins)) all (place_number columns x y) v (0, 0) false (cell_inside x y column row) inside
      ∙ ap (λ place. get_or (map (λ w. window_meets_pins patterns.n output place w pins) patterns.windows) v false) (places-at output.width output.height patterns.n output.wrap x y (0, 0) column row)
      ∙ get_or-map (λ w. window_meets_pins patterns.n output (x, y) w pins) patterns.windows v [] false inside

  some_row : IsPatterns patterns → IsRoom patterns output → (0 < columns) × (0 < rows)
  some_row taught room = by output.wrap
    where
      by : (b : Bool) → (0 < starts output.width patterns.n b) × (0 < starts output.height patterns.n b)
      by true = (omega (arith, room.wide, taught.some_side), omega (arith, room.high, taught.some_side))
      by false = (omega (arith, room.wide), omega (arith, room.high))

  pub sample_problem : IsPatterns patterns → IsRoom patterns output → IsProblem P
  sample_problem taught room = record {
    sized = record {
      some_cell = let some = some_row taught room in let first = cell_inside 0 0 some.0 some.1 in omega arith;
      few_cells = few_cells taught room;
      four_or_six = inl refl;
      some_value = omega (arith, taught.some_window, taught.weighed);
      few_values = omega (arith, taught.few, taught.weighed);
      few_pairs = subst (λ k. P.cells * k ≤ MAX_PAIRS) (sym taught.weighed) room.few_pairs;
      neighbours_table = length-table (λ place. map (λ d. window_beside patterns.n output place d) (range_with_len 0 4)) 4 (λ place. length-map-range_with_len (λ d. window_beside patterns.n output place d) 0 4) all;
      supports_table = length-supports P count agree_in refl ∙ ap (λ k. k * 4) (sym taught.weighed);
      base_table = length-base taught;
    };
    indexed = record {
      in_cells = in_cells;
      rising = supports_rise P count agree_in refl;
      in_values = λ v w d has. let fit = support-agrees v w d (supports_inside P v d w has).0 has in omega (arith, taught.weighed, fit.second);
    };
    weighed = record {
      some_weight = λ v inside. taught.some_weight v 0 inside;
      small_weight = λ v inside. let small = taught.small_weight v 0 inside in omega arith;
    };
    back = back taught room;
    symmetric = symmetric;
  }

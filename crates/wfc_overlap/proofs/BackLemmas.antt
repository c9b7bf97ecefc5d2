-- The picture that a legal assignment paints is legal, and its window at each place is the assigned one.
use Rattle.std.proofs.Common.{◌≡◌, ℕ, zero, suc, ◌+◌, ◌-◌, ◌%◌, ◌<◌, ◌≤◌, min, Bool, true, false, ◌⊎◌, inl, inr, List, [], length, get_or, map, refl, sym, subst, ap, ◌∙◌, arith, zero-add}
use Rattle.std.specs.Prelude.{Contains, All, MatchBool, ◌≢◌}
use Rattle.std.specs.List.{range_with_len}
use Rattle.std.proofs.lemmas.List.{get_or_default}
use Rattle.std.proofs.lemmas.List.Elements.{All-from_recursion}
use Rattle.std.proofs.lemmas.List.FromFn.{length-map-range_with_len, get_or-map-range_with_len}
use Rattle.std.proofs.lemmas.Nat.{mod_below}
use Rattle.std.proofs.Math.Nat.{mod-add-mod, add-mod_right}
use Rattle.wfc_model.specs.Raster.{Raster, height_of, number_at, IsSized}
use Rattle.wfc_model.specs.Image.{cell_at}
use Rattle.wfc_model.specs.Direction.{left_by, down_by, right_by, up_by}
use Rattle.wfc_model.specs.Window.{window, places, starts}
use Rattle.wfc_model.specs.Legal.{Pin, IsHeld}
use Rattle.wfc_model.proofs.CallerLemmas.{All-places}
use Rattle.wfc_lists.proofs.Ranges.{each_in_row}
use Rattle.wfc_model.proofs.CallerLemmas.{square-from}
use Rattle.wfc_pattern.specs.Agreement.{Agrees}
use Rattle.wfc_pattern.specs.Patterns.{PatternsView, IsPatterns, window_at}
use Rattle.wfc_pattern.proofs.CallerLemmas.{everywhere}
use Rattle.wfc_problem.specs.Network.{Network, supports_of}
use Rattle.wfc_problem.specs.Assignment.{IsLegalAssignment}
use Rattle.wfc_lists.proofs.Lists.{has_Contains}
use Rattle.wfc_problem.proofs.CallerLemmas.{base_inside}
use Rattle.wfc_places.specs.Steps.{step_end, is_there, place_number}
use Rattle.wfc_overlap.specs.Sample.{Output, window_meets_pins, problem_of_sample}
use Rattle.wfc_overlap.specs.Bridge.{IsRoom, AreInside, nearest, pixel_of, picture_of}
use Rattle.wfc_places.proofs.CallerLemmas.{mod_low, forth_there, stay_there, stayed, held-from_suits}
use Rattle.wfc_overlap.proofs.SampleLemmas.{cell_inside, place-neighbour, support-agrees, base-at, sample_problem}
use Rattle.wfc_overlap.proofs.PinLemmas.{from-meets}

-- one step after t steps
stepped_on : (count at t : ℕ) → step_end count 1 0 ((at + t) % count) ≡ (at + suc t) % count
stepped_on count at t =
    let front : (at + t) % count + 1 + count - 0 ≡ (at + t) % count + 1 + count = omega arith in
    let next : at + t + 1 ≡ at + suc t = omega arith in
    ap (λ k. k % count) front ∙ add-mod_right ((at + t) % count + 1) count ∙ mod-add-mod (at + t) count 1 ∙ ap (λ k. k % count) next

-- t steps forth from at stay on the side, or wrap
abbrev Open : Bool → ℕ → ℕ → ℕ → Type 0
Open wrap count at t = (wrap ≡ true) ⊎ (at + t < count)

open_before : (wrap : Bool) (count at t : ℕ) → Open wrap count at (suc t) → Open wrap count at t
open_before wrap count at t (inl e) = inl e
open_before wrap count at t (inr l) = inr (omega arith)

open_step : (wrap : Bool) (count at t : ℕ) → Open wrap count at (suc t) → (wrap ≡ true) ⊎ ((at + t) % count + 1 < count)
open_step wrap count at t (inl e) = inl e
open_step wrap count at t (inr l) = inr (omega (arith, mod_low (at + t) count (omega arith)))

-- from a place along one side to the nearest place of the pixel that lies i further
record Reach (side n : ℕ) (wrap : Bool) (at i : ℕ) : Type 0 where
  steps : ℕ
  few : steps ≤ i
  on : Open wrap (starts side n wrap) at steps
  leads : (at + steps) % starts side n wrap ≡ nearest side n wrap ((at + i) % side)
  rest : i - steps ≡ (at + i) % side - nearest side n wrap ((at + i) % side)

reach : (side n : ℕ) (wrap : Bool) (at i : ℕ) → at < starts side n wrap → n ≤ side → i < n → Reach side n wrap at i
reach side n true at i inside fits small =
    let low = mod_below (at + i) side (omega arith) in
    record { steps = i; few = omega arith; on = inl refl; leads = omega arith; rest = omega arith }
reach side n false at i inside fits small =
    let count = starts side n false in
    let pixel = mod_low (at + i) side (omega arith) in
    let t = min (at + i) (count - 1) - at in
    let place = mod_low (at + t) count (omega arith) in
    record { steps = t; few = omega arith; on = inr (omega arith); leads = omega arith; rest = omega arith }

-- the nearest place of a pixel is a place whose window has the pixel
pub record IsNear (side n : ℕ) (wrap : Bool) (at : ℕ) : Type 0 where
  pub inside : nearest side n wrap at < starts side n wrap
  pub before : nearest side n wrap at ≤ at
  pub within : at - nearest side n wrap at < n

pub near : (side n : ℕ) (wrap : Bool) (at : ℕ) → at < side → 0 < n → n ≤ side → IsNear side n wrap at
near side n true at inside some fits = record { inside = omega arith; before = omega arith; within = omega arith }
near side n false at inside some fits = record { inside = omega arith; before = omega arith; within = omega arith }

module _ (patterns : PatternsView) (output : Output) (pins : List Pin) (a : List ℕ) (taught : IsPatterns patterns) (room : IsRoom patterns output) (legal : IsLegalAssignment (problem_of_sample patterns output pins) a) where
  abbrev P : Network
  P = problem_of_sample patterns output pins

  abbrev columns : ℕ
  columns = starts output.width patterns.n output.wrap

  abbrev rows : ℕ
  rows = starts output.height patterns.n output.wrap

  abbrev n : ℕ
  n = patterns.n

  -- the pattern at a place, and its window
  abbrev pub value : ℕ → ℕ → ℕ
  value x y = get_or a (place_number columns x y) 0

  abbrev pub W : ℕ → ℕ → List ℕ
  W x y = window_at patterns (value x y)

  abbrev picture : Raster
  picture = picture_of patterns output a

  pub value_in : (x y : ℕ) → x < columns → y < rows → value x y < length patterns.windows
  value_in x y column row =
      let inside = base_inside P (sample_problem patterns output pins taught room) (place_number columns x y) (value x y) (legal.based (place_number columns x y) (cell_inside patterns output pins x y column row)) in
      omega (arith, inside.1, taught.weighed)

  -- ---- from window to window

  step_agrees : (x y d : ℕ) → x < columns → y < rows → d < 4
      → is_there columns output.wrap (right_by d) (left_by d) x ≡ true → is_there rows output.wrap (down_by d) (up_by d) y ≡ true
      → Agrees n (W x y) (W (step_end columns (right_by d) (left_by d) x) (step_end rows (down_by d) (up_by d) y)) d
  step_agrees x y d column row dir across_there down_there =
      let u = step_end columns (right_by d) (left_by d) x in
      let v = step_end rows (down_by d) (up_by d) y in
      let beside = legal.beside (place_number columns x y) d (place_number columns u v) (place-neighbour patterns output pins taught room x y d column row dir across_there down_there) in
      everywhere n (W x y) (W u v) d
      (support-agrees patterns output pins (value x y) (value u v) d dir (has_Contains (supports_of P (value x y) d) (value u v) beside)).agree

  right_one : (x y i j : ℕ) → x < columns → y < rows → (output.wrap ≡ true) ⊎ (x + 1 < columns) → i + 1 < n → j < n → cell_at n (W x y) (i + 1) j ≡ cell_at n (W (step_end columns 1 0 x) y) i j
  right_one x y i j column row on i_in j_in =
      step_agrees x y 2 column row (omega arith) (forth_there columns output.wrap x on) (stay_there rows output.wrap y row)
      (i + 1) j i j i_in j_in (omega arith) j_in (record { across = omega arith; down = omega arith })
      ∙ ap (λ v. cell_at n (W (step_end columns 1 0 x) v) i j) (stayed rows y row)

  down_one : (x y i j : ℕ) → x < columns → y < rows → (output.wrap ≡ true) ⊎ (y + 1 < rows) → i < n → j + 1 < n → cell_at n (W x y) i (j + 1) ≡ cell_at n (W x (step_end rows 1 0 y)) i j
  down_one x y i j column row on i_in j_in =
      step_agrees x y 1 column row (omega arith) (stay_there columns output.wrap x column) (forth_there rows output.wrap y on)
      i (j + 1) i j i_in j_in i_in (omega arith) (record { across = omega arith; down = omega arith })
      ∙ ap (λ u. cell_at n (W u (step_end rows 1 0 y)) i j) (stayed columns x column)

  right : (t x y i j : ℕ) → x < columns → y < rows → Open output.wrap columns x t → t ≤ i → i < n → j < n → cell_at n (W x y) i j ≡ cell_at n (W ((x + t) % columns) y) (i - t) j
  right zero x y i j column row on few i_in j_in =
      let here : x + 0 ≡ x = omega arith in
      let place : (x + 0) % columns ≡ x = ap (λ k. k % columns) here ∙ mod_low x columns column in
      let entry : i - 0 ≡ i = omega arith in
      ap (λ u. cell_at n (W u y) i j) (sym place) ∙ ap (λ k. cell_at n (W ((x + 0) % columns) y) k j) (sym entry)
  right (suc t) x y i j column row on few i_in j_in =
      let u = (x + t) % columns in
      let entry : i - t ≡ i - suc t + 1 = omega arith in
      right t x y i j column row (open_before output.wrap columns x t on) (omega arith) i_in j_in
      ∙ ap (λ k. cell_at n (W u y) k j) entry
      ∙ right_one u y (i - suc t) j (mod_below (x + t) columns (omega arith)) row (open_step output.wrap columns x t on) (omega arith) j_in
      ∙ ap (λ k. cell_at n (W k y) (i - suc t) j) (stepped_on columns x t)

  down : (t x y i j : ℕ) → x < columns → y < rows → Open output.wrap rows y t → t ≤ j → i < n → j < n → cell_at n (W x y) i j ≡ cell_at n (W x ((y + t) % rows)) i (j - t)
  down zero x y i j column row on few i_in j_in =
      let here : y + 0 ≡ y = omega arith in
      let place : (y + 0) % rows ≡ y = ap (λ k. k % rows) here ∙ mod_low y rows row in
      let entry : j - 0 ≡ j = omega arith in
      ap (λ v. cell_at n (W x v) i j) (sym place) ∙ ap (λ k. cell_at n (W x ((y + 0) % rows)) i k) (sym entry)
  down (suc t) x y i j column row on few i_in j_in =
      let v = (y + t) % rows in
      let entry : j - t ≡ j - suc t + 1 = omega arith in
      down t x y i j column row (open_before output.wrap rows y t on) (omega arith) i_in j_in
      ∙ ap (λ k. cell_at n (W x v) i k) entry
      ∙ down_one x v i (j - suc t) column (mod_below (y + t) rows (omega arith)) (open_step output.wrap rows y t on) i_in (omega arith)
      ∙ ap (λ k. cell_at n (W x k) i (j - suc t)) (stepped_on rows y t)

  -- ---- the picture

  pub height-picture : height_of picture ≡ output.height
  height-picture = length-map-range_with_len (λ y. map (λ x. pixel_of patterns output a x y) (range_with_len 0 output.width)) 0 output.height

  pub pixel-at : (x y : ℕ) → x < output.width → y < output.height → number_at picture x y ≡ pixel_of patterns output a x y
  pixel-at x y column row =
      ap (λ (r : List ℕ). get_or r x 0) (get_or-map-range_with_len (λ y. map (λ x. pixel_of patterns output a x y) (range_with_len 0 output.width)) 0 output.height y y [] row (zero-add y))
      ∙ get_or-map-range_with_len (λ x. pixel_of patterns output a x y) 0 output.width x x 0 column (zero-add x)

  pub sized : IsSized picture output.width output.height
  sized = record {
    raster = record {
      some_column = omega (arith, room.wide, taught.some_side);
      some_row = omega (arith, height-picture, room.high, taught.some_side);
      rows_fit = All-from_recursion (λ (row : List ℕ). length row ≡ output.width) picture.rows
          (each_in_row (λ (row : List ℕ). length row ≡ output.width) (λ y. map (λ x. pixel_of patterns output a x y) (range_with_len 0 output.width)) 0 output.height
          (λ y _ _. length-map-range_with_len (λ x. pixel_of patterns output a x y) 0 output.width));
    };
    same_width = refl;
    same_height = height-picture;
  }

  -- what a pattern has is what the picture has there
  pub painted : (x y i j : ℕ) → x < columns → y < rows → i < n → j < n → cell_at n (W x y) i j ≡ number_at picture ((x + i) % output.width) ((y + j) % output.height)
  painted x y i j column row i_in j_in =
      let across = reach output.width n output.wrap x i column room.wide i_in in
      let below = reach output.height n output.wrap y j row room.high j_in in
      let u = (x + across.steps) % columns in
      let v = (y + below.steps) % rows in
      let X = (x + i) % output.width in
      let Y = (y + j) % output.height in
      let U = nearest output.width n output.wrap X in
      let V = nearest output.height n output.wrap Y in
      right across.steps x y i j column row across.on across.few i_in j_in
      ∙ down below.steps u y (i - across.steps) j (mod_below (x + across.steps) columns (omega arith)) row below.on below.few (omega arith) j_in
      ∙ ap (λ k. cell_at n (W k v) (i - across.steps) (j - below.steps)) across.leads
      ∙ ap (λ k. cell_at n (W U k) (i - across.steps) (j - below.steps)) below.leads
      ∙ ap (λ k. cell_at n (W U V) k (j - below.steps)) across.rest
      ∙ ap (λ k. cell_at n (W U V) (X - U) k) below.rest
      ∙ sym (pixel-at X Y (mod_below (x + i) output.width (omega (arith, room.wide))) (mod_below (y + j) output.height (omega (arith, room.high))))

  pub window-is : (x y : ℕ) → x < columns → y < rows → window picture x y n ≡ W x y
  window-is x y column row =
      sym (square-from n (λ i j. number_at picture ((x + i) % picture.width) ((y + j) % height_of picture)) (W x y) (taught.squares (value x y) [] (value_in x y column row))
      (λ i j i_in j_in. painted x y i j column row i_in j_in ∙ ap (λ k. number_at picture ((x + i) % output.width) ((y + j) % k)) (sym height-picture)))

  pub windows_are_patterns : All (λ (place : ℕ × ℕ). Contains patterns.windows (window picture place.0 place.1 n)) (places output.width output.height n output.wrap)
  windows_are_patterns =
      All-places (λ (place : ℕ × ℕ). Contains patterns.windows (window picture place.0 place.1 n)) output.width output.height n output.wrap (λ x y column row.
      let inside = value_in x y column row in
      subst (Contains patterns.windows) (sym (window-is x y column row)) (value x y, inside, get_or_default patterns.windows (value x y) (W x y) [] inside))

  pub pins_hold : AreInside output pins → All (IsHeld picture) pins
  pins_hold pinned k d l =
      let pin = get_or pins k d in
      let place = pinned k d l in
      let across = near output.width n output.wrap pin.column place.0 taught.some_side room.wide in
      let below = near output.height n output.wrap pin.row place.1 taught.some_side room.high in
      let U = nearest output.width n output.wrap pin.column in
      let V = nearest output.height n output.wrap pin.row in
      let meets_all : window_meets_pins n output (U, V) (W U V) pins ≡ true =
      sym (base-at patterns output pins taught U V (value U V) across.inside below.inside (value_in U V across.inside below.inside))
      ∙ legal.based (place_number columns U V) (cell_inside patterns output pins U V across.inside below.inside) in
      let column : U + (pin.column - U) ≡ pin.column = omega (arith, across.before) in
      let row : V + (pin.row - V) ≡ pin.row = omega (arith, below.before) in
      let suited = from-meets n output (U, V) (W U V) pins meets_all k d l (pin.column - U) (pin.row - V) across.within below.within
      (ap (λ s. s % output.width) column ∙ mod_low pin.column output.width place.0) (ap (λ s. s % output.height) row ∙ mod_low pin.row output.height place.1) in
      record {
        column_in = place.0;
        row_in = omega (arith, height-picture, place.1);
        number = subst (λ s. MatchBool pin.keep (s ≡ pin.number) (s ≢ pin.number)) (sym (pixel-at pin.column pin.row place.0 place.1))
            (held-from_suits pin (cell_at n (W U V) (pin.column - U) (pin.row - V)) suited);
      }

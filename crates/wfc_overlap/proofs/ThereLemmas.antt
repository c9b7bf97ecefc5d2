-- The numbers of a legal picture's windows are a legal assignment.
use Rattle.std.proofs.Common.{◌≡◌, ℕ, ◌+◌, ◌*◌, ◌/◌, ◌%◌, ◌<◌, ◌≤◌, Bool, true, false, inl, inr, List, [], length, get_or, sym, subst, ap, ◌∙◌, arith, Some}
use Rattle.std.specs.Prelude.{nat_eq, Contains, All, MatchBool, ◌≢◌}
use Rattle.std.proofs.lemmas.Bool.{false≢true, cases_lt}
use Rattle.std.proofs.lemmas.List.{get_or-map, length-map}
use Rattle.std.proofs.lemmas.List.Sums.{passes_at_first, fails_before_first}
use Rattle.wfc_model.specs.Raster.{Raster, height_of, number_at, IsSized}
use Rattle.wfc_model.specs.Direction.{left_by, down_by, right_by, up_by}
use Rattle.wfc_model.specs.Window.{window, places, starts}
use Rattle.std.specs.Cmp.Lexicographic.{pointwise}
use Rattle.wfc_model.specs.Legal.{Pin, IsHeld}
use Rattle.wfc_model.proofs.CallerLemmas.{same_window-Decides}
use Rattle.wfc_model.proofs.CallerLemmas.{at_place}
use Rattle.wfc_model.proofs.CallerLemmas.{square-at}
use Rattle.wfc_pattern.specs.Agreement.{Agrees, agrees}
use Rattle.wfc_pattern.specs.Patterns.{PatternsView, IsPatterns, window_at}
use Rattle.wfc_pattern.proofs.CallerLemmas.{neighbours_agree}
use Rattle.wfc_pattern.proofs.CallerLemmas.{tested}
use Rattle.wfc_problem.specs.Network.{Network, neighbour, ok, supports_of, in_base}
use Rattle.wfc_problem.specs.Assignment.{IsLegalAssignment}
use Rattle.wfc_lists.proofs.Lists.{Contains_has}
use Rattle.wfc_places.specs.Steps.{step_end, is_there, place_number}
use Rattle.wfc_overlap.specs.Sample.{Output, window_meets_pins, problem_of_sample}
use Rattle.wfc_overlap.specs.Bridge.{pattern_number, numbers_of_windows}
use Rattle.wfc_places.proofs.CallerLemmas.{stepped-is, exact, stepped_modulo, one_across, one_down, suits-from}
use Rattle.wfc_model.proofs.CallerLemmas.{places-at}
use Rattle.wfc_overlap.proofs.SampleLemmas.{cell_inside, cell_place, neighbour-place, neighbour-cell, agrees-support, base-at}
use Rattle.wfc_overlap.proofs.PinLemmas.{meets-from}

-- the number of a window that is among the patterns
pub record IsNumbered (patterns : PatternsView) (w : List ℕ) : Type 0 where
  pub inside : pattern_number patterns w < length patterns.windows
  pub same : window_at patterns (pattern_number patterns w) ≡ w

pub numbered : (patterns : PatternsView) (w : List ℕ) → Contains patterns.windows w → IsNumbered patterns w
numbered patterns w has =
    let p = pattern_number patterns w in
    let inside : p < length patterns.windows = elim (cases_lt p (length patterns.windows)) [
      | inl l ↦ l
      | inr ge ↦ absurd (false≢true (sym (fails_before_first (pointwise nat_eq w) patterns.windows has.0 w (omega (arith, has.1))) ∙ (same_window-Decides w (get_or patterns.windows has.0 w)).1 (sym has.2)))
    ] in
    record { inside = inside; same = sym ((same_window-Decides w (window_at patterns p)).0 (passes_at_first (pointwise nat_eq w) patterns.windows [] inside)) }

-- a step of places is a step modulo the side of the picture
step_modulo : (side n : ℕ) (wrap : Bool) (forth back at : ℕ) → at < starts side n wrap → forth + back ≤ 1 → is_there (starts side n wrap) wrap forth back at ≡ true → (at + forth) % side ≡ (step_end (starts side n wrap) forth back at + back) % side
step_modulo side n true forth back at inside one there = stepped_modulo side forth back at (step_end side forth back at) (stepped-is side forth back at inside one)
step_modulo side n false forth back at inside one there =
    let count = starts side n false in
    ap (λ k. k % side) (sym (exact count forth back at (step_end count forth back at) (stepped-is count forth back at inside one) there))

module _ (patterns : PatternsView) (output : Output) (pins : List Pin) (m : Raster) where
  abbrev P : Network
  P = problem_of_sample patterns output pins

  abbrev all : List (ℕ × ℕ)
  all = places output.width output.height patterns.n output.wrap

  abbrev columns : ℕ
  columns = starts output.width patterns.n output.wrap

  abbrev rows : ℕ
  rows = starts output.height patterns.n output.wrap

  abbrev number : ℕ → ℕ → ℕ
  number x y = pattern_number patterns (window m x y patterns.n)

  abbrev a : List ℕ
  a = numbers_of_windows patterns output m

  pub number-at : (x y : ℕ) → x < columns → y < rows → get_or a (place_number columns x y) 0 ≡ number x y
  number-at x y column row =
      get_or-map (λ (place : ℕ × ℕ). pattern_number patterns (window m place.0 place.1 patterns.n)) all (place_number columns x y) (0, 0) 0 (cell_inside patterns output pins x y column row)
      ∙ ap (λ (place : ℕ × ℕ). pattern_number patterns (window m place.0 place.1 patterns.n)) (places-at output.width output.height patterns.n output.wrap x y (0, 0) column row)

  abbrev AreLearned : Type 0
  AreLearned = All (λ (place : ℕ × ℕ). Contains patterns.windows (window m place.0 place.1 patterns.n)) all

  pub number-is : AreLearned → (x y : ℕ) → x < columns → y < rows → IsNumbered patterns (window m x y patterns.n)
  number-is learned x y column row =
      numbered patterns (window m x y patterns.n)
      (at_place (λ (place : ℕ × ℕ). Contains patterns.windows (window m place.0 place.1 patterns.n)) output.width output.height patterns.n output.wrap learned x y column row)

  -- a window meets the pins that hold in the picture
  window_meets : IsSized m output.width output.height → All (IsHeld m) pins → (x y : ℕ) → window_meets_pins patterns.n output (x, y) (window m x y patterns.n) pins ≡ true
  window_meets sized held x y =
      meets-from patterns.n output (x, y) (window m x y patterns.n) pins (λ k d l i j column row on_column on_row.
      let pin = get_or pins k d in
      let f : ℕ → ℕ → ℕ = λ i j. number_at m ((x + i) % m.width) ((y + j) % height_of m) in
      let there : get_or (window m x y patterns.n) (j * patterns.n + i) 0 ≡ number_at m pin.column pin.row =
      square-at patterns.n f i j column row
      ∙ ap (λ s. number_at m ((x + i) % s) ((y + j) % height_of m)) sized.same_width
      ∙ ap (λ s. number_at m ((x + i) % output.width) ((y + j) % s)) sized.same_height
      ∙ ap (λ s. number_at m s ((y + j) % output.height)) on_column
      ∙ ap (number_at m pin.column) on_row in
      suits-from pin (get_or (window m x y patterns.n) (j * patterns.n + i) 0)
      (subst (λ s. MatchBool pin.keep (s ≡ pin.number) (s ≢ pin.number)) (sym there) (held k d l).number))

  based : IsPatterns patterns → IsSized m output.width output.height → AreLearned → All (IsHeld m) pins → (c : ℕ) → c < P.cells → in_base P c (get_or a c 0) ≡ true
  based taught sized learned held c inside =
      let place = cell_place patterns output pins c inside in
      let x = c % columns in
      let y = c / columns in
      let is = number-is learned x y place.column place.row in
      ap (λ k. in_base P k (get_or a k 0)) (sym place.cell)
      ∙ ap (in_base P (place_number columns x y)) (number-at x y place.column place.row)
      ∙ base-at patterns output pins taught x y (number x y) place.column place.row is.inside
      ∙ ap (λ w. window_meets_pins patterns.n output (x, y) w pins) is.same
      ∙ window_meets sized held x y

  windows_agree : IsSized m output.width output.height → (x y d : ℕ) → x < columns → y < rows
      → is_there columns output.wrap (right_by d) (left_by d) x ≡ true → is_there rows output.wrap (down_by d) (up_by d) y ≡ true
      → Agrees patterns.n (window m x y patterns.n) (window m (step_end columns (right_by d) (left_by d) x) (step_end rows (down_by d) (up_by d) y) patterns.n) d
  windows_agree sized x y d column row across_there down_there =
      let u = step_end columns (right_by d) (left_by d) x in
      let v = step_end rows (down_by d) (up_by d) y in
      neighbours_agree m patterns.n x y u v d sized.raster (record {
        across = subst (λ s. (x + right_by d) % s ≡ (u + left_by d) % s) (sym sized.same_width) (step_modulo output.width patterns.n output.wrap (right_by d) (left_by d) x column (one_across d) across_there);
        down = subst (λ s. (y + down_by d) % s ≡ (v + up_by d) % s) (sym sized.same_height) (step_modulo output.height patterns.n output.wrap (down_by d) (up_by d) y row (one_down d) down_there);
      })

  beside_at : IsSized m output.width output.height → AreLearned → (x y d c : ℕ) → x < columns → y < rows → neighbour P (place_number columns x y) d ≡ Some c → ok P d (get_or a (place_number columns x y) 0) (get_or a c 0) ≡ true
  beside_at sized learned x y d c column row at =
      let near = neighbour-place patterns output pins x y d c column row at in
      let u = step_end columns (right_by d) (left_by d) x in
      let v = step_end rows (down_by d) (up_by d) y in
      let u_in : u < columns = (stepped-is columns (right_by d) (left_by d) x column (one_across d)).below in
      let v_in : v < rows = (stepped-is rows (down_by d) (up_by d) y row (one_down d)).below in
      let here = number-is learned x y column row in
      let there = number-is learned u v u_in v_in in
      ap (λ k. ok P d k (get_or a c 0)) (number-at x y column row)
      ∙ ap (λ k. ok P d (number x y) (get_or a k 0)) near.cell
      ∙ ap (ok P d (number x y)) (number-at u v u_in v_in)
      ∙ Contains_has (supports_of P (number x y) d) (number u v)
      (agrees-support patterns output pins (number x y) (number u v) d near.dir (record {
        first = here.inside;
        second = there.inside;
        agree = ap (λ w. agrees patterns.n w (window_at patterns (number u v)) d) here.same ∙ ap (λ w. agrees patterns.n (window m x y patterns.n) w d) there.same
            ∙ tested patterns.n (window m x y patterns.n) (window m u v patterns.n) d (windows_agree sized x y d column row near.across_there near.down_there);
      }))

  pub numbers_are_legal : IsPatterns patterns → IsSized m output.width output.height → AreLearned → All (IsHeld m) pins → IsLegalAssignment P a
  numbers_are_legal taught sized learned held = record {
    each_cell = length-map all (λ (place : ℕ × ℕ). pattern_number patterns (window m place.0 place.1 patterns.n));
    based = based taught sized learned held;
    beside = λ c d n at.
        let place = cell_place patterns output pins c (neighbour-cell patterns output pins c d n at) in
        subst (λ k. ok P d (get_or a k 0) (get_or a n 0) ≡ true) place.cell
        (beside_at sized learned (c % columns) (c / columns) d n place.column place.row (ap (λ k. neighbour P k d) place.cell ∙ at));
  }

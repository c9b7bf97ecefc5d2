-- The tables of a sample's problem say what its places, its patterns and its pins say.
use Rattle.std.proofs.Common.{◌≡◌, ℕ, ◌+◌, ◌/◌, ◌%◌, ◌<◌, true, List, [], ◌∷◌, length, get_or, Some, sym, subst, ap, ◌∙◌, arith}
use Rattle.std.specs.Prelude.{Contains, All, MatchBool, ◌↔◌}
use Rattle.wfc_model.specs.Direction.{left_by, down_by, right_by, up_by}
use Rattle.wfc_model.specs.Legal.{Pin}
use Rattle.wfc_pattern.specs.Agreement.{Agrees}
use Rattle.wfc_pattern.specs.Patterns.{PatternsView, IsPatterns, window_at}
use Rattle.wfc_pattern.proofs.CallerLemmas.{everywhere, tested}
use Rattle.wfc_problem.specs.Network.{neighbour, supports_of, in_base}
use Rattle.wfc_overlap.specs.Bridge.{IsRoom}
use Rattle.wfc_places.specs.Steps.{place_number, step_end, IsStepFrom}
use Rattle.wfc_overlap.specs.Sample.{Output, window_meets_pins, problem_of_sample}
use Rattle.wfc_overlap.specs.Subject.{HoldsPin, IsPlaceOf, place_cell, place_columns, place_rows}
use Rattle.wfc_places.proofs.CallerLemmas.{apart-stepped, apart-there, held-from_suits, one_across, one_down, same_column, same_row, step-apart, step_across, step_down, step_from, stepped-is, suits-from}
use Rattle.wfc_overlap.proofs.PinLemmas.{meets-from, from-meets}
use Rattle.wfc_overlap.proofs.SampleLemmas.{neighbour-place, place-neighbour, cell_place, cell_inside, agrees-support, support-agrees, base-at}

module _ (patterns : PatternsView) (output : Output) (pins : List Pin) where
  abbrev columns : ℕ
  columns = place_columns patterns output

  abbrev rows : ℕ
  rows = place_rows patterns output

  -- a neighbour lies one step away
  pub neighbour-step : (x y u v d : ℕ) → IsPlaceOf patterns output x y → IsPlaceOf patterns output u v
      → neighbour (problem_of_sample patterns output pins) (place_number columns x y) d ≡ Some (place_number columns u v) → IsStepFrom output.wrap columns rows d x y u v
  neighbour-step x y u v d here other at =
      let near = neighbour-place patterns output pins x y d (place_number columns u v) here.column here.row at in
      let p = step_end columns (right_by d) (left_by d) x in
      let q = step_end rows (down_by d) (up_by d) y in
      let p_in : p < columns = (stepped-is columns (right_by d) (left_by d) x here.column (one_across d)).below in
      let column : p ≡ u = sym (same_column columns u v p q other.column p_in near.cell) in
      let row : q ≡ v = sym (same_row columns u v p q other.column p_in near.cell) in
      step_from output.wrap columns rows d x y u v
      (subst (λ k. MatchBool output.wrap ((x + right_by d) % columns ≡ (k + left_by d) % columns) (x + right_by d ≡ k + left_by d)) column
      (step-apart output.wrap columns (right_by d) (left_by d) x here.column (one_across d) near.across_there))
      (subst (λ k. MatchBool output.wrap ((y + down_by d) % rows ≡ (k + up_by d) % rows) (y + down_by d ≡ k + up_by d)) row
      (step-apart output.wrap rows (down_by d) (up_by d) y here.row (one_down d) near.down_there))

  -- and what lies one step away is the neighbour
  pub step-neighbour : IsPatterns patterns → IsRoom patterns output → (x y u v d : ℕ) → IsPlaceOf patterns output x y → IsPlaceOf patterns output u v → d < 4
      → IsStepFrom output.wrap columns rows d x y u v → neighbour (problem_of_sample patterns output pins) (place_number columns x y) d ≡ Some (place_number columns u v)
  step-neighbour taught room x y u v d here other dir step =
      let across = step_across output.wrap columns rows d x y u v step in
      let down = step_down output.wrap columns rows d x y u v step in
      place-neighbour patterns output pins taught room x y d here.column here.row dir
      (apart-there output.wrap columns (right_by d) (left_by d) x u here.column other.column (one_across d) across)
      (apart-there output.wrap rows (down_by d) (up_by d) y v here.row other.row (one_down d) down)
      ∙ ap (λ k. Some (place_number columns k (step_end rows (down_by d) (up_by d) y))) (apart-stepped output.wrap columns (right_by d) (left_by d) x u here.column other.column (one_across d) across)
      ∙ ap (λ k. Some (place_number columns u k)) (apart-stepped output.wrap rows (down_by d) (up_by d) y v here.row other.row (one_down d) down)

  -- each cell is that of a place, and each place has a cell
  pub cell-place : (c : ℕ) → c < (problem_of_sample patterns output pins).cells → (x : ℕ) × (y : ℕ) × IsPlaceOf patterns output x y × (place_cell patterns output x y ≡ c)
  cell-place c inside =
      let at = cell_place patterns output pins c inside in
      (c % columns, c / columns, record { column = at.column; row = at.row }, at.cell)

  pub place-cell : (x y : ℕ) → IsPlaceOf patterns output x y → place_cell patterns output x y < (problem_of_sample patterns output pins).cells
  place-cell x y here = cell_inside patterns output pins x y here.column here.row

  -- what supports a pattern agrees with it
  pub support-agreement : (p q d : ℕ) → p < length patterns.windows → d < 4
      → Contains (supports_of (problem_of_sample patterns output pins) p d) q ↔ ((q < length patterns.windows) × Agrees patterns.n (window_at patterns p) (window_at patterns q) d)
  support-agreement p q d first dir = (
    λ has. (let fit = support-agrees patterns output pins p q d dir has in (fit.second, everywhere patterns.n (window_at patterns p) (window_at patterns q) d fit.agree)),
    λ both. agrees-support patterns output pins p q d dir (record { first = first; second = both.0; agree = tested patterns.n (window_at patterns p) (window_at patterns q) d both.1 }),
  )

  -- a base value's window holds each pin
  pub base-holds : IsPatterns patterns → (x y p : ℕ) → IsPlaceOf patterns output x y → p < length patterns.windows
      → in_base (problem_of_sample patterns output pins) (place_number columns x y) p ≡ true → All (HoldsPin patterns.n output x y (window_at patterns p)) pins
  base-holds taught x y p here inside base k d l i j column row on_column on_row =
      held-from_suits (get_or pins k d) _
      (from-meets patterns.n output (x, y) (window_at patterns p) pins (sym (base-at patterns output pins taught x y p here.column here.row inside) ∙ base) k d l i j column row on_column on_row)

  pub holds-base : IsPatterns patterns → (x y p : ℕ) → IsPlaceOf patterns output x y → p < length patterns.windows
      → All (HoldsPin patterns.n output x y (window_at patterns p)) pins → in_base (problem_of_sample patterns output pins) (place_number columns x y) p ≡ true
  holds-base taught x y p here inside holds =
      base-at patterns output pins taught x y p here.column here.row inside
      ∙ meets-from patterns.n output (x, y) (window_at patterns p) pins (λ k d l i j column row on_column on_row.
      suits-from (get_or pins k d) _ (holds k d l i j column row on_column on_row))

-- a window that passes the test of one pin holds it
pub met-holds : (n : ℕ) (output : Output) (x y : ℕ) (w : List ℕ) (pin : Pin) → window_meets_pins n output (x, y) w (pin ∷ []) ≡ true → HoldsPin n output x y w pin
met-holds n output x y w pin met i j column row on_column on_row =
    held-from_suits pin _ (from-meets n output (x, y) w (pin ∷ []) met 0 pin (omega arith) i j column row on_column on_row)

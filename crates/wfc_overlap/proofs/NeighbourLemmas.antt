-- What lies beside a place, step by step.
use Rattle.std.proofs.Common.{◌≡◌, ℕ, ◌<◌, Bool, true, false, ◌&&◌, [], ◌∷◌, map, Option, None, Some, refl, sym, ap, ◌∙◌}
use Rattle.std.specs.Prelude.{if◌then◌else◌}
use Rattle.std.specs.List.{range_with_len}
use Rattle.wfc_model.specs.Direction.{left_by, down_by, right_by, up_by}
use Rattle.wfc_model.specs.Window.{starts}
use Rattle.wfc_problem.specs.declared.TheConstants.{NO_CELL}
use Rattle.wfc_places.specs.Steps.{along, step_end, is_there, place_number}
use Rattle.wfc_overlap.specs.Layout.{cell_in}
use Rattle.wfc_overlap.specs.Sample.{Output, window_beside}
use Rattle.wfc_places.proofs.CallerLemmas.{stay_there, stayed}

-- ---- one step along a side

-- a step that is there
along_there : (count : ℕ) (wrap : Bool) (forth back at s : ℕ) → is_there count wrap forth back at ≡ true → step_end count forth back at ≡ s → along count wrap forth back at ≡ Some s
along_there count wrap forth back at s there is = ap (λ b. if b then Some (step_end count forth back at) else None) there ∙ ap Some is

-- no step
pub along_stays : (count : ℕ) (wrap : Bool) (at : ℕ) → at < count → along count wrap 0 0 at ≡ Some at
along_stays count wrap at inside = along_there count wrap 0 0 at at (stay_there count wrap at inside) (stayed count at inside)

-- ---- the four cells beside a place

by_bools : (a b : Bool) (columns u v : ℕ) → (if a && b then place_number columns u v else NO_CELL) ≡ cell_in columns (if a then Some u else None) (if b then Some v else None)
by_bools true true columns u v = refl
by_bools true false columns u v = refl
by_bools false true columns u v = refl
by_bools false false columns u v = refl

module _ (n : ℕ) (output : Output) (columns rows x y : ℕ) (columns_are : columns ≡ starts output.width n output.wrap) (rows_are : rows ≡ starts output.height n output.wrap) where
  -- the cell beside a place, by a step along each side
  beside_is : (d : ℕ) (u v : Option ℕ) → along columns output.wrap (right_by d) (left_by d) x ≡ u → along rows output.wrap (down_by d) (up_by d) y ≡ v → cell_in columns u v ≡ window_beside n output (x, y) d
  beside_is d u v across down =
      ap (λ k. cell_in columns k v) (sym across)
      ∙ ap (cell_in columns (along columns output.wrap (right_by d) (left_by d) x)) (sym down)
      ∙ ap (λ c. cell_in c (along c output.wrap (right_by d) (left_by d) x) (along rows output.wrap (down_by d) (up_by d) y)) columns_are
      ∙ ap (λ r. cell_in (starts output.width n output.wrap) (along (starts output.width n output.wrap) output.wrap (right_by d) (left_by d) x) (along r output.wrap (down_by d) (up_by d) y)) rows_are
      ∙ sym (by_bools (is_there (starts output.width n output.wrap) output.wrap (right_by d) (left_by d) x) (is_there (starts output.height n output.wrap) output.wrap (down_by d) (up_by d) y) (starts output.width n output.wrap)
      (step_end (starts output.width n output.wrap) (right_by d) (left_by d) x) (step_end (starts output.height n output.wrap) (down_by d) (up_by d) y))

  -- all four of them
  pub four_beside : x < columns → y < rows → (left right up down : Option ℕ) → left ≡ along columns output.wrap 0 1 x → right ≡ along columns output.wrap 1 0 x → up ≡ along rows output.wrap 0 1 y → down ≡ along rows output.wrap 1 0 y
      → cell_in columns left (Some y) ∷ cell_in columns (Some x) down ∷ cell_in columns right (Some y) ∷ cell_in columns (Some x) up ∷ [] ≡ map (λ d. window_beside n output (x, y) d) (range_with_len 0 4)
  four_beside column row left right up down left_is right_is up_is down_is =
      let stay_x = along_stays columns output.wrap x column in
      let stay_y = along_stays rows output.wrap y row in
      ap (λ a. a ∷ cell_in columns (Some x) down ∷ cell_in columns right (Some y) ∷ cell_in columns (Some x) up ∷ []) (beside_is 0 left (Some y) (sym left_is) stay_y)
      ∙ ap (λ b. window_beside n output (x, y) 0 ∷ b ∷ cell_in columns right (Some y) ∷ cell_in columns (Some x) up ∷ []) (beside_is 1 (Some x) down stay_x (sym down_is))
      ∙ ap (λ c. window_beside n output (x, y) 0 ∷ window_beside n output (x, y) 1 ∷ c ∷ cell_in columns (Some x) up ∷ []) (beside_is 2 right (Some y) (sym right_is) stay_y)
      ∙ ap (λ d. window_beside n output (x, y) 0 ∷ window_beside n output (x, y) 1 ∷ window_beside n output (x, y) 2 ∷ d ∷ []) (beside_is 3 (Some x) up stay_x (sym up_is))

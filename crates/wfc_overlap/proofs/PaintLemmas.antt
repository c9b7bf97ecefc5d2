-- The number of a pixel, as the code finds it.
use Rattle.std.proofs.Common.{◌≡◌, ℕ, ◌+◌, ◌-◌, ◌*◌, ◌<◌, ◌≤◌, min, Bool, List, [], ◌∷◌, ◌++◌, length, get_or, map, refl, sym, subst, ap, ◌∙◌, arith, inl, inr}
use Rattle.std.specs.Prelude.{All, slice_index}
use Rattle.std.specs.List.{concat, flat_map, range_with_len}
use Rattle.std.proofs.lemmas.Bool.{cases_lt}
use Rattle.std.proofs.lemmas.List.{get_or_past}
use Rattle.std.proofs.lemmas.List.Elements.{All-from_recursion}
use Rattle.std.proofs.lemmas.List.FromFn.{length-map-range_with_len, length-range_with_len}
use Rattle.std.proofs.lemmas.Nat.{mul-add-lt}
use Rattle.wfc_lists.proofs.Ranges.{each_in_row}
use Rattle.wfc_lists.proofs.Tables.{length-table}
use Rattle.wfc_model.specs.Raster.{Raster, IsSized, raster_of}
use Rattle.wfc_model.specs.Window.{starts, places}
use Rattle.wfc_model.proofs.CallerLemmas.{length-places, raster_of-numbers_of}
use Rattle.wfc_pattern.specs.Patterns.{PatternsView, window_at}
use Rattle.wfc_overlap.specs.Bridge.{nearest, pixel_of}
use Rattle.wfc_overlap.specs.Sample.{Output}
use Rattle.wfc_overlap.proofs.BackLemmas.{near}

-- the nearest place of a pixel along a side
pub record IsNearest (side n : ℕ) (wrap : Bool) (count at m : ℕ) : Type 0 where
  pub inside : m < count
  pub before : m ≤ at
  pub within : at - m < n
  pub same : m ≡ nearest side n wrap at

pub nearest_is : (side n : ℕ) (wrap : Bool) (count at m : ℕ) → count ≡ starts side n wrap → at < side → 0 < n → n ≤ side → m ≡ min at (count - 1) → IsNearest side n wrap count at m
nearest_is side n wrap count at m count_is at_in some fits is =
    let same : m ≡ nearest side n wrap at = is ∙ ap (λ k. min at (k - 1)) count_is in
    let place = near side n wrap at at_in some fits in
    let inside = place.inside in
    let before = place.before in
    let within = place.within in
    record { inside = omega arith; before = omega arith; within = omega arith; same = same }

-- the cell of a place is one of an assignment
pub cell_inside_of : (width height n : ℕ) (wrap : Bool) (columns rows u v many : ℕ) → columns ≡ starts width n wrap → rows ≡ starts height n wrap → many ≡ length (places width height n wrap) → u < columns → v < rows → v * columns + u < many
cell_inside_of width height n wrap columns rows u v many columns_are rows_are many_is u_in v_in =
    let area : many ≡ rows * columns = many_is ∙ length-places width height n wrap ∙ ap (λ r. r * starts width n wrap) (sym rows_are) ∙ ap (λ k. rows * k) (sym columns_are) in
    omega (arith, area, mul-add-lt v columns u rows v_in u_in)

-- what the pattern of the nearest place has there is the pixel
pub pixel_is : (patterns : PatternsView) (output : Output) (a : List ℕ) (n columns x y u v : ℕ) (w : List ℕ) → n ≡ patterns.n → columns ≡ starts output.width n output.wrap → u ≡ nearest output.width n output.wrap x → v ≡ nearest output.height n output.wrap y
    → window_at patterns (get_or a (v * columns + u) 0) ≡ w → get_or w ((y - v) * n + (x - u)) 0 ≡ pixel_of patterns output a x y
pixel_is patterns output a n columns x y u v w n_is columns_are u_is v_is w_is =
    let G : ℕ → ℕ → ℕ → ℕ → ℕ = λ n columns u v. get_or (window_at patterns (get_or a (v * columns + u) 0)) ((y - v) * n + (x - u)) 0 in
    ap (λ (ns : List ℕ). get_or ns ((y - v) * n + (x - u)) 0) (sym w_is)
    ∙ ap (λ k. G n k u v) columns_are
    ∙ ap (λ k. G n (starts output.width n output.wrap) k v) u_is
    ∙ ap (λ k. G n (starts output.width n output.wrap) (nearest output.width n output.wrap x) k) v_is
    ∙ ap (λ k. G k (starts output.width k output.wrap) (nearest output.width k output.wrap x) (nearest output.height k output.wrap y)) n_is

-- ---- the whole picture

-- rows, one after another
flat_is : (R : ℕ → List ℕ) (ys : List ℕ) → flat_map R ys ≡ concat (map R ys)
flat_is R [] = refl
flat_is R (y ∷ ys) = ap (λ rest. R y ++ rest) (flat_is R ys)

module _ (w h : ℕ) (R : ℕ → List ℕ) (each : (y : ℕ) → length (R y) ≡ w) where
  abbrev painted : Raster
  painted = record { width = w; rows = map R (range_with_len 0 h) }

  painted_sized : 0 < w → 0 < h → IsSized painted w h
  painted_sized wide high = record {
    raster = record {
      some_column = wide;
      some_row = omega (arith, length-map-range_with_len R 0 h);
      rows_fit = All-from_recursion (λ (row : List ℕ). length row ≡ w) painted.rows (each_in_row (λ (row : List ℕ). length row ≡ w) R 0 h (λ y _ _. each y));
    };
    same_width = refl;
    same_height = length-map-range_with_len R 0 h;
  }

  -- as many numbers as the picture has pixels
  pub as_many : (numbers : List ℕ) → numbers ≡ flat_map R (range_with_len 0 h) → length numbers ≡ w * h
  as_many numbers is =
      let rows : length numbers ≡ h * w = ap length is ∙ length-table R w each (range_with_len 0 h) ∙ ap (λ k. k * w) (length-range_with_len 0 h) in
      omega arith

  -- the numbers, row by row, are the picture
  pub painted_is : (numbers : List ℕ) → 0 < w → 0 < h → numbers ≡ flat_map R (range_with_len 0 h) → raster_of w h numbers ≡ painted
  painted_is numbers wide high is = ap (raster_of w h) (is ∙ flat_is R (range_with_len 0 h)) ∙ raster_of-numbers_of painted w h (painted_sized wide high)

-- ---- numbers below a limit

-- an entry of a list of small numbers is small, and so is 0 where there is none
small_entry : (limit : ℕ) (w : List ℕ) (i : ℕ) → 0 < limit → All (λ n. n < limit) w → slice_index w i < limit
small_entry limit w i some small = elim (cases_lt i (length w)) [
  | inl inside ↦ small i 0 inside
  | inr past ↦ subst (λ n. n < limit) (sym (get_or_past w i 0 past)) some
]

-- so is a window of patterns with small numbers
small_window : (limit : ℕ) (patterns : PatternsView) (p : ℕ) → All (λ window. All (λ n. n < limit) window) patterns.windows → All (λ n. n < limit) (window_at patterns p)
small_window limit patterns p small = elim (cases_lt p (length patterns.windows)) [
  | inl inside ↦ small p [] inside
  | inr past ↦ subst (λ (w : List ℕ). All (λ n. n < limit) w) (sym (get_or_past patterns.windows p [] past)) (λ k d inside. absurd (omega arith))
]

-- and the number of a pixel that they paint
pub pixel_small : (limit : ℕ) (patterns : PatternsView) (output : Output) (a : List ℕ) (x y : ℕ) → 0 < limit → All (λ window. All (λ n. n < limit) window) patterns.windows → pixel_of patterns output a x y < limit
pixel_small limit patterns output a x y some small = small_entry limit (window_at patterns _) _ some (small_window limit patterns _ small)

-- Maps that are written row by row.
use Rattle.std.proofs.Common.{◌≡◌, ℕ, ◌+◌, ◌*◌, ◌<◌, List, [], ◌∷◌, ◌++◌, length, take, map, get_or, refl, ap, sym, ◌∙◌, subst, append_assoc, arith}
use Rattle.std.proofs.lemmas.List.{take_more, map-append}
use Rattle.std.proofs.lemmas.List.Elements.{All-get_or}
use Rattle.std.proofs.lemmas.Nat.{mul-add-lt}
use Rattle.std.specs.List.{All}
use Rattle.wfc_grid.specs.Spelling.{grid_text}
use Rattle.wfc_model.specs.Raster.{Raster, IsRaster, IsSized, height_of, number_at, numbers_of}
use Rattle.wfc_model.proofs.CallerLemmas.{length-numbers_of, number_at-numbers_of}

grid_text-push : (rows : List (List ℕ)) (row : List ℕ) → grid_text (rows ++ row ∷ []) ≡ grid_text rows ++ (row ++ 10 ∷ [])
grid_text-push [] row = refl
grid_text-push (r ∷ rows) row = ap (λ t. r ++ 10 ∷ t) (grid_text-push rows row) ∙ sym (append_assoc r (10 ∷ grid_text rows) (row ++ 10 ∷ []))

-- one row more
pub grid_text-next : (f : List ℕ → List ℕ) (rows : List (List ℕ)) (y : ℕ) → y < length rows → grid_text (map f (take (y + 1) rows)) ≡ grid_text (map f (take y rows)) ++ (f (get_or rows y []) ++ 10 ∷ [])
grid_text-next f rows y inside =
    ap (λ r. grid_text (map f r)) (take_more rows y [] inside)
    ∙ ap grid_text (map-append f (take y rows) (get_or rows y [] ∷ []))
    ∙ grid_text-push (map f (take y rows)) (f (get_or rows y []))

-- behind the rows before one, that one is written
pub rows_next : (f : List ℕ → List ℕ) (rows : List (List ℕ)) (y : ℕ) (text new : List ℕ) → y < length rows → text ≡ grid_text (map f (take y rows)) → new ≡ text ++ (f (get_or rows y []) ++ 10 ∷ []) → new ≡ grid_text (map f (take (y + 1) rows))
rows_next f rows y text new inside before row = row ∙ ap (λ t. t ++ (f (get_or rows y []) ++ 10 ∷ [])) before ∙ sym (grid_text-next f rows y inside)

-- one number more
pub map-next : (f : ℕ → ℕ) (row : List ℕ) (x : ℕ) → x < length row → map f (take (x + 1) row) ≡ map f (take x row) ++ f (get_or row x 0) ∷ []
map-next f row x inside = ap (map f) (take_more row x 0 inside) ∙ map-append f (take x row) (get_or row x 0 ∷ [])

-- how long a row is
pub row_length : (m : Raster) (y : ℕ) → IsRaster m → y < height_of m → length (get_or m.rows y []) ≡ m.width
row_length m y raster inside = All-get_or (λ (row : List ℕ). length row ≡ m.width) m.rows y [] inside raster.rows_fit

-- what holds of all numbers holds of one
pub number_in : (P : ℕ → Type 0) (m : Raster) (x y : ℕ) → IsRaster m → All P (numbers_of m) → x < m.width → y < height_of m → P (number_at m x y)
number_in P m x y raster all column row =
    let sized : IsSized m m.width (height_of m) = record { raster = raster; same_width = refl; same_height = refl } in
    let inside : y * m.width + x < length (numbers_of m) = omega (arith, length-numbers_of m m.width (height_of m) sized, mul-add-lt y m.width x (height_of m) row column) in
    subst P (sym (number_at-numbers_of m m.width (height_of m) sized x y column row)) (All-get_or P (numbers_of m) (y * m.width + x) 0 inside all)

-- Pictures made of a list of numbers.
use Rattle.std.proofs.Common.{◌≡◌, ℕ, zero, suc, ◌+◌, ◌*◌, ◌<◌, ◌≤◌, List, [], ◌∷◌, ◌++◌, length, get_or, map, take, drop, arith, sym, ◌∙◌, zero-add, ap, refl, subst}
use Rattle.std.specs.List.{range_with_len, AllByRecursion, concat}
use Rattle.std.proofs.lemmas.List.{length-take, length-drop, length-append, get_or-take, get_or-drop, drop-drop, take_all, take_at, ext_get_or}
use Rattle.std.proofs.Math.Seq.{take-add, drop-append-add}
use Rattle.std.proofs.lemmas.List.FromFn.{length-map-range_with_len, get_or-map-range_with_len}
use Rattle.std.proofs.lemmas.List.Elements.{All-from_recursion, recursion_from_All}
use Rattle.std.proofs.Math.Nat.{mul-le-mul_right}
use Rattle.wfc_model.specs.Raster.{Raster, height_of, number_at, numbers_of, raster_of, IsFilled, IsSized}
use Rattle.wfc_lists.proofs.Ranges.{each_in_row}

pub height-raster_of : (w h : ℕ) (numbers : List ℕ) → height_of (raster_of w h numbers) ≡ h
height-raster_of w h numbers = length-map-range_with_len (λ y. take w (drop (y * w) numbers)) 0 h

-- row y of a picture made of numbers
pub row-raster_of : (w h : ℕ) (numbers : List ℕ) (y : ℕ) → y < h → get_or (raster_of w h numbers).rows y [] ≡ take w (drop (y * w) numbers)
row-raster_of w h numbers y inside = get_or-map-range_with_len (λ j. take w (drop (j * w) numbers)) 0 h y y [] inside (zero-add y)

-- the number in column x of row y stands at y * w + x
pub number_at-raster_of : (w h : ℕ) (numbers : List ℕ) (x y : ℕ) → x < w → y < h → number_at (raster_of w h numbers) x y ≡ get_or numbers (y * w + x) 0
number_at-raster_of w h numbers x y column row =
    ap (λ (r : List ℕ). get_or r x 0) (row-raster_of w h numbers y row)
    ∙ get_or-take w (drop (y * w) numbers) x 0 column
    ∙ get_or-drop (y * w) numbers x 0

-- as many numbers as the sides say make a picture of these sides
pub IsSized-raster_of : (w h : ℕ) (numbers : List ℕ) → IsFilled w h numbers → IsSized (raster_of w h numbers) w h
IsSized-raster_of w h numbers filled = record {
  raster = record {
    some_column = filled.some_column;
    some_row = rw height-raster_of filled.some_row;
    rows_fit = All-from_recursion (λ (row : List ℕ). length row ≡ w) (raster_of w h numbers).rows
        (each_in_row (λ (row : List ℕ). length row ≡ w) (λ y. take w (drop (y * w) numbers)) 0 h (λ y _ below. row_long w h numbers y filled.as_many (omega arith)));
  };
  same_width = refl;
  same_height = height-raster_of w h numbers;
}
  where
    row_long : (w h : ℕ) (numbers : List ℕ) (y : ℕ) → length numbers ≡ w * h → y < h → length (take w (drop (y * w) numbers)) ≡ w
    row_long w h numbers y many inside =
        let room : suc y * w ≤ h * w = mul-le-mul_right w (omega arith) in
        omega (arith, room, length-take w (drop (y * w) numbers), length-drop (y * w) numbers)

-- so does what is made column by column in rows
pub made_sized : (f : ℕ → ℕ → ℕ) (w h : ℕ) → 0 < w → 0 < h → IsSized (record { width = w; rows = map (λ y. map (λ x. f x y) (range_with_len 0 w)) (range_with_len 0 h) }) w h
made_sized f w h some_column some_row =
    let high : length (map (λ y. map (λ x. f x y) (range_with_len 0 w)) (range_with_len 0 h)) ≡ h = length-map-range_with_len (λ y. map (λ x. f x y) (range_with_len 0 w)) 0 h in
    record {
      raster = record {
        some_column = some_column;
        some_row = omega (arith, high, some_row);
        rows_fit = All-from_recursion (λ (row : List ℕ). length row ≡ w) (map (λ y. map (λ x. f x y) (range_with_len 0 w)) (range_with_len 0 h))
            (each_in_row (λ (row : List ℕ). length row ≡ w) (λ y. map (λ x. f x y) (range_with_len 0 w)) 0 h
            (λ y _ _. length-map-range_with_len (λ x. f x y) 0 w));
      };
      same_width = refl;
      same_height = high;
    }

-- the rows from row a on are the numbers from a * w on
rows_joined : (w a n : ℕ) (numbers : List ℕ) → concat (map (λ y. take w (drop (y * w) numbers)) (range_with_len a n)) ≡ take (n * w) (drop (a * w) numbers)
rows_joined w a zero numbers = let none : 0 * w ≡ 0 = omega arith in ap (λ k. take k (drop (a * w) numbers)) (sym none)
rows_joined w a (suc n) numbers =
    let next : (a + 1) * w ≡ a * w + w = omega arith in
    let long : suc n * w ≡ w + n * w = omega arith in
    ap (λ more. take w (drop (a * w) numbers) ++ more)
    (rows_joined w (a + 1) n numbers ∙ ap (λ k. take (n * w) (drop k numbers)) next ∙ ap (take (n * w)) (sym (drop-drop w (a * w) numbers)))
    ∙ sym (take-add w (n * w) (drop (a * w) numbers))
    ∙ ap (λ k. take k (drop (a * w) numbers)) (sym long)

-- the numbers of a picture made of numbers are these
pub numbers_of-raster_of : (w h : ℕ) (numbers : List ℕ) → length numbers ≡ w * h → numbers_of (raster_of w h numbers) ≡ numbers
numbers_of-raster_of w h numbers many =
    let none : 0 * w ≡ 0 = omega arith in
    rows_joined w 0 h numbers ∙ ap (λ k. take (h * w) (drop k numbers)) none ∙ take_all (h * w) numbers (omega (arith, many))

-- row y of rows of one length, joined, stands at y * w
joined_row : (w : ℕ) (rows : List (List ℕ)) → AllByRecursion (λ (row : List ℕ). length row ≡ w) rows → (y : ℕ) → y < length rows → take w (drop (y * w) (concat rows)) ≡ get_or rows y []
joined_row w [] fit y inside = absurd (omega arith)
joined_row w (row ∷ rows) fit zero inside =
    let none : 0 * w ≡ 0 = omega arith in
    ap (λ k. take w (drop k (row ++ concat rows))) none ∙ take_at row (concat rows) w fit.0
joined_row w (row ∷ rows) fit (suc y) inside =
    let next : suc y * w ≡ length row + y * w = omega (arith, fit.0) in
    ap (λ k. take w (drop k (row ++ concat rows))) next
    ∙ ap (take w) (drop-append-add row (concat rows) (y * w))
    ∙ joined_row w rows fit.1 y (omega arith)

pub length-joined : (w : ℕ) (rows : List (List ℕ)) → AllByRecursion (λ (row : List ℕ). length row ≡ w) rows → length (concat rows) ≡ w * length rows
length-joined w [] fit = omega arith
length-joined w (row ∷ rows) fit = omega (arith, fit.0, length-joined w rows fit.1, length-append row (concat rows))

pub length-numbers_of : (m : Raster) (w h : ℕ) → IsSized m w h → length (numbers_of m) ≡ w * h
length-numbers_of m w h sized =
    length-joined m.width m.rows (recursion_from_All (λ (row : List ℕ). length row ≡ m.width) m.rows sized.raster.rows_fit)
    ∙ ap (λ k. k * length m.rows) sized.same_width ∙ ap (λ k. w * k) sized.same_height

-- its numbers are as many as its sides say
pub IsFilled-numbers_of : (m : Raster) (w h : ℕ) → IsSized m w h → IsFilled w h (numbers_of m)
IsFilled-numbers_of m w h sized = record {
  some_column = subst (λ k. 0 < k) sized.same_width sized.raster.some_column;
  some_row = subst (λ k. 0 < k) sized.same_height sized.raster.some_row;
  as_many = length-numbers_of m w h sized;
}

-- a picture is made of its own numbers
pub raster_of-numbers_of : (m : Raster) (w h : ℕ) → IsSized m w h → raster_of w h (numbers_of m) ≡ m
raster_of-numbers_of m w h sized =
    let fit : AllByRecursion (λ (row : List ℕ). length row ≡ m.width) m.rows = recursion_from_All (λ (row : List ℕ). length row ≡ m.width) m.rows sized.raster.rows_fit in
    let rows : (raster_of w h (numbers_of m)).rows ≡ m.rows =
    ext_get_or [] (raster_of w h (numbers_of m)).rows m.rows (height-raster_of w h (numbers_of m) ∙ sym sized.same_height) (λ y inside.
    let below : y < h = omega (arith, height-raster_of w h (numbers_of m)) in
    row-raster_of w h (numbers_of m) y below
    ∙ ap (λ k. take k (drop (y * k) (numbers_of m))) (sym sized.same_width)
    ∙ joined_row m.width m.rows fit y (omega (arith, sized.same_height))) in
    made w (raster_of w h (numbers_of m)).rows m (sym sized.same_width) rows
  where
    made : (w : ℕ) (rows : List (List ℕ)) (m : Raster) → w ≡ m.width → rows ≡ m.rows → (let r : Raster = record { width = w; rows = rows } in r) ≡ m
    made w rows m wide same = λ i. record { width = wide i; rows = same i }

-- the number in column x of row y stands at y * w + x of its numbers
pub number_at-numbers_of : (m : Raster) (w h : ℕ) → IsSized m w h → (x y : ℕ) → x < w → y < h → number_at m x y ≡ get_or (numbers_of m) (y * w + x) 0
number_at-numbers_of m w h sized x y column row =
    ap (λ (r : Raster). number_at r x y) (sym (raster_of-numbers_of m w h sized)) ∙ number_at-raster_of w h (numbers_of m) x y column row

-- Images and windows that are noted one after another.
use Rattle.std.proofs.Common.{◌≡◌, ℕ, zero, suc, ◌+◌, ◌*◌, ◌/◌, ◌%◌, ◌==◌, ◌≤◌, Bool, true, false, List, [], ◌∷◌, ◌++◌, length, map, fold, refl, sym, ap, ◌∙◌, arith, if◌then◌else◌, length-append}
use Rattle.std.specs.List.{flat_map, range_with_len}
use Rattle.std.proofs.lemmas.Bool.{eqb-true, eqb-false}
use Rattle.std.proofs.lemmas.List.{flat_map_more, map-id}
use Rattle.std.proofs.lemmas.List.Concat.{flat_map-append}
use Rattle.std.proofs.lemmas.List.FromFn.{map-range_with_len_more, length-map-range_with_len, length-range_with_len}
use Rattle.std.proofs.lemmas.List.Sums.{fold_push, fold-append}
use Rattle.wfc_model.specs.Raster.{Raster}
use Rattle.wfc_model.specs.Window.{window}
use Rattle.wfc_model.specs.Image.{image, after_turns, reflected, rotated}
use Rattle.wfc_pattern.specs.Arising.{images_at, images_in_row}
use Rattle.wfc_pattern.specs.Tally.{recount, total}
use Rattle.wfc_pattern.proofs.TallyLemmas.{total-fold, fold_grows}

-- how often a window was turned before image k + 1
pub turned_more : (n : ℕ) (w : List ℕ) (k : ℕ) (v now : List ℕ) → v ≡ after_turns n w (k / 2) → now ≡ (if k % 2 == 0 then v else rotated n v) → now ≡ after_turns n w ((k + 1) / 2)
turned_more n w k v now so_far step = by (k % 2 == 0) refl
  where
    by : (b : Bool) → (k % 2 == 0) ≡ b → now ≡ after_turns n w ((k + 1) / 2)
    by true even =
        let half : k / 2 ≡ (k + 1) / 2 = omega (arith, eqb-true (k % 2) 0 even) in
        step ∙ ap (λ b. if b then v else rotated n v) even ∙ so_far ∙ ap (after_turns n w) half
    by false odd =
        let half : suc (k / 2) ≡ (k + 1) / 2 = omega (arith, eqb-false (k % 2) 0 odd) in
        step ∙ ap (λ b. if b then v else rotated n v) odd ∙ ap (rotated n) so_far ∙ ap (after_turns n w) half

-- one more image is noted
pub images_more : (n : ℕ) (w : List ℕ) (k : ℕ) (v : List ℕ) (start es now : List (List ℕ × ℕ)) → v ≡ after_turns n w (k / 2) → es ≡ fold recount start (map (image n w) (range_with_len 0 k))
    → now ≡ recount es (if k % 2 == 0 then v else reflected n v) → now ≡ fold recount start (map (image n w) (range_with_len 0 (k + 1)))
images_more n w k v start es now so_far before step =
    step
    ∙ ap (λ u. recount es (if k % 2 == 0 then u else reflected n u)) so_far
    ∙ ap (λ t. recount t (image n w k)) before
    ∙ sym (fold_push recount start (map (image n w) (range_with_len 0 k)) (image n w k))
    ∙ ap (fold recount start) (sym (map-range_with_len_more (image n w) 0 k k (omega arith)))

-- how many were noted
pub total-images : (f : ℕ → List ℕ) (k : ℕ) (start es : List (List ℕ × ℕ)) → es ≡ fold recount start (map f (range_with_len 0 k)) → total es ≡ total start + k
total-images f k start es before = ap total before ∙ total-fold start (map f (range_with_len 0 k)) ∙ ap (λ m. total start + m) (length-map-range_with_len f 0 k)

-- the images of a place are as many as are taken
length-images_at : (sample : Raster) (n s : ℕ) (place : ℕ × ℕ) → length (images_at sample n s place) ≡ s
length-images_at sample n s place = length-map-range_with_len (image n (window sample place.0 place.1 n)) 0 s

length-flat_map : {X : Type 0} (f : X → List (List ℕ)) (s : ℕ) → ((x : X) → length (f x) ≡ s) → (xs : List X) → length (flat_map f xs) ≡ length xs * s
length-flat_map f s each [] = omega arith
length-flat_map f s each (x ∷ xs) = omega (arith, length-append (f x) (flat_map f xs), each x, length-flat_map f s each xs)

pub length-images_in_row : (sample : Raster) (n s columns y : ℕ) → length (images_in_row sample n s columns y) ≡ columns * s
length-images_in_row sample n s columns y =
    length-flat_map (images_at sample n s) s (length-images_at sample n s) (map (λ x. (x, y)) (range_with_len 0 columns))
    ∙ ap (λ m. m * s) (length-map-range_with_len (λ x. (x, y)) 0 columns)

pub length-rows : (sample : Raster) (n s columns rows : ℕ) → length (flat_map (images_in_row sample n s columns) (range_with_len 0 rows)) ≡ rows * (columns * s)
length-rows sample n s columns rows =
    length-flat_map (images_in_row sample n s columns) (columns * s) (length-images_in_row sample n s columns) (range_with_len 0 rows)
    ∙ ap (λ m. m * (columns * s)) (length-range_with_len 0 rows)

-- one more place of a row, and one more row
pub row_more : (sample : Raster) (n s x y : ℕ) → images_in_row sample n s (x + 1) y ≡ images_in_row sample n s x y ++ images_at sample n s (x, y)
row_more sample n s x y =
    ap (flat_map (images_at sample n s)) (map-range_with_len_more (λ i. (i, y)) 0 x x (omega arith))
    ∙ sym (flat_map_more (images_at sample n s) [] (map (λ i. (i, y)) (range_with_len 0 x)) (x, y))

pub rows_more : (sample : Raster) (n s columns y : ℕ) → flat_map (images_in_row sample n s columns) (range_with_len 0 (y + 1)) ≡ flat_map (images_in_row sample n s columns) (range_with_len 0 y) ++ images_in_row sample n s columns y
rows_more sample n s columns y =
    ap (flat_map (images_in_row sample n s columns)) (sym (map-id (range_with_len 0 (y + 1))) ∙ map-range_with_len_more (λ j. j) 0 y y (omega arith) ∙ ap (λ js. js ++ y ∷ []) (map-id (range_with_len 0 y)))
    ∙ sym (flat_map_more (images_in_row sample n s columns) [] (range_with_len 0 y) y)

-- a front of a row, and of the rows, has no more different images
pub row_grows : (sample : Raster) (n s y : ℕ) (start : List (List ℕ × ℕ)) (x columns : ℕ) → x ≤ columns → length (fold recount start (images_in_row sample n s x y)) ≤ length (fold recount start (images_in_row sample n s columns y))
row_grows sample n s y start x columns upto = fold_grows (λ i. images_in_row sample n s i y) (λ i. images_at sample n s (i, y)) (λ i. row_more sample n s i y) start x columns upto

pub rows_grow : (sample : Raster) (n s columns y rows : ℕ) → y ≤ rows → length (fold recount [] (flat_map (images_in_row sample n s columns) (range_with_len 0 y))) ≤ length (fold recount [] (flat_map (images_in_row sample n s columns) (range_with_len 0 rows)))
rows_grow sample n s columns y rows upto =
    fold_grows (λ j. flat_map (images_in_row sample n s columns) (range_with_len 0 j)) (images_in_row sample n s columns) (rows_more sample n s columns) [] y rows upto

pub place_noted : (sample : Raster) (n s x y : ℕ) (start es now : List (List ℕ × ℕ)) → es ≡ fold recount start (images_in_row sample n s x y) → now ≡ fold recount es (images_at sample n s (x, y)) → now ≡ fold recount start (images_in_row sample n s (x + 1) y)
place_noted sample n s x y start es now before step =
    step
    ∙ ap (λ t. fold recount t (images_at sample n s (x, y))) before
    ∙ sym (fold-append recount start (images_in_row sample n s x y) (images_at sample n s (x, y)))
    ∙ ap (fold recount start) (sym (row_more sample n s x y))

-- the same by the learner's own numbers
pub one_place : (sample : Raster) (n s m t x y : ℕ) (start es now : List (List ℕ × ℕ)) → m ≡ n → t ≡ s → es ≡ fold recount start (images_in_row sample n s x y) → now ≡ fold recount es (images_at sample m t (x, y)) → now ≡ fold recount start (images_in_row sample n s (x + 1) y)
one_place sample n s m t x y start es now side images before step =
    place_noted sample n s x y start es now before (step ∙ ap (λ k. fold recount es (images_at sample k t (x, y))) side ∙ ap (λ k. fold recount es (images_at sample n k (x, y))) images)

pub row_noted : (sample : Raster) (n s columns y : ℕ) (start es now : List (List ℕ × ℕ)) → es ≡ fold recount start (flat_map (images_in_row sample n s columns) (range_with_len 0 y)) → now ≡ fold recount es (images_in_row sample n s columns y)
    → now ≡ fold recount start (flat_map (images_in_row sample n s columns) (range_with_len 0 (y + 1)))
row_noted sample n s columns y start es now before step =
    step
    ∙ ap (λ t. fold recount t (images_in_row sample n s columns y)) before
    ∙ sym (fold-append recount start (flat_map (images_in_row sample n s columns) (range_with_len 0 y)) (images_in_row sample n s columns y))
    ∙ ap (fold recount start) (sym (rows_more sample n s columns y))

pub one_row : (sample : Raster) (n s m t columns y : ℕ) (start es now : List (List ℕ × ℕ)) → m ≡ n → t ≡ s → es ≡ fold recount start (flat_map (images_in_row sample n s columns) (range_with_len 0 y)) → now ≡ fold recount es (images_in_row sample m t columns y)
    → now ≡ fold recount start (flat_map (images_in_row sample n s columns) (range_with_len 0 (y + 1)))
one_row sample n s m t columns y start es now side images before step =
    row_noted sample n s columns y start es now before (step ∙ ap (λ k. fold recount es (images_in_row sample k t columns y)) side ∙ ap (λ k. fold recount es (images_in_row sample n k columns y)) images)

pub total-row : (sample : Raster) (n s x y : ℕ) (start es : List (List ℕ × ℕ)) → es ≡ fold recount start (images_in_row sample n s x y) → total es ≡ total start + x * s
total-row sample n s x y start es before =
    ap total before ∙ total-fold start (images_in_row sample n s x y) ∙ ap (λ m. total start + m) (length-images_in_row sample n s x y)

pub total-rows : (sample : Raster) (n s columns y : ℕ) (es : List (List ℕ × ℕ)) → es ≡ fold recount [] (flat_map (images_in_row sample n s columns) (range_with_len 0 y)) → total es ≡ y * (columns * s)
total-rows sample n s columns y es before =
    let all = flat_map (images_in_row sample n s columns) (range_with_len 0 y) in
    let none : total [] ≡ zero = refl in
    ap total before ∙ omega (arith, none, total-fold [] all, length-rows sample n s columns y)

-- row by row is place by place
flat_map-flat_map : {X Y Z : Type 0} (f : Y → List Z) (g : X → List Y) (xs : List X) → flat_map (λ x. flat_map f (g x)) xs ≡ flat_map f (flat_map g xs)
flat_map-flat_map f g [] = refl
flat_map-flat_map f g (x ∷ xs) = ap (λ zs. flat_map f (g x) ++ zs) (flat_map-flat_map f g xs) ∙ sym (flat_map-append f (g x) (flat_map g xs))

pub all_rows : (sample : Raster) (n s columns rows : ℕ) → flat_map (images_in_row sample n s columns) (range_with_len 0 rows) ≡ flat_map (images_at sample n s) (flat_map (λ y. map (λ x. (x, y)) (range_with_len 0 columns)) (range_with_len 0 rows))
all_rows sample n s columns rows = flat_map-flat_map (images_at sample n s) (λ y. map (λ x. (x, y)) (range_with_len 0 columns)) (range_with_len 0 rows)

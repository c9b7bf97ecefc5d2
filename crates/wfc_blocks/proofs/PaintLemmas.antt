-- How the pixels of a canvas are set, one by one, and its picture.
use Rattle.std.proofs.Common.{◌≡◌, ℕ, ◌+◌, ◌-◌, ◌*◌, ◌/◌, ◌%◌, ◌<◌, ◌≤◌, Bool, true, false, ◌&&◌, nat_lt, ◌⊎◌, inl, inr, Option, None, Some, List, [], ◌∷◌, ◌++◌, length, get_or, set, map, take, refl, sym, ap, ◌∙◌, arith, if◌then◌else◌, get_or-set_other, get_or-set_same}
use Rattle.std.specs.Prelude.{◌==◌, unwrap_or}
use Rattle.std.proofs.lemmas.Bool.{false≢true, and_parts, and_from, eqb-false, eqb-true, ltb-true, lt-ltb, ne_eqb}
use Rattle.std.proofs.lemmas.List.{ext_get_or, get_or-map, length-map, map-set, map_more, take_all}
use Rattle.std.proofs.Math.ListN as listed
use Rattle.std.proofs.lemmas.Nat.{div-mul-add, mod-mul-add, mul-add-lt}
use Rattle.wfc_model.specs.Raster.{Raster, IsFilled, IsSized, number_at, numbers_of, raster_of}
use Rattle.wfc_model.proofs.CallerLemmas.{cell_is, length-numbers_of, number_at-numbers_of, raster_of-numbers_of}
use Rattle.wfc_blocks.specs.Blocks.{area_with, lies_in}
use Rattle.wfc_blocks.specs.Canvas.{Canvas, canvas_picture, empty_canvas, number_set}
use Rattle.wfc_blocks.specs.CanvasView.{CanvasView, IsNumbersOf, entry_number, canvas_with, part_of_row, rows_of_block, set_in, with_pixel}
use Rattle.wfc_blocks.specs.declared.block.Block.{Block}
use Rattle.wfc_blocks.specs.declared.TheConstants.{UNSET}
use Rattle.wfc_blocks.proofs.BlockLemmas.{IsIn, lies_back, lies_from}
use Rattle.wfc_blocks.proofs.CanvasLemmas.{canvas-at, canvas_sized}

-- equal numbers pass the test
eq_from : (a b : ℕ) → a ≡ b → (a == b) ≡ true
eq_from a b same = by (a == b) refl
  where
    by : (t : Bool) → (a == b) ≡ t → (a == b) ≡ true
    by true is = is
    by false is = absurd (eqb-false a b is same)

-- ---- entries

-- what stands at a place of the area
pub set_in-at : (w h : ℕ) (cells : List (Option ℕ)) (x y : ℕ) → x < w → y < h → set_in w h cells x y ≡ get_or cells (y * w + x) None
set_in-at w h cells x y column row = ap (λ b. if b then get_or cells (y * w + x) None else None) (and_from (nat_lt x w) (nat_lt y h) (lt-ltb x w column) (lt-ltb y h row))

-- places of a table that have one index are one
one_place : (w i j x y : ℕ) → i < w → x < w → j * w + i ≡ y * w + x → (i ≡ x) × (j ≡ y)
one_place w i j x y left right same = (
  sym (mod-mul-add j w i left) ∙ ap (λ k. k % w) same ∙ mod-mul-add y w x right,
  sym (div-mul-add j w i left) ∙ ap (λ k. k / w) same ∙ div-mul-add y w x right,
)

-- an entry that is set is a pixel that is set
pub put_is : (w h : ℕ) (cells : List (Option ℕ)) (x y number : ℕ) → length cells ≡ w * h → x < w → y < h → set_in w h (set cells (y * w + x) (Some number)) ≡ with_pixel (set_in w h cells) x y number
put_is w h cells x y number many column row = λ t i j. at i j t
  where
    at : (i j : ℕ) → set_in w h (set cells (y * w + x) (Some number)) i j ≡ with_pixel (set_in w h cells) x y number i j
    at i j = by (i == x && j == y) (nat_lt i w && nat_lt j h) refl refl
      where
        within : y * w + x < length cells
        within = omega (arith, many, mul-add-lt y w x h row column)

        by : (hit inside : Bool) → (i == x && j == y) ≡ hit → (nat_lt i w && nat_lt j h) ≡ inside → (if inside then get_or (set cells (y * w + x) (Some number)) (j * w + i) None else None) ≡ (if hit then Some number else (if inside then get_or cells (j * w + i) None else None))
        by true true hit inside =
            let parts = and_parts _ _ hit in
            let is : j * w + i ≡ y * w + x = ap (λ a. a * w + i) (eqb-true j y parts.1) ∙ ap (λ a. y * w + a) (eqb-true i x parts.0) in
            ap (λ k. get_or (set cells (y * w + x) (Some number)) k None) is ∙ get_or-set_same cells (y * w + x) (Some number) None within
        by true false hit inside =
            let parts = and_parts _ _ hit in
            let i_is = eqb-true i x parts.0 in
            let j_is = eqb-true j y parts.1 in
            absurd (false≢true (sym inside ∙ and_from _ _ (lt-ltb i w (omega arith)) (lt-ltb j h (omega arith))))
        by false true hit inside =
            let parts = and_parts _ _ inside in
            get_or-set_other cells (y * w + x) (j * w + i) (Some number) None (λ same.
            let one = one_place w i j x y (ltb-true i w parts.0) column same in
            absurd (false≢true (sym hit ∙ and_from _ _ (eq_from i x one.0) (eq_from j y one.1))))
        by false false hit inside = refl

-- ---- entries as the code holds them

-- a small number is that of its entry
pub entry_set : (number : ℕ) → number < UNSET → entry_number number ≡ Some number
entry_set number small = ap (λ b. if b then None else Some number) (ne_eqb number UNSET (λ same. omega arith))

-- the entries are as many as what is set
pub entries_filled : (w h : ℕ) (entries : List ℕ) → IsFilled w h entries → IsFilled w h (map entry_number entries)
entries_filled w h entries filled = record { some_column = filled.some_column; some_row = filled.some_row; as_many = length-map entries entry_number ∙ filled.as_many }

-- an entry of the area
pub entry_is : (w h : ℕ) (entries : List ℕ) (x y d : ℕ) → length entries ≡ w * h → x < w → y < h → entry_number (get_or entries (y * w + x) d) ≡ set_in w h (map entry_number entries) x y
entry_is w h entries x y d many column row =
    let inside : y * w + x < length entries = omega (arith, many, mul-add-lt y w x h row column) in
    sym (set_in-at w h (map entry_number entries) x y column row ∙ get_or-map entry_number entries (y * w + x) d None inside)

-- one that is set
pub put_entry : (w h : ℕ) (entries : List ℕ) (x y number : ℕ) → number < UNSET → length entries ≡ w * h → x < w → y < h → set_in w h (map entry_number (set entries (y * w + x) number)) ≡ with_pixel (set_in w h (map entry_number entries)) x y number
put_entry w h entries x y number small many column row =
    ap (set_in w h) (map-set entry_number entries (y * w + x) number ∙ ap (set (map entry_number entries) (y * w + x)) (entry_set number small))
    ∙ put_is w h (map entry_number entries) x y number (length-map entries entry_number ∙ many) column row

-- where each entry is unset, nothing is set
pub unset_in : (w h : ℕ) (entries : List ℕ) → ((k : ℕ) → get_or entries k UNSET ≡ UNSET) → set_in w h (map entry_number entries) ≡ empty_canvas
unset_in w h entries unset = λ t x y. at x y (nat_lt x w && nat_lt y h) t
  where
    at : (x y : ℕ) (b : Bool) → (if b then get_or (map entry_number entries) (y * w + x) None else None) ≡ None
    at x y false = refl
    at x y true = listed.get_or-map entry_number entries (y * w + x) UNSET ∙ ap entry_number (unset (y * w + x))

-- ---- parts of a block

-- what is painted is the picture's number in the part, and what was set beside it
pub painted_by : (canvas : Canvas) (block : Block) (m : Raster) (part : Block) (x y : ℕ) (value : Option ℕ) → (IsIn part x y → Some (number_at m (x - block.x) (y - block.y)) ≡ value) → ((IsIn part x y → ⊥) → canvas x y ≡ value) → canvas_with canvas block m part x y ≡ value
painted_by canvas block m part x y value here beside = by (lies_in part x y) refl
  where
    by : (b : Bool) → lies_in part x y ≡ b → (if b then Some (number_at m (x - block.x) (y - block.y)) else canvas x y) ≡ value
    by true lies = here (lies_back part x y lies)
    by false lies = beside (λ is. false≢true (sym lies ∙ lies_from part x y is))

pub painted_in : (canvas : Canvas) (block : Block) (m : Raster) (part : Block) (x y : ℕ) → IsIn part x y → canvas_with canvas block m part x y ≡ Some (number_at m (x - block.x) (y - block.y))
painted_in canvas block m part x y is = painted_by canvas block m part x y (Some (number_at m (x - block.x) (y - block.y))) (λ _. refl) (λ out. absurd (out is))

pub painted_out : (canvas : Canvas) (block : Block) (m : Raster) (part : Block) (x y : ℕ) → (IsIn part x y → ⊥) → canvas_with canvas block m part x y ≡ canvas x y
painted_out canvas block m part x y out = painted_by canvas block m part x y (canvas x y) (λ is. absurd (out is)) (λ _. refl)

-- one pixel more of a row
pub row_step : (canvas : Canvas) (block : Block) (m : Raster) (j i : ℕ) → with_pixel (canvas_with canvas block m (part_of_row block j i)) (block.x + i) (block.y + j) (number_at m i j) ≡ canvas_with canvas block m (part_of_row block j (i + 1))
row_step canvas block m j i = λ t x y. at x y t
  where
    at : (x y : ℕ) → with_pixel (canvas_with canvas block m (part_of_row block j i)) (block.x + i) (block.y + j) (number_at m i j) x y ≡ canvas_with canvas block m (part_of_row block j (i + 1)) x y
    at x y = by (x == block.x + i && y == block.y + j) refl
      where
        by : (hit : Bool) → (x == block.x + i && y == block.y + j) ≡ hit → (if hit then Some (number_at m i j) else canvas_with canvas block m (part_of_row block j i) x y) ≡ canvas_with canvas block m (part_of_row block j (i + 1)) x y
        by true hit =
            let parts = and_parts _ _ hit in
            let x_is : x ≡ block.x + i = eqb-true x (block.x + i) parts.0 in
            let y_is : y ≡ block.y + j = eqb-true y (block.y + j) parts.1 in
            let column : i ≡ x - block.x = omega arith in
            let row : j ≡ y - block.y = omega arith in
            (λ t. Some (number_at m (column t) (row t)))
            ∙ sym (painted_in canvas block m (part_of_row block j (i + 1)) x y (record { left = omega arith; right = omega arith; top = omega arith; bottom = omega arith }))
        by false hit =
            sym (painted_by canvas block m (part_of_row block j (i + 1)) x y (canvas_with canvas block m (part_of_row block j i) x y)
            (λ is. sym (painted_in canvas block m (part_of_row block j i) x y (record { left = is.left; right = before (omega (arith, is.right)) is; top = is.top; bottom = is.bottom })))
            (λ out. sym (painted_out canvas block m (part_of_row block j i) x y (λ is. out (record { left = is.left; right = omega (arith, is.right); top = is.top; bottom = is.bottom })))))
          where
            before : x < block.x + i + 1 → IsIn (part_of_row block j (i + 1)) x y → x < block.x + i
            before low is = elim (either x (block.x + i)) [
              | inl less ↦ less
              | inr same ↦ absurd (false≢true (sym hit ∙ and_from _ _ (eq_from x (block.x + i) (omega (arith, same, low))) (eq_from y (block.y + j) (omega (arith, is.top, is.bottom)))))
            ]
              where
                either : (a b : ℕ) → (a < b) ⊎ (b ≤ a)
                either a b = grind arith

-- one row more of a block
pub rows_step : (canvas : Canvas) (block : Block) (m : Raster) (j : ℕ) → canvas_with (canvas_with canvas block m (rows_of_block block j)) block m (part_of_row block j block.width) ≡ canvas_with canvas block m (rows_of_block block (j + 1))
rows_step canvas block m j = λ t x y. at x y t
  where
    at : (x y : ℕ) → canvas_with (canvas_with canvas block m (rows_of_block block j)) block m (part_of_row block j block.width) x y ≡ canvas_with canvas block m (rows_of_block block (j + 1)) x y
    at x y =
        painted_by (canvas_with canvas block m (rows_of_block block j)) block m (part_of_row block j block.width) x y (canvas_with canvas block m (rows_of_block block (j + 1)) x y)
        (λ is. sym (painted_in canvas block m (rows_of_block block (j + 1)) x y (record { left = is.left; right = is.right; top = omega (arith, is.top); bottom = omega (arith, is.bottom) })))
        (λ beside. painted_by canvas block m (rows_of_block block j) x y (canvas_with canvas block m (rows_of_block block (j + 1)) x y)
        (λ is. sym (painted_in canvas block m (rows_of_block block (j + 1)) x y (record { left = is.left; right = is.right; top = is.top; bottom = omega (arith, is.bottom) })))
        (λ above. sym (painted_out canvas block m (rows_of_block block (j + 1)) x y (λ is. later is (either y (block.y + j)) beside above))))
      where
        either : (a b : ℕ) → (a < b) ⊎ (b ≤ a)
        either a b = grind arith

        later : IsIn (rows_of_block block (j + 1)) x y → (y < block.y + j) ⊎ (block.y + j ≤ y) → (IsIn (part_of_row block j block.width) x y → ⊥) → (IsIn (rows_of_block block j) x y → ⊥) → ⊥
        later is (inl low) beside above = above (record { left = is.left; right = is.right; top = is.top; bottom = low })
        later is (inr high) beside above = beside (record { left = is.left; right = is.right; top = high; bottom = omega (arith, is.bottom) })

-- none of it
pub part_none : (canvas : Canvas) (block : Block) (m : Raster) (part : Block) → ((x y : ℕ) → IsIn part x y → ⊥) → canvas_with canvas block m part ≡ canvas
part_none canvas block m part none = λ t x y. painted_out canvas block m part x y (none x y) t

pub row_none : (canvas : Canvas) (block : Block) (m : Raster) (j : ℕ) → canvas_with canvas block m (part_of_row block j 0) ≡ canvas
row_none canvas block m j = part_none canvas block m (part_of_row block j 0) (λ x y is. omega (arith, is.left, is.right))

pub rows_none : (canvas : Canvas) (block : Block) (m : Raster) → canvas_with canvas block m (rows_of_block block 0) ≡ canvas
rows_none canvas block m = part_none canvas block m (rows_of_block block 0) (λ x y is. omega (arith, is.top, is.bottom))

-- ---- the picture

-- the numbers of all entries are those of the picture
pub numbers_are : (w h : ℕ) (cells : List (Option ℕ)) → IsFilled w h cells → raster_of w h (map number_set cells) ≡ canvas_picture (area_with w h 0) (set_in w h cells)
numbers_are w h cells filled =
    let area = area_with w h 0 in
    let canvas = set_in w h cells in
    let m = canvas_picture area canvas in
    let sized : IsSized m w h = canvas_sized area canvas filled.some_column filled.some_row in
    let many : length (numbers_of m) ≡ w * h = length-numbers_of m w h sized in
    let long : length (map number_set cells) ≡ length cells = length-map cells number_set in
    let same : map number_set cells ≡ numbers_of m =
    ext_get_or 0 (map number_set cells) (numbers_of m) (long ∙ filled.as_many ∙ sym many) (λ k inside.
    let within : k < length cells = omega (arith, long) in
    let is = cell_is w h k (omega (arith, filled.as_many)) in
    let x = k % w in
    let y = k / w in
    get_or-map number_set cells k None 0 within
    ∙ ap (λ i. number_set (get_or cells i None)) (sym is.cell)
    ∙ ap number_set (sym (set_in-at w h cells x y is.column is.row))
    ∙ sym (canvas-at area canvas x y is.column is.row)
    ∙ number_at-numbers_of m w h sized x y is.column is.row
    ∙ ap (λ i. get_or (numbers_of m) i 0) is.cell) in
    ap (raster_of w h) same ∙ raster_of-numbers_of m w h sized

-- so all that were read are
pub numbers_all : (view : CanvasView) (numbers : List ℕ) (k : ℕ) → IsFilled view.width view.height view.cells → length view.cells ≤ k → numbers ≡ map number_set (take k view.cells) → IsNumbersOf view numbers
numbers_all view numbers k filled past is =
    let all : numbers ≡ map number_set view.cells = is ∙ ap (map number_set) (take_all k view.cells past) in
    record {
      filled = record { some_column = filled.some_column; some_row = filled.some_row; as_many = ap length all ∙ length-map view.cells number_set ∙ filled.as_many };
      picture = ap (raster_of view.width view.height) all ∙ numbers_are view.width view.height view.cells filled;
    }

-- the number of an entry, or 0
number_or : (o : Option ℕ) → unwrap_or o 0 ≡ number_set o
number_or (Some number) = refl
number_or None = refl

-- one entry more is read
pub numbers_more : (entries numbers next : List ℕ) (k entry number : ℕ) → k < length entries → get_or entries k 0 ≡ entry → numbers ≡ map number_set (take k (map entry_number entries)) → number ≡ unwrap_or (entry_number entry) 0 → next ≡ numbers ++ number ∷ []
    → next ≡ map number_set (take (k + 1) (map entry_number entries))
numbers_more entries numbers next k entry number inside at so_far is pushed =
    let within : k < length (map entry_number entries) = omega (arith, length-map entries entry_number) in
    let here : number ≡ number_set (get_or (map entry_number entries) k None) =
    is ∙ number_or (entry_number entry) ∙ ap (λ e. number_set (entry_number e)) (sym at) ∙ ap number_set (sym (get_or-map entry_number entries k 0 None inside)) in
    pushed ∙ ap (λ ns. ns ++ number ∷ []) so_far ∙ ap (λ n. map number_set (take k (map entry_number entries)) ++ n ∷ []) here
    ∙ sym (map_more number_set (map entry_number entries) k None within)

-- Places: what holds of each and of each column and row at which a window starts is the same, how many there are, and which cell each is.
use Rattle.std.proofs.Common.{◌≡◌, ℕ, zero, suc, ◌+◌, ◌*◌, ◌/◌, ◌%◌, ◌<◌, ◌≤◌, Bool, false, length, get_or, map, ap, ◌∙◌, arith, zero-add}
use Rattle.std.specs.List.{range_with_len, All}
use Rattle.std.proofs.lemmas.List.FromFn.{length-map-range_with_len, get_or-map-range_with_len, length-range_with_len, get_or-range_with_len}
use Rattle.std.proofs.lemmas.Nat.{div_below, mod_below}
use Rattle.std.proofs.lemmas.List.Elements.{All-from_recursion, recursion_from_All}
use Rattle.wfc_model.specs.Window.{starts, places}
use Rattle.wfc_lists.proofs.Tables.{length-table, table-at}
use Rattle.wfc_lists.proofs.Ranges.{each_in_row, each_in_rows, row_each, rows_each}

-- what holds at each column and row at which a window starts holds of each place
pub All-places : (P : ℕ × ℕ → Type 0) (w h n : ℕ) (wrap : Bool) → ((x y : ℕ) → x < starts w n wrap → y < starts h n wrap → P (x, y)) → All P (places w h n wrap)
All-places P w h n wrap holds =
    All-from_recursion P (places w h n wrap)
    (each_in_rows P (λ y. map (λ x. (x, y)) (range_with_len 0 (starts w n wrap))) 0 (starts h n wrap)
    (λ y _ below. each_in_row P (λ x. (x, y)) 0 (starts w n wrap) (λ x _ left. holds x y (omega arith) (omega arith))))

-- and the other way
pub at_place : (P : ℕ × ℕ → Type 0) (w h n : ℕ) (wrap : Bool) → All P (places w h n wrap) → (x y : ℕ) → x < starts w n wrap → y < starts h n wrap → P (x, y)
at_place P w h n wrap all x y left below =
    row_each P (λ i. (i, y)) 0 (starts w n wrap)
    (rows_each P (λ j. map (λ i. (i, j)) (range_with_len 0 (starts w n wrap))) 0 (starts h n wrap) (recursion_from_All P (places w h n wrap) all) y (omega arith) (omega arith))
    x (omega arith) (omega arith)

-- a window that starts at a place of a side that doesn't wrap ends within it
pub start_fits : (side n x : ℕ) → x < starts side n false → x + n ≤ side
start_fits side n x start = omega arith

-- and the other way
pub start_from_fit : (side n x : ℕ) → x + n ≤ side → x < starts side n false
start_from_fit side n x fits = omega arith

-- ---- the places as a table, row by row

-- there are as many as starts of rows and of columns
pub length-places : (w h n : ℕ) (wrap : Bool) → length (places w h n wrap) ≡ starts h n wrap * starts w n wrap
length-places w h n wrap =
    length-table (λ y. map (λ x. (x, y)) (range_with_len 0 (starts w n wrap))) (starts w n wrap)
    (λ y. length-map-range_with_len (λ x. (x, y)) 0 (starts w n wrap)) (range_with_len 0 (starts h n wrap))
    ∙ ap (λ k. k * starts w n wrap) (length-range_with_len 0 (starts h n wrap))

-- the place in column x and row y is the cell counted row by row
pub places-at : (w h n : ℕ) (wrap : Bool) (x y : ℕ) (d : ℕ × ℕ) → x < starts w n wrap → y < starts h n wrap → get_or (places w h n wrap) (y * starts w n wrap + x) d ≡ (x, y)
places-at w h n wrap x y d column row =
    table-at (λ j. map (λ i. (i, j)) (range_with_len 0 (starts w n wrap))) (starts w n wrap)
    (λ j. length-map-range_with_len (λ i. (i, j)) 0 (starts w n wrap)) (range_with_len 0 (starts h n wrap)) y x 0 d
    (omega (arith, length-range_with_len 0 (starts h n wrap))) column
    ∙ ap (λ j. get_or (map (λ i. (i, j)) (range_with_len 0 (starts w n wrap))) x d) (get_or-range_with_len 0 (starts h n wrap) y 0 row ∙ zero-add y)
    ∙ get_or-map-range_with_len (λ i. (i, y)) 0 (starts w n wrap) x x d column (zero-add x)

-- the column and the row of a cell that is counted row by row
pub record IsCell (columns rows c x y : ℕ) : Type 0 where
  pub column : x < columns
  pub row : y < rows
  pub cell : y * columns + x ≡ c

-- each cell of so many columns and rows has them
pub cell_is : (columns rows c : ℕ) → c < rows * columns → IsCell columns rows c (c % columns) (c / columns)
cell_is zero rows c inside = let none : rows * 0 ≡ 0 = omega arith in absurd (omega arith)
cell_is (suc columns) rows c inside = record {
  column = mod_below c (suc columns) (omega arith);
  row = div_below c (suc columns) rows (omega arith) inside;
  cell = omega arith;
}

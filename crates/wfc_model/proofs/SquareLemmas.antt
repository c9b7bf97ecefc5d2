-- A square row by row: its length, each of its numbers, and when two are the same.
use Rattle.std.proofs.Common.{◌≡◌, ℕ, zero, suc, ◌+◌, ◌*◌, ◌/◌, ◌%◌, ◌<◌, List, length, get_or, set, arith, sym, ◌∙◌, zero-add, ap}
use Rattle.std.proofs.lemmas.List.{ext_get_or}
use Rattle.std.proofs.lemmas.List.Edits.{fill_by_more}
use Rattle.std.proofs.lemmas.List.FromFn.{length-map-range_with_len, get_or-map-range_with_len, fill_by_all}
use Rattle.std.proofs.lemmas.Nat.{div-mul-add, mod-mul-add, mul-add-lt, div_below, mod_below}
use Rattle.wfc_model.specs.Window.{square}

pub length-square : (n : ℕ) (f : ℕ → ℕ → ℕ) → length (square n f) ≡ n * n
length-square n f = length-map-range_with_len (λ k. f (k % n) (k / n)) 0 (n * n)

pub get_or-square : (n : ℕ) (f : ℕ → ℕ → ℕ) (k : ℕ) → k < n * n → get_or (square n f) k 0 ≡ f (k % n) (k / n)
get_or-square n f k in_square = get_or-map-range_with_len (λ i. f (i % n) (i / n)) 0 (n * n) k k 0 in_square (zero-add k)

-- the place of column i in row j
pub place_in_square : (n i j : ℕ) → i < n → j < n → j * n + i < n * n
place_in_square n i j column row = mul-add-lt j n i n row column

-- the number in column i of row j
pub square-at : (n : ℕ) (f : ℕ → ℕ → ℕ) (i j : ℕ) → i < n → j < n → get_or (square n f) (j * n + i) 0 ≡ f i j
square-at n f i j column row =
    get_or-square n f (j * n + i) (place_in_square n i j column row)
    ∙ ap (λ x. f x ((j * n + i) / n)) (mod-mul-add j n i column)
    ∙ ap (f i) (div-mul-add j n i column)

-- the column and the row of a place
pub column_of_place : (n k : ℕ) → k < n * n → k % n < n
column_of_place zero k in_square = absurd (omega arith)
column_of_place (suc n) k in_square = mod_below k (suc n) (omega arith)

pub row_of_place : (n k : ℕ) → k < n * n → k / n < n
row_of_place zero k in_square = absurd (omega arith)
row_of_place (suc n) k in_square = div_below k (suc n) (suc n) (omega arith) in_square

-- squares with the same number in each column and row are one
pub square-same : (n : ℕ) (f g : ℕ → ℕ → ℕ) → ((i j : ℕ) → i < n → j < n → f i j ≡ g i j) → square n f ≡ square n g
square-same n f g same =
    ext_get_or 0 (square n f) (square n g) (length-square n f ∙ sym (length-square n g)) (λ k inside.
    let in_square : k < n * n = omega (arith, length-square n f) in
    get_or-square n f k in_square
    ∙ same (k % n) (k / n) (column_of_place n k in_square) (row_of_place n k in_square)
    ∙ sym (get_or-square n g k in_square))

-- and one square has one number in each column and row
pub square-number : (n : ℕ) (f g : ℕ → ℕ → ℕ) → square n f ≡ square n g → (i j : ℕ) → i < n → j < n → f i j ≡ g i j
square-number n f g same i j column row =
    sym (square-at n f i j column row) ∙ ap (λ numbers. get_or numbers (j * n + i) 0) same ∙ square-at n g i j column row

-- a list of n by n numbers is a square when it has the number of each column and row
pub square-from : (n : ℕ) (f : ℕ → ℕ → ℕ) (numbers : List ℕ) → length numbers ≡ n * n → ((i j : ℕ) → i < n → j < n → get_or numbers (j * n + i) 0 ≡ f i j) → numbers ≡ square n f
square-from n f numbers long same =
    ext_get_or 0 numbers (square n f) (long ∙ sym (length-square n f)) (λ k inside.
    let in_square : k < n * n = omega (arith, long) in
    let split : k / n * n + k % n ≡ k = div_mod n k in_square in
    ap (λ i. get_or numbers i 0) (sym split)
    ∙ same (k % n) (k / n) (column_of_place n k in_square) (row_of_place n k in_square)
    ∙ sym (get_or-square n f k in_square))
  where
    div_mod : (n k : ℕ) → k < n * n → k / n * n + k % n ≡ k
    div_mod zero k in_square = absurd (omega arith)
    div_mod (suc n) k in_square = omega arith

-- ---- a square that is written number by number

-- a square with a number has a side
pub some_side : (n m k : ℕ) → m ≡ n * n → k < m → 0 < n
some_side zero m k area below = omega arith
some_side (suc n) m k area below = omega arith

-- the row of a place in a square is one of its rows
pub row_below : (n m k x y : ℕ) → m ≡ n * n → k < m → y * n + x ≡ k → x < n → y < n
row_below n m k x y area below place column =
    let row_is : k / n ≡ y = ap (λ m. m / n) (sym place) ∙ div-mul-add y n x column in
    let within : k < n * n = omega arith in
    let fits = div_below k n n (omega arith) within in
    omega (arith, fits)

-- a place in a square is below its number of places
pub place_below : (n m x y : ℕ) → m ≡ n * n → x < n → y < n → y * n + x < m
place_below n m x y area column row = omega (arith, mul-add-lt y n x n row column)

-- where the first k numbers are written, the next one, in column x of row y, makes it k + 1
pub square_more : (n : ℕ) (f : ℕ → ℕ → ℕ) (out : List ℕ) (k x y v : ℕ) → y * n + x ≡ k → x < n → k < length out → v ≡ f x y → ((j : ℕ) → j < k → get_or out j 0 ≡ f (j % n) (j / n)) → (j : ℕ) → j < k + 1 → get_or (set out k v) j 0 ≡ f (j % n) (j / n)
square_more n f out k x y v place column within value written j below =
    let column_is : k % n ≡ x = ap (λ m. m % n) (sym place) ∙ mod-mul-add y n x column in
    let row_is : k / n ≡ y = ap (λ m. m / n) (sym place) ∙ div-mul-add y n x column in
    let value_is : v ≡ f (k % n) (k / n) = cc in
    rw value_is (fill_by_more (λ m. f (m % n) (m / n)) out k 0 within written j below)

-- where every number is written, it is the square
pub square_all : (n : ℕ) (f : ℕ → ℕ → ℕ) (out : List ℕ) (k : ℕ) → length out ≡ n * n → length out < k + 1 → ((j : ℕ) → j < k → get_or out j 0 ≡ f (j % n) (j / n)) → out ≡ square n f
square_all n f out k area done written =
    fill_by_all (λ m. f (m % n) (m / n)) out (n * n) 0 area (λ j below. written j (omega arith))

-- behind the last column comes the next row
pub next_row : (n k x y x' y' : ℕ) → y * n + x ≡ k → x + 1 ≡ n → x' ≡ 0 → y' ≡ y + 1 → y' * n + x' ≡ k + 1
next_row n k x y x' y' place last column row = rw (column, row) (omega arith)

-- else the next column
pub next_column : (n k x y x' y' : ℕ) → y * n + x ≡ k → x' ≡ x + 1 → y' ≡ y → y' * n + x' ≡ k + 1
next_column n k x y x' y' place column row = rw (column, row) (omega arith)

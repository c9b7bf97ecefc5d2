-- The images of a window: their length, that they show its numbers, and that renumbering goes through them.
use Rattle.std.proofs.Common.{◌≡◌, ℕ, zero, suc, ◌+◌, ◌-◌, ◌*◌, ◌/◌, ◌%◌, ◌<◌, Bool, true, false, List, length, map, nat_eq, refl, sym, subst, ◌∙◌, ap, arith, if◌then◌else◌}
use Rattle.std.specs.List.{All}
use Rattle.std.proofs.lemmas.List.{get_or-map, length-map}
use Rattle.std.proofs.lemmas.List.Elements.{All-get_or, All-from_get_or}
use Rattle.wfc_model.specs.Window.{square}
use Rattle.wfc_model.specs.Image.{cell_at, reflected, rotated, after_turns, image}
use Rattle.wfc_model.proofs.SquareLemmas.{length-square, get_or-square, square-at, square-same, square-from, place_in_square, column_of_place, row_of_place}

-- what holds of the number in each column and row holds of each number of a square
pub All-square : (P : ℕ → Type 0) (n : ℕ) (f : ℕ → ℕ → ℕ) → ((i j : ℕ) → i < n → j < n → P (f i j)) → All P (square n f)
All-square P n f holds =
    All-from_get_or P (square n f) 0 (λ k inside.
    let in_square : k < n * n = omega (arith, length-square n f) in
    subst P (sym (get_or-square n f k in_square)) (holds (k % n) (k / n) (column_of_place n k in_square) (row_of_place n k in_square)))

-- a square renumbered is the square of the numbers renumbered
pub map-square : (f : ℕ → ℕ) (n : ℕ) (g : ℕ → ℕ → ℕ) → map f (square n g) ≡ square n (λ i j. f (g i j))
map-square f n g =
    square-from n (λ i j. f (g i j)) (map f (square n g)) (length-map (square n g) f ∙ length-square n g) (λ i j column row.
    let place = place_in_square n i j column row in
    get_or-map f (square n g) (j * n + i) 0 0 (omega (arith, length-square n g)) ∙ ap f (square-at n g i j column row))

module _ (n : ℕ) (w : List ℕ) (long : length w ≡ n * n) where
  -- an entry is one of the numbers
  All-cell : (P : ℕ → Type 0) → All P w → (x y : ℕ) → x < n → y < n → P (cell_at n w x y)
  All-cell P all x y column row =
      let place = place_in_square n x y column row in
      All-get_or P w (y * n + x) 0 (omega arith) all

  -- a reflection, and a turn, show the same numbers
  pub All-reflected : (P : ℕ → Type 0) → All P w → All P (reflected n w)
  All-reflected P all = All-square P n (λ x y. cell_at n w (n - 1 - x) y) (λ x y column row. All-cell P all (n - 1 - x) y (omega arith) row)

  pub All-rotated : (P : ℕ → Type 0) → All P w → All P (rotated n w)
  All-rotated P all = All-square P n (λ x y. cell_at n w (n - 1 - y) x) (λ x y column row. All-cell P all (n - 1 - y) x (omega arith) column)

  -- renumbering goes through an entry, a reflection and a turn
  cell_at-map : (f : ℕ → ℕ) (x y : ℕ) → x < n → y < n → cell_at n (map f w) x y ≡ f (cell_at n w x y)
  cell_at-map f x y column row =
      let place = place_in_square n x y column row in
      get_or-map f w (y * n + x) 0 0 (omega arith)

  reflected-map : (f : ℕ → ℕ) → reflected n (map f w) ≡ map f (reflected n w)
  reflected-map f =
      square-same n (λ x y. cell_at n (map f w) (n - 1 - x) y) (λ x y. f (cell_at n w (n - 1 - x) y)) (λ x y column row. cell_at-map f (n - 1 - x) y (omega arith) row)
      ∙ sym (map-square f n (λ x y. cell_at n w (n - 1 - x) y))

  rotated-map : (f : ℕ → ℕ) → rotated n (map f w) ≡ map f (rotated n w)
  rotated-map f =
      square-same n (λ x y. cell_at n (map f w) (n - 1 - y) x) (λ x y. f (cell_at n w (n - 1 - y) x)) (λ x y column row. cell_at-map f (n - 1 - y) x (omega arith) column)
      ∙ sym (map-square f n (λ x y. cell_at n w (n - 1 - y) x))

-- a turned window is as long
pub length-after_turns : (n : ℕ) (w : List ℕ) (turns : ℕ) → length w ≡ n * n → length (after_turns n w turns) ≡ n * n
length-after_turns n w zero long = long
length-after_turns n w (suc turns) long = length-square n (λ x y. cell_at n (after_turns n w turns) (n - 1 - y) x)

-- and so is each image
pub length-image : (n : ℕ) (w : List ℕ) (k : ℕ) → length w ≡ n * n → length (image n w k) ≡ n * n
length-image n w k long = by (nat_eq (k % 2) 0)
  where
    by : (even : Bool) → length (if even then after_turns n w (k / 2) else reflected n (after_turns n w (k / 2))) ≡ n * n
    by true = length-after_turns n w (k / 2) long
    by false = length-square n (λ x y. cell_at n (after_turns n w (k / 2)) (n - 1 - x) y)

-- each number of an image is one of the window
pub All-after_turns : (P : ℕ → Type 0) (n : ℕ) (w : List ℕ) (turns : ℕ) → length w ≡ n * n → All P w → All P (after_turns n w turns)
All-after_turns P n w zero long all = all
All-after_turns P n w (suc turns) long all = All-rotated n (after_turns n w turns) (length-after_turns n w turns long) P (All-after_turns P n w turns long all)

pub All-image : (P : ℕ → Type 0) (n : ℕ) (w : List ℕ) (k : ℕ) → length w ≡ n * n → All P w → All P (image n w k)
All-image P n w k long all = by (nat_eq (k % 2) 0)
  where
    by : (even : Bool) → All P (if even then after_turns n w (k / 2) else reflected n (after_turns n w (k / 2)))
    by true = All-after_turns P n w (k / 2) long all
    by false = All-reflected n (after_turns n w (k / 2)) (length-after_turns n w (k / 2) long) P (All-after_turns P n w (k / 2) long all)

-- an image of the window renumbered is the image renumbered
after_turns-map : (f : ℕ → ℕ) (n : ℕ) (w : List ℕ) (turns : ℕ) → length w ≡ n * n → after_turns n (map f w) turns ≡ map f (after_turns n w turns)
after_turns-map f n w zero long = refl
after_turns-map f n w (suc turns) long = ap (rotated n) (after_turns-map f n w turns long) ∙ rotated-map n (after_turns n w turns) (length-after_turns n w turns long) f

pub image-map : (f : ℕ → ℕ) (n : ℕ) (w : List ℕ) (k : ℕ) → length w ≡ n * n → image n (map f w) k ≡ map f (image n w k)
image-map f n w k long = by (nat_eq (k % 2) 0)
  where
    by : (even : Bool) → (if even then after_turns n (map f w) (k / 2) else reflected n (after_turns n (map f w) (k / 2))) ≡ map f (if even then after_turns n w (k / 2) else reflected n (after_turns n w (k / 2)))
    by true = after_turns-map f n w (k / 2) long
    by false = ap (reflected n) (after_turns-map f n w (k / 2) long) ∙ reflected-map n (after_turns n w (k / 2)) (length-after_turns n w (k / 2) long) f

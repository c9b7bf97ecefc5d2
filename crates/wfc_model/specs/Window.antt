-- Windows of a picture, and the places at which they stand.
use Rattle.std.specs.Prelude.{ℕ, ◌+◌, ◌-◌, ◌*◌, ◌/◌, ◌%◌, Bool, List, map, if◌then◌else◌}
use Rattle.std.specs.List.{flat_map, range_with_len}
use Rattle.wfc_model.specs.Raster.{Raster, height_of, number_at}

-- n rows of n numbers, row by row: f gives the number in a column and a row
abbrev pub square : ℕ → (ℕ → ℕ → ℕ) → List ℕ
square n f = map (λ k. f (k % n) (k / n)) (range_with_len 0 (n * n))

-- the n by n numbers from (x, y) on, to the right and down; behind the last column stands the
-- first, and behind the last row too
abbrev pub window : Raster → ℕ → ℕ → ℕ → List ℕ
window m x y n = square n (λ i j. number_at m ((x + i) % m.width) ((y + j) % height_of m))

-- at how many places of a side a window can start: at each where the side wraps, else at those from which n fit
abbrev pub starts : ℕ → ℕ → Bool → ℕ
starts side n wrap = if wrap then side else side + 1 - n

-- where the windows of a picture start, as pairs of a column and a row, row by row
abbrev pub places : ℕ → ℕ → ℕ → Bool → List (ℕ × ℕ)
places width height n wrap =
    flat_map (λ y. map (λ x. (x, y)) (range_with_len 0 (starts width n wrap)))
    (range_with_len 0 (starts height n wrap))

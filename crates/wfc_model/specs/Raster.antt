-- Pictures as a width and rows of numbers. A number stands for a byte or a colour; columns and rows count from 0.
use Rattle.std.specs.Prelude.{◌≡◌, ℕ, ◌*◌, ◌<◌, List, [], length, take, drop, map, All, slice_index, slice_index_or}
use Rattle.std.specs.List.{concat, range_with_len}

-- a picture: how wide it is, and its rows from the top
pub record Raster : Type 0 where
  pub width : ℕ
  pub rows : List (List ℕ)

-- how many rows there are
abbrev pub height_of : Raster → ℕ
height_of m = length m.rows

-- the number in column x of row y, and 0 outside
abbrev pub number_at : Raster → ℕ → ℕ → ℕ
number_at m x y = slice_index (slice_index_or m.rows y []) x

-- there is a column and a row, and each row is as long as the picture is wide
pub record IsRaster (m : Raster) : Type 0 where
  pub some_column : 0 < m.width
  pub some_row : 0 < height_of m
  pub rows_fit : All (λ (row : List ℕ). length row ≡ m.width) m.rows

-- the picture is so wide and so high
pub record IsSized (m : Raster) (width height : ℕ) : Type 0 where
  pub raster : IsRaster m
  pub same_width : m.width ≡ width
  pub same_height : height_of m ≡ height

-- both sides are at least 1, and there are as many numbers, or bytes or colours, as they have places
pub record IsFilled {X : Type 0} (width height : ℕ) (numbers : List X) : Type 0 where
  pub some_column : 0 < width
  pub some_row : 0 < height
  pub as_many : length numbers ≡ width * height

-- the numbers row by row
abbrev pub numbers_of : Raster → List ℕ
numbers_of m = concat m.rows

-- the picture whose numbers are these, row by row
abbrev pub raster_of : ℕ → ℕ → List ℕ → Raster
raster_of w h numbers = record { width = w; rows = map (λ y. take w (drop (y * w) numbers)) (range_with_len 0 h) }

-- What is set of an area as contracts see it, and how the code holds it.
use Rattle.std.specs.Prelude.{◌≡◌, ℕ, ◌+◌, ◌-◌, ◌*◌, ◌<◌, ◌≤◌, ◌==◌, ◌&&◌, nat_lt, List, Option, None, Some, slice_index_or, if◌then◌else◌}
use Rattle.wfc_model.specs.Raster.{Raster, IsFilled, height_of, number_at, raster_of}
use Rattle.wfc_blocks.specs.Blocks.{area_with, lies_in}
use Rattle.wfc_blocks.specs.Canvas.{Canvas, canvas_picture}
use Rattle.wfc_blocks.specs.declared.block.Block.{Block}
use Rattle.wfc_blocks.specs.declared.TheConstants.{UNSET}

-- the number of an entry, if one is set
abbrev pub entry_number : ℕ → Option ℕ
entry_number entry = if entry == UNSET then None else Some entry

-- the sides of an area, and what is set of its pixels row by row
pub record CanvasView : Type 0 where
  pub width : ℕ
  pub height : ℕ
  pub cells : List (Option ℕ)

-- what is set of an area's pixels row by row, as what is set of it: outside nothing is
abbrev pub set_in : ℕ → ℕ → List (Option ℕ) → Canvas
set_in width height cells =
    λ x y. if nat_lt x width && nat_lt y height then slice_index_or cells (y * width + x) None else None

-- what is set of an area
abbrev pub canvas_of : CanvasView → Canvas
canvas_of view = set_in view.width view.height view.cells

-- two areas are of one size
pub record HaveSameSides (old new : CanvasView) : Type 0 where
  pub width : new.width ≡ old.width
  pub height : new.height ≡ old.height

-- with a number in a column and a row
abbrev pub with_pixel : Canvas → ℕ → ℕ → ℕ → Canvas
with_pixel canvas x y number = λ i j. if i == x && j == y then Some number else canvas i j

-- with the pixels of a part of a block set to those of the block's picture
abbrev pub canvas_with : Canvas → Block → Raster → Block → Canvas
canvas_with canvas block m part =
    λ x y. if lies_in part x y then Some (number_at m (x - block.x) (y - block.y)) else canvas x y

-- the numbers are those of the picture of what is set
pub record IsNumbersOf (view : CanvasView) (numbers : List ℕ) : Type 0 where
  pub filled : IsFilled view.width view.height numbers
  pub picture : raster_of view.width view.height numbers
      ≡ canvas_picture (area_with view.width view.height 0) (canvas_of view)

-- so many columns of row j of a block
abbrev pub part_of_row : Block → ℕ → ℕ → Block
part_of_row block j columns = record block { y = block.y + j; width = columns; height = 1 }

-- so many rows of a block
abbrev pub rows_of_block : Block → ℕ → Block
rows_of_block block rows = record block { height = rows }

-- each number of a picture is below this
abbrev pub HasNumbersBelow : ℕ → Raster → Type 0
HasNumbersBelow limit m =
    (x y : ℕ) → x < m.width → y < height_of m → number_at m x y < limit

-- the block lies in an area of these sides
pub record LiesWithin (width height : ℕ) (block : Block) : Type 0 where
  pub across : block.x + block.width ≤ width
  pub down : block.y + block.height ≤ height

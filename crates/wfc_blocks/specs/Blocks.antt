-- Blocks: the parts of an area that are filled one after another. Those beside each other share so
-- many columns or rows of pixels that each window lies in one of them.
use Rattle.std.specs.Prelude.{◌≡◌, ℕ, ◌+◌, ◌-◌, ◌*◌, ◌/◌, ◌%◌, ◌<◌, ◌≤◌, Bool, true, false, ◌&&◌, nat_le, nat_lt, List, map, min}
use Rattle.std.specs.Int.{div_ceil}
use Rattle.std.specs.List.{range_with_len}
use Rattle.wfc_model.specs.Window.{starts}
use Rattle.wfc_overlap.specs.Sample.{Output, output_with}
use Rattle.wfc_blocks.specs.declared.block.Block.{Block}

-- how wide and how high an area is, and how long a side of a block may be
pub record Area : Type 0 where
  pub width : ℕ
  pub height : ℕ
  pub side : ℕ

-- the area with these sides and this side of a block
abbrev pub area_with : ℕ → ℕ → ℕ → Area
area_with width height side = record { width = width; height = height; side = side }

-- the whole area as an output, which doesn't wrap
abbrev pub whole_of : Area → Output
whole_of area = output_with area.width area.height false

-- how many columns or rows of pixels a block begins behind the one before it
abbrev pub stride : ℕ → ℕ → ℕ
stride n side = side + 1 - n

-- how many blocks there are along a side of an area: one for each stride that the starts of its
-- windows take, where the last stride may be in part
abbrev pub blocks_along : ℕ → ℕ → ℕ → ℕ
blocks_along n side whole = div_ceil (starts whole n false) (stride n side)

-- how many blocks there are in a row of them
abbrev pub blocks_across : ℕ → Area → ℕ
blocks_across n area = blocks_along n area.side area.width

-- how many rows of blocks there are
abbrev pub blocks_down : ℕ → Area → ℕ
blocks_down n area = blocks_along n area.side area.height

-- how many blocks of an area there are in all
abbrev pub block_count : ℕ → Area → ℕ
block_count n area = blocks_across n area * blocks_down n area

-- the block with a number that begins at a pixel: it ends after a block's side, or at the area's edge
abbrev pub block_from : Area → ℕ → ℕ → ℕ → Block
block_from area number x y = record {
  number = number;
  x = x;
  y = y;
  width = min area.side (area.width - x);
  height = min area.side (area.height - y);
}

-- the block with a number: they are counted row by row
abbrev pub block_at : ℕ → Area → ℕ → Block
block_at n area k =
    block_from area k (k % blocks_across n area * stride n area.side)
    (k / blocks_across n area * stride n area.side)

-- all blocks of an area, in their order
abbrev pub blocks_of : ℕ → Area → List Block
blocks_of n area = map (λ k. block_at n area k) (range_with_len 0 (block_count n area))

-- whether a pixel of the area lies in a block
abbrev pub lies_in : Block → ℕ → ℕ → Bool
lies_in block x y =
    nat_le block.x x && nat_lt x (block.x + block.width) && nat_le block.y y
    && nat_lt y (block.y + block.height)

-- a block ends within an area
abbrev pub IsBlockIn : Area → Block → Type 0
IsBlockIn area block =
    (block.x + block.width ≤ area.width) × (block.y + block.height ≤ area.height)

-- the window that begins at a place lies in a block
pub record HasWindow (n : ℕ) (block : Block) (x y : ℕ) : Type 0 where
  pub left : block.x ≤ x
  pub right : x + n ≤ block.x + block.width
  pub top : block.y ≤ y
  pub bottom : y + n ≤ block.y + block.height

-- the output that a block is
abbrev pub output_of_block : Block → Output
output_of_block block = output_with block.width block.height false

-- a block of the area has the window at this place
abbrev pub HasBlock : ℕ → Area → ℕ → ℕ → Type 0
HasBlock n area x y = (k : ℕ) × (k < block_count n area) × HasWindow n (block_at n area k) x y

-- where a block's side holds a window, blocks that have the window at this place are one
abbrev pub HasOneBlock : ℕ → Area → ℕ → ℕ → Type 0
HasOneBlock n area x y =
    (k l : ℕ) → n ≤ area.side → k < block_count n area → HasWindow n (block_at n area k) x y
    → l < block_count n area → HasWindow n (block_at n area l) x y → k ≡ l

-- a block of the area has this pixel
abbrev pub HasPixelBlock : ℕ → Area → ℕ → ℕ → Type 0
HasPixelBlock n area x y = (k : ℕ) × (k < block_count n area) × (lies_in (block_at n area k) x y ≡ true)

-- the block with this number as an output
abbrev pub output_at : ℕ → Area → ℕ → Output
output_at n area k = output_of_block (block_at n area k)

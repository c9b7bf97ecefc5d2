-- What is set of an area, and the pins of a block.
use Rattle.std.specs.Prelude.{ℕ, ◌+◌, ◌-◌, ◌++◌, true, List, [], ◌∷◌, map, filter, Option, None, Some, slice_index_or, if◌then◌else◌}
use Rattle.std.specs.List.{flat_map, range_with_len}
use Rattle.wfc_model.specs.Legal.{Pin, kept_pin}
use Rattle.wfc_model.specs.Raster.{Raster, number_at}
use Rattle.wfc_pins.specs.PinView.{PinView}
use Rattle.wfc_blocks.specs.Blocks.{Area, lies_in}
use Rattle.wfc_blocks.specs.declared.block.Block.{Block}

-- the number that is set in a column and a row of an area, if there is one
abbrev pub Canvas : Type 0
Canvas = ℕ → ℕ → Option ℕ

-- nothing is set
abbrev pub empty_canvas : Canvas
empty_canvas = λ x y. None

-- the pixels of a block are set to those of a picture
abbrev pub with_block : Canvas → Block → Raster → Canvas
with_block canvas block m =
    λ x y. if lies_in block x y then Some (number_at m (x - block.x) (y - block.y)) else canvas x y

-- a number that is set, and 0 where none is
abbrev pub number_set : Option ℕ → ℕ
number_set (Some number) = number
number_set None = 0

-- the numbers set in row y
abbrev pub canvas_row : Area → Canvas → ℕ → List ℕ
canvas_row area canvas y = map (λ x. number_set (canvas x y)) (range_with_len 0 area.width)

-- the picture of what is set
abbrev pub canvas_picture : Area → Canvas → Raster
canvas_picture area canvas = record {
  width = area.width;
  rows = map (λ y. canvas_row area canvas y) (range_with_len 0 area.height);
}

-- what is made of a number that is set in column i and row j of a block, if there is one
abbrev pub made_if_set : {X : Type 0} → (ℕ → ℕ → ℕ → X) → ℕ → ℕ → Option ℕ → List X
made_if_set make i j None = []
made_if_set make i j (Some number) = make i j number ∷ []

-- the same of those in a row of a block
abbrev pub made_in_row : {X : Type 0} → (ℕ → ℕ → ℕ → X) → Canvas → Block → ℕ → List X
made_in_row make canvas block j =
    flat_map (λ i. made_if_set make i j (canvas (block.x + i) (block.y + j)))
    (range_with_len 0 block.width)

-- the same of those in a block, row by row
abbrev pub made_in_block : {X : Type 0} → (ℕ → ℕ → ℕ → X) → Canvas → Block → List X
made_in_block make canvas block =
    flat_map (λ j. made_in_row make canvas block j) (range_with_len 0 block.height)

-- ---- pins, by the numbers of their symbols

-- a pin of the area as it is seen from a block's first pixel
abbrev pub pin_in_block : Block → Pin → Pin
pin_in_block block pin =
    record pin { column = pin.column - block.x; row = pin.row - block.y }

-- the pins and bans of the area that lie in a block
abbrev pub pins_within : Block → List Pin → List Pin
pins_within block pins =
    map (λ pin. pin_in_block block pin) (filter (λ (pin : Pin). lies_in block pin.column pin.row) pins)

-- the pins of a block: what is set in it, row by row, and then the pins and bans that lie in it
abbrev pub pins_of_block : List Pin → Canvas → Block → List Pin
pins_of_block pins canvas block =
    made_in_block kept_pin canvas block ++ pins_within block pins

-- ---- the same as lines of a pins file

-- the line that keeps a number in a column and a row, by the texts of the symbols; its own line is 0
abbrev pub set_line : List (List ℕ) → ℕ → ℕ → ℕ → PinView
set_line texts column row number = record {
  line = 0;
  keep = true;
  x = column;
  y = row;
  symbol = slice_index_or texts number [];
}

-- a line as it is seen from a block's first pixel
abbrev pub line_in_block : Block → PinView → PinView
line_in_block block line = record line { x = line.x - block.x; y = line.y - block.y }

-- the lines that lie in a block
abbrev pub lines_within : Block → List PinView → List PinView
lines_within block lines =
    map (λ line. line_in_block block line) (filter (λ (line : PinView). lies_in block line.x line.y) lines)

-- the pins of a block as lines: what is set in it, row by row, and then the lines that lie in it
abbrev pub lines_of_block : List (List ℕ) → List PinView → Canvas → Block → List PinView
lines_of_block texts lines canvas block =
    made_in_block (set_line texts) canvas block ++ lines_within block lines

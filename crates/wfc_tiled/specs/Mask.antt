-- Which places of a tile map have a tile.
use Rattle.std.specs.Prelude.{ℕ, ◌+◌, ◌*◌, ◌/◌, ◌%◌, ◌<◌, ◌≤◌, ◌==◌, nat_eq, ◌||◌, ◌&&◌, Bool, not, List, [], length, filter}
use Rattle.std.specs.Prelude.{position, slice_index, Option, None, Some, Result, Ok, Err, Contains, All, if◌then◌else◌}
use Rattle.std.specs.List.{range_with_len}
use Rattle.std.specs.List.Sorted.{IsStrictlyIncreasing}
use Rattle.wfc_grid.specs.Grid.{GridView}
use Rattle.wfc_model.specs.declared.TheConstants.{MAX_OUTPUT_SIDE}
use Rattle.wfc_places.specs.Steps.{place_number}
use Rattle.wfc_tiled.specs.declared.reading.MaskFault.{MaskFault}
use Rattle.wfc_tiled.specs.declared.reading.MaskFault.TheVariants.{SizeDiffers, BadSymbol, AllHoles}

-- a mask: its sides, and the places that are no holes, row by row, each by its number in rows of the
-- whole width
pub record MaskView : Type 0 where
  pub width : ℕ
  pub height : ℕ
  pub places : List ℕ

-- both sides are 1 to 4,096, and the places lie inside, row by row, at least one
pub record IsMask (mask : MaskView) : Type 0 where
  pub some_column : 0 < mask.width
  pub some_row : 0 < mask.height
  pub width_limit : mask.width ≤ MAX_OUTPUT_SIDE
  pub height_limit : mask.height ≤ MAX_OUTPUT_SIDE
  pub some_place : 0 < length mask.places
  pub few_places : length mask.places ≤ mask.width * mask.height
  pub inside : All (λ n. n < mask.width * mask.height) mask.places
  pub rising : IsStrictlyIncreasing mask.places

-- the place in a column and a row is no hole
abbrev pub IsPlace : MaskView → ℕ → ℕ → Type 0
IsPlace mask x y = Contains mask.places (place_number mask.width x y)

-- the cell of a place by its number, none where it is a hole
abbrev pub cell_number : MaskView → ℕ → Option ℕ
cell_number mask n = position (nat_eq n) mask.places

-- the mask without holes
abbrev pub plain_mask : ℕ → ℕ → MaskView
plain_mask width height = record { width = width; height = height; places = range_with_len 0 (width * height) }

-- a byte of a mask's grid that is no place and no hole
abbrev pub is_no_mask_byte : ℕ → Bool
is_no_mask_byte byte = not (byte == 46 || byte == 35)

-- the places that a grid has: those of its dots
abbrev pub places_of : List ℕ → List ℕ
places_of bytes = filter (λ n. slice_index bytes n == 46) (range_with_len 0 (length bytes))

-- the mask of a grid with right sides, or the first byte that is no dot and no `#`, or that no place is left
abbrev pub mask_from : GridView → Option ℕ → List ℕ → Result MaskView MaskFault
mask_from grid (Some at) places = Err (BadSymbol (at / grid.width + 1) (at % grid.width + 1))
mask_from grid None [] = Err AllHoles
mask_from grid None places = Ok (record { width = grid.width; height = grid.height; places = places })

-- the mask that a grid spells for these sides, or its first fault
abbrev pub mask_of : GridView → ℕ → ℕ → Result MaskView MaskFault
mask_of grid width height =
    if grid.width == width && grid.height == height
    then mask_from grid (position is_no_mask_byte grid.bytes) (places_of grid.bytes)
    else Err (SizeDiffers grid.width grid.height)

-- Boxes of variants, layer upon layer, and which of them are legal.
use Rattle.std.specs.Prelude.{◌≡◌, ℕ, ◌+◌, ◌*◌, ◌/◌, ◌%◌, ◌<◌, ◌≤◌, Bool, List, [], length, take, drop, map, All, slice_index_or}
use Rattle.std.specs.List.{range_with_len}
use Rattle.wfc_model.specs.Legal.{Pin, IsHeld}
use Rattle.wfc_model.specs.Raster.{Raster, number_at, raster_of}
use Rattle.wfc_model.specs.declared.TheConstants.{MAX_OUTPUT_SIDE}
use Rattle.wfc_places.specs.Steps.{place_number}
use Rattle.wfc_tileset.specs.Tiles.{TileSetView}
use Rattle.wfc_tiled.specs.Mask.{MaskView, plain_mask}
use Rattle.wfc_tiled.specs.Maps.{IsLegalTileMap}
use Rattle.wfc_box.specs.Stacks.{IsStacked}
use Rattle.wfc_box.specs.declared.frame.Frame.{Frame}
use Rattle.wfc_box.specs.declared.layouts.TheConstants.{MAX_DEPTH}

-- the frame with these sides
abbrev pub frame_of : ℕ → ℕ → ℕ → Bool → Frame
frame_of width height depth wrap = record { width = width; height = height; depth = depth; wrap = wrap }

-- the sides of a layer are 1 to 4,096, and there are 1 to 256 layers
pub record IsFrame (frame : Frame) : Type 0 where
  pub some_column : 0 < frame.width
  pub some_row : 0 < frame.height
  pub some_layer : 0 < frame.depth
  pub width_limit : frame.width ≤ MAX_OUTPUT_SIDE
  pub height_limit : frame.height ≤ MAX_OUTPUT_SIDE
  pub depth_limit : frame.depth ≤ MAX_DEPTH

-- how many places a layer has
abbrev pub area : Frame → ℕ
area frame = frame.width * frame.height

-- how many places the box has
abbrev pub places_in : Frame → ℕ
places_in frame = frame.depth * area frame

-- a layer as a map of tiles without holes
abbrev pub layer_mask : Frame → MaskView
layer_mask frame = plain_mask frame.width frame.height

-- a layer of a box by its number, the bottom one first, and an empty one where there is none
abbrev pub layer_at : List Raster → ℕ → Raster
layer_at box z = slice_index_or box z (raster_of 0 0 [])

-- the variant in a column and a row of a layer
abbrev pub number_in_box : List Raster → ℕ → ℕ → ℕ → ℕ
number_in_box box x y z = number_at (layer_at box z) x y

-- a pin or a ban in a layer
pub record LayerPin : Type 0 where
  pub layer : ℕ
  pub pin : Pin

-- the pin's layer is one of the box, and there the pin is held
pub record IsHeldIn (box : List Raster) (p : LayerPin) : Type 0 where
  pub layer_in : p.layer < length box
  pub held : IsHeld (layer_at box p.layer) p.pin

-- a box has as many layers as its frame says, each a legal map of tiles without holes and pins; each place and the
-- one above it are stacked; and each pin and ban is held
pub record IsLegalBox (set : TileSetView) (stacked : List (ℕ × ℕ)) (frame : Frame)
    (pins : List LayerPin) (box : List Raster) : Type 0 where
  pub deep : length box ≡ frame.depth
  pub layers : All (λ m. IsLegalTileMap set (layer_mask frame) frame.wrap [] m) box
  pub upon : (x y z : ℕ) → x < frame.width → y < frame.height → z + 1 < frame.depth
      → IsStacked stacked (number_in_box box x y z) (number_in_box box x y (z + 1))
  pub held : All (IsHeldIn box) pins

-- the number of a place, counted layer by layer, and within a layer row by row
abbrev pub box_cell : Frame → ℕ → ℕ → ℕ → ℕ
box_cell frame x y z = z * area frame + place_number frame.width x y

-- the pin's place lies in the box
pub record IsInBox (frame : Frame) (p : LayerPin) : Type 0 where
  pub column_in : p.pin.column < frame.width
  pub row_in : p.pin.row < frame.height
  pub layer_in : p.layer < frame.depth

-- each pin's place lies in the box
abbrev pub AreInBox : Frame → List LayerPin → Type 0
AreInBox frame pins = All (IsInBox frame) pins

-- the entries of an assignment for the places of a layer
abbrev pub layer_of : Frame → List ℕ → ℕ → List ℕ
layer_of frame a z = take (area frame) (drop (z * area frame) a)

-- the box that an assignment makes, layer by layer
abbrev pub box_of : Frame → List ℕ → List Raster
box_of frame a =
    map (λ z. raster_of frame.width frame.height (layer_of frame a z)) (range_with_len 0 frame.depth)

-- what a box has at the place with this number
abbrev pub number_of_place : Frame → List Raster → ℕ → ℕ
number_of_place frame box c =
    number_in_box box (c % area frame % frame.width) (c % area frame / frame.width) (c / area frame)

-- the assignment that a box is, place by place
abbrev pub numbers_of_box : Frame → List Raster → List ℕ
numbers_of_box frame box = map (number_of_place frame box) (range_with_len 0 (places_in frame))

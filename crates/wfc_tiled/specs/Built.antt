-- What is built of a tile set, a mask and the lines of a pins file: a problem, or the first fault.
use Rattle.std.specs.Prelude.{ℕ, ◌<◌, ◌*◌, ◌&&◌, nat_lt, Bool, List, length, map, is_some, Result, Ok, Err, if◌then◌else◌}
use Rattle.std.specs.Option.{ok_or, option_map}
use Rattle.wfc_outside.specs.Gives.{result_map}
use Rattle.wfc_model.specs.Legal.{Pin}
use Rattle.wfc_pins.specs.InOrder.{all_in_order}
use Rattle.wfc_pins.specs.PinView.{PinView}
use Rattle.wfc_pins.specs.declared.fault.BuildFault.{BuildFault}
use Rattle.wfc_pins.specs.declared.fault.BuildFault.TheVariants.{PinOutside, PinInHole, UnknownSymbol, TooLarge}
use Rattle.wfc_problem.specs.Network.{Network}
use Rattle.wfc_problem.specs.declared.TheConstants.{MAX_PAIRS}
use Rattle.wfc_places.specs.Steps.{place_number}
use Rattle.wfc_places.specs.Marks.{marked_pin}
use Rattle.wfc_tileset.specs.Tiles.{TileView, TileSetView, variant_of, variant_total}
use Rattle.wfc_tiled.specs.Mask.{MaskView, cell_number}
use Rattle.wfc_tiled.specs.Tiles.{problem_of_tiles}

-- the pin that a line means: its place has to be inside and no hole, and its symbol the spelling of a variant
abbrev pub tile_map_pin : List TileView → MaskView → PinView → Result Pin BuildFault
tile_map_pin tiles mask line =
    if nat_lt line.x mask.width && nat_lt line.y mask.height
    then (if is_some (cell_number mask (place_number mask.width line.x line.y))
    then ok_or (option_map (marked_pin line) (variant_of tiles line.symbol)) (UnknownSymbol line.line)
    else Err (PinInHole line.line))
    else Err (PinOutside line.line)

-- the pins that the lines mean, or the fault of the first line that has one
abbrev pub tile_map_pins : List TileView → MaskView → List PinView → Result (List Pin) BuildFault
tile_map_pins tiles mask lines = all_in_order (map (tile_map_pin tiles mask) lines)

-- how many pairs of a place and a variant there are
abbrev pub tile_pair_count : TileSetView → MaskView → ℕ
tile_pair_count set mask = length mask.places * variant_total set.tiles

-- the mask, but for too many pairs
abbrev pub roomy_mask : TileSetView → MaskView → Result MaskView BuildFault
roomy_mask set mask =
    if nat_lt MAX_PAIRS (tile_pair_count set mask) then Err (TooLarge (tile_pair_count set mask)) else Ok mask

-- the pins that the lines mean, but for too many pairs
abbrev pub checked_tile_map_pins : TileSetView → MaskView → List PinView → Result (List Pin) BuildFault
checked_tile_map_pins set mask lines =
    if nat_lt MAX_PAIRS (tile_pair_count set mask) then Err (TooLarge (tile_pair_count set mask))
    else tile_map_pins set.tiles mask lines

-- the problem of those pins, or the fault in their place
abbrev pub tile_map_problem : TileSetView → MaskView → Bool → List PinView → Result Network BuildFault
tile_map_problem set mask wrap lines =
    result_map (problem_of_tiles set mask wrap) (checked_tile_map_pins set mask lines)

-- there are too many pairs of a place and a variant
abbrev pub HasManyPairs : TileSetView → MaskView → Type 0
HasManyPairs set mask = MAX_PAIRS < tile_pair_count set mask

-- the fault that says how many there are
abbrev pub pair_fault : TileSetView → MaskView → BuildFault
pair_fault set mask = TooLarge (tile_pair_count set mask)

-- Small tile sets and masks without symmetry, on which laws try the definitions.
use Rattle.std.specs.Prelude.{ℕ, Bool, true, false, List, [], ◌∷◌, codes, None, Result, Err}
use Rattle.wfc_model.specs.Raster.{Raster, raster_of}
use Rattle.wfc_grid.specs.Grid.{GridView}
use Rattle.wfc_model.specs.Legal.{Pin}
use Rattle.wfc_pins.specs.PinView.{PinView}
use Rattle.wfc_pins.specs.declared.fault.BuildFault.{BuildFault}
use Rattle.wfc_pins.specs.declared.fault.BuildFault.TheVariants.{PinInHole, PinOutside, UnknownSymbol}
use Rattle.wfc_problem.specs.declared.TheConstants.{NO_CELL}
use Rattle.wfc_symmetry.specs.declared.class.Class.TheVariants.{I, X}
use Rattle.wfc_tileset.specs.Tiles.{TileSetView}
use Rattle.wfc_tileset.specs.declared.TheConstants.{HOLE}
use Rattle.wfc_tiled.specs.Mask.{MaskView}

-- three by two places, of which the second of the upper row and the third of the lower are holes
abbrev pub two_holes : MaskView
two_holes = record { width = 3; height = 2; places = 0 ∷ 2 ∷ 3 ∷ 4 ∷ [] }

-- a grid of three by two
abbrev pub three_by_two_grid : List ℕ → GridView
three_by_two_grid bytes = record { width = 3; height = 2; bytes = bytes }

-- a straight line of weight 3 and a cross of weight 5 that nothing may touch
abbrev pub line_and_cross : TileSetView
line_and_cross = record {
  tiles = record { name = codes "line"; class = I; weight = 3; picture = None }
      ∷ record { name = codes "x"; class = X; weight = 5; picture = None } ∷ [];
  pairs = [];
  pictures = [];
}

-- the line of a pins file with this number: a pin if the flag says so and else a ban, its column, its row, its symbol
abbrev pub tile_pin_line : ℕ → Bool → ℕ → ℕ → List ℕ → PinView
tile_pin_line number keep x y symbol = record { line = number; keep = keep; x = x; y = y; symbol = symbol }

-- lines for a map with two holes: the first two lie outside, the third in a hole, and there is no variant that
-- the last names
abbrev pub faulty_lines : List PinView
faulty_lines =
    tile_pin_line 1 true 3 0 (codes "y") ∷ tile_pin_line 2 true 0 2 (codes "x/0")
    ∷ tile_pin_line 3 false 2 1 (codes "y") ∷ tile_pin_line 4 true 0 0 (codes "x/1") ∷ []

-- their faults
abbrev pub faults_of_lines : List (Result (List Pin) BuildFault)
faults_of_lines =
    Err (PinOutside 1) ∷ Err (PinOutside 2) ∷ Err (PinInHole 3) ∷ Err (UnknownSymbol 4) ∷ []

-- two lines for the line and the cross: one that keeps the line's second variant, and one that bans the cross
abbrev pub kept_line_banned_cross : List PinView
kept_line_banned_cross =
    tile_pin_line 4 true 2 0 (codes "line/1") ∷ tile_pin_line 7 false 1 1 (codes "x/0") ∷ []

-- what lies beside each of the four places of a map with two holes that doesn't wrap
abbrev pub flat_neighbours : List ℕ
flat_neighbours =
    NO_CELL ∷ 2 ∷ NO_CELL ∷ NO_CELL ∷ NO_CELL ∷ NO_CELL ∷ NO_CELL ∷ NO_CELL
    ∷ NO_CELL ∷ NO_CELL ∷ 3 ∷ 0 ∷ 2 ∷ NO_CELL ∷ NO_CELL ∷ NO_CELL ∷ []

-- four by two places: the first two and the last of the upper row, and the last of the lower, are no holes
abbrev pub four_places : MaskView
four_places = record { width = 4; height = 2; places = 0 ∷ 1 ∷ 3 ∷ 7 ∷ [] }

-- four variants in them, and one number in the holes of the upper row
abbrev pub four_with : ℕ → ℕ → ℕ → ℕ → ℕ → Raster
four_with hole first second upper lower =
    raster_of 4 2 (first ∷ second ∷ hole ∷ upper ∷ HOLE ∷ HOLE ∷ HOLE ∷ lower ∷ [])

-- a tile without symmetry after action 5 to the left of a junction after a quarter turn, and further on a
-- junction above the tile
abbrev pub four_tiles : Raster
four_tiles = four_with HOLE 5 9 10 4

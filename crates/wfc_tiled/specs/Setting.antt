-- A tile set, a mask and pins, which the laws speak of together.
use Rattle.std.specs.Prelude.{◌≡◌, ℕ, ◌<◌, All, Bool, IsTrue, List, Some, length}
use Rattle.wfc_model.specs.Legal.{Pin}
use Rattle.wfc_model.specs.Raster.{Raster}
use Rattle.wfc_problem.specs.Assignment.{IsLegalAssignment}
use Rattle.wfc_problem.specs.Network.{Network, in_base, neighbour}
use Rattle.wfc_tileset.specs.Tiles.{TileSetView, variant_total}
use Rattle.wfc_tiled.specs.Maps.{ArePlaced, IsLegalTileMap}
use Rattle.wfc_tiled.specs.Mask.{MaskView}
use Rattle.wfc_tiled.specs.Subject.{HoldsPinAt, IsTileSupport, cell_column, cell_row}
use Rattle.wfc_tiled.specs.Tiles.{problem_of_tiles}

-- a tile set, a mask, whether the map wraps, and pins
pub record TileSetting : Type 0 where
  pub set : TileSetView
  pub mask : MaskView
  pub wrap : Bool
  pub pins : List Pin

-- the problem of them
abbrev pub problem_on : TileSetting → Network
problem_on s = problem_of_tiles s.set s.mask s.wrap s.pins

-- each pin's place is inside and no hole
abbrev pub ArePlacedOn : TileSetting → Type 0
ArePlacedOn s = ArePlaced s.mask s.pins

-- a tile map is legal
abbrev pub IsLegalOn : TileSetting → Raster → Type 0
IsLegalOn s m = IsLegalTileMap s.set s.mask s.wrap s.pins m

-- an assignment is legal for the problem
abbrev pub IsAssignedOn : TileSetting → List ℕ → Type 0
IsAssignedOn s a = IsLegalAssignment (problem_on s) a

-- in the problem cell m lies beside cell c in direction d
abbrev pub IsBesideOn : TileSetting → ℕ → ℕ → ℕ → Type 0
IsBesideOn s d c m = neighbour (problem_on s) c d ≡ Some m

-- in the problem the variant w may stand beside v in direction d
abbrev pub IsSupportOn : TileSetting → ℕ → ℕ → ℕ → Type 0
IsSupportOn s v d w = IsTileSupport s.set s.mask s.wrap s.pins v d w

-- the mask has such a cell, and the tile set such a variant
abbrev pub IsPairOn : TileSetting → ℕ → ℕ → Type 0
IsPairOn s c v = (c < length s.mask.places) × (v < variant_total s.set.tiles)

-- a variant is in the base of a cell
abbrev pub IsInBaseOn : TileSetting → ℕ → ℕ → Type 0
IsInBaseOn s c v = IsTrue (in_base (problem_on s) c v)

-- a variant at a cell holds each pin and ban
abbrev pub HoldsPinsOn : TileSetting → ℕ → ℕ → Type 0
HoldsPinsOn s c v = All (HoldsPinAt (cell_column s.mask c) (cell_row s.mask c) v) s.pins

-- The problem of a tile set in its own words: where a cell's place lies, and which pins a variant holds.
use Rattle.std.specs.Prelude.{◌≡◌, ◌≢◌, ℕ, ◌/◌, ◌%◌, Bool, Contains, List, MatchBool, slice_index}
use Rattle.wfc_model.specs.Legal.{Pin}
use Rattle.wfc_places.specs.Steps.{IsStepFrom}
use Rattle.wfc_problem.specs.Network.{supports_of}
use Rattle.wfc_tileset.specs.Allowed.{IsAcross, IsDown}
use Rattle.wfc_tileset.specs.Tiles.{TileSetView, variant_at}
use Rattle.wfc_tiled.specs.Mask.{MaskView}
use Rattle.wfc_tiled.specs.Tiles.{problem_of_tiles}

-- the column of a cell's place
abbrev pub cell_column : MaskView → ℕ → ℕ
cell_column mask c = slice_index mask.places c % mask.width

-- and its row
abbrev pub cell_row : MaskView → ℕ → ℕ
cell_row mask c = slice_index mask.places c / mask.width

-- from the place of cell c one step in direction d leads to the place of cell m
abbrev pub IsCellStep : MaskView → Bool → ℕ → ℕ → ℕ → Type 0
IsCellStep mask wrap d c m =
    IsStepFrom wrap mask.width mask.height d
    (cell_column mask c) (cell_row mask c) (cell_column mask m) (cell_row mask m)

-- in the problem of a tile set the variant w may stand beside v in direction d
abbrev pub IsTileSupport : TileSetView → MaskView → Bool → List Pin → ℕ → ℕ → ℕ → Type 0
IsTileSupport set mask wrap pins v d w =
    Contains (supports_of (problem_of_tiles set mask wrap pins) v d) w

-- the variant with the first number may stand to the left of that with the second
abbrev pub AreAcross : TileSetView → ℕ → ℕ → Type 0
AreAcross set left right = IsAcross set (variant_at set.tiles left) (variant_at set.tiles right)

-- the variant with the first number may stand above that with the second
abbrev pub AreDown : TileSetView → ℕ → ℕ → Type 0
AreDown set upper lower = IsDown set (variant_at set.tiles upper) (variant_at set.tiles lower)

-- a variant in a column and a row holds a pin: on the pin's own place it is the pin's, or another than a ban's
abbrev pub HoldsPinAt : ℕ → ℕ → ℕ → Pin → Type 0
HoldsPinAt x y v pin = pin.column ≡ x → pin.row ≡ y → MatchBool pin.keep (v ≡ pin.number) (v ≢ pin.number)

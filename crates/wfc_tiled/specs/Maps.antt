-- Legal tile maps, and how they are assignments of variants to places.
use Rattle.std.specs.Prelude.{◌≡◌, ℕ, ◌+◌, ◌*◌, ◌/◌, ◌%◌, ◌<◌, ◌⊎◌, Bool, true, List, map, All, Option, None, Some, slice_index}
use Rattle.std.specs.List.{range_with_len}
use Rattle.wfc_model.specs.Raster.{Raster, number_at, raster_of, IsSized}
use Rattle.wfc_model.specs.Legal.{Pin, IsHeld}
use Rattle.wfc_tileset.specs.Tiles.{TileSetView, variant_total, variant_at}
use Rattle.wfc_tileset.specs.Allowed.{IsAcross, IsDown}
use Rattle.wfc_problem.specs.Network.{IsProblem}
use Rattle.wfc_problem.specs.Assignment.{IsLegalAssignment}
use Rattle.wfc_tileset.specs.declared.TheConstants.{HOLE}
use Rattle.wfc_tiled.specs.Mask.{MaskView, IsPlace, cell_number}
use Rattle.wfc_tiled.specs.Tiles.{problem_of_tiles}

-- the column or row behind one: the next, or the first behind the last where the map wraps, which
-- may be that one itself
abbrev pub IsNext : ℕ → Bool → ℕ → ℕ → Type 0
IsNext count wrap at next = (next < count) × ((next ≡ at + 1) ⊎ ((wrap ≡ true) × (at + 1 ≡ count) × (next ≡ 0)))

-- a map of these sides has a variant at each place that is no hole, and none at a hole; neighbouring variants are
-- allowed, each pin and ban holds, and none stands in a hole
pub record IsLegalTileMap (set : TileSetView) (mask : MaskView) (wrap : Bool) (pins : List Pin)
    (m : Raster) : Type 0 where
  pub sized : IsSized m mask.width mask.height
  pub filled : (x y : ℕ) → x < mask.width → y < mask.height → IsPlace mask x y
      → number_at m x y < variant_total set.tiles
  pub holes : (x y : ℕ) → x < mask.width → y < mask.height → (IsPlace mask x y → ⊥) → number_at m x y ≡ HOLE
  pub across : (x y u : ℕ) → x < mask.width → y < mask.height → IsNext mask.width wrap x u
      → IsPlace mask x y → IsPlace mask u y
      → IsAcross set (variant_at set.tiles (number_at m x y)) (variant_at set.tiles (number_at m u y))
  pub down : (x y v : ℕ) → x < mask.width → y < mask.height → IsNext mask.height wrap y v
      → IsPlace mask x y → IsPlace mask x v
      → IsDown set (variant_at set.tiles (number_at m x y)) (variant_at set.tiles (number_at m x v))
  pub held : All (λ pin. IsPlace mask pin.column pin.row × IsHeld m pin) pins

-- the pin's place is inside and no hole
pub record IsPlaced (mask : MaskView) (pin : Pin) : Type 0 where
  pub column_in : pin.column < mask.width
  pub row_in : pin.row < mask.height
  pub place : IsPlace mask pin.column pin.row

-- each pin's place is inside and no hole
abbrev pub ArePlaced : MaskView → List Pin → Type 0
ArePlaced mask pins = All (IsPlaced mask) pins

-- what stands at a cell, or that there is none
abbrev pub number_of_cell : List ℕ → Option ℕ → ℕ
number_of_cell a None = HOLE
number_of_cell a (Some cell) = slice_index a cell

-- the numbers of the map that an assignment makes, row by row
abbrev pub numbers_of_cells : MaskView → List ℕ → List ℕ
numbers_of_cells mask a = map (λ n. number_of_cell a (cell_number mask n)) (range_with_len 0 (mask.width * mask.height))

-- the map that an assignment makes: each number in its place
abbrev pub tile_map : MaskView → List ℕ → Raster
tile_map mask a = raster_of mask.width mask.height (numbers_of_cells mask a)

-- the assignment that a map is: its number at each place that is no hole
abbrev pub numbers_of_places : MaskView → Raster → List ℕ
numbers_of_places mask m = map (λ n. number_at m (n % mask.width) (n / mask.width)) mask.places

-- the map is legal for each tile set and all pins for whose problem the assignment is
abbrev pub IsLegalMapWith : MaskView → List ℕ → Raster → Type 0
IsLegalMapWith mask a m =
    (set : TileSetView) (wrap : Bool) (pins : List Pin)
    → IsProblem (problem_of_tiles set mask wrap pins) → ArePlaced mask pins
    → IsLegalAssignment (problem_of_tiles set mask wrap pins) a → IsLegalTileMap set mask wrap pins m

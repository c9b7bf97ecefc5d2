-- Character grids: rows of printable ASCII, all of one length.
use Rattle.std.specs.Prelude.{ℕ, ◌&&◌, nat_le, Bool, List}
use Rattle.std.specs.List.{AllPass}
use Rattle.wfc_model.specs.Raster.{Raster, IsFilled, raster_of}

-- a grid: its sides, and its bytes row by row
pub record GridView : Type 0 where
  pub width : ℕ
  pub height : ℕ
  pub bytes : List ℕ

-- whether a byte may stand in a grid: those from the blank to the tilde may
abbrev pub is_grid_byte : ℕ → Bool
is_grid_byte byte = nat_le 0x20 byte && nat_le byte 0x7E

-- both sides are at least 1, there are as many bytes as they say, and each may stand in a grid
pub record IsGrid (grid : GridView) : Type 0 where
  pub filled : IsFilled grid.width grid.height grid.bytes
  pub printable : AllPass is_grid_byte grid.bytes

-- the grid as a picture of bytes
abbrev pub raster_of_grid : GridView → Raster
raster_of_grid grid = raster_of grid.width grid.height grid.bytes

-- What holds of the problem of a tile set that the code hands on, whatever the files are.
use Rattle.std.specs.Prelude.{List, Option, unwrap_or, ◌≡◌}
use Rattle.wfc_model.specs.Legal.{Pin}
use Rattle.wfc_problem.specs.Network.{Network}
use Rattle.wfc_tiled.specs.Maps.{ArePlaced}
use Rattle.wfc_tiled.specs.Mask.{MaskView, plain_mask}
use Rattle.wfc_tiled.specs.Tiles.{problem_of_tiles}
use Rattle.wfc_tileset.specs.Tiles.{TileSetView}
use Rattle.wfc_words.specs.RequestView.{RequestView}

-- the mask, or that without holes where there is none
abbrev pub mask_or_whole : RequestView → Option MaskView → MaskView
mask_or_whole asked mask = unwrap_or mask (plain_mask asked.width asked.height)

-- a mask has the sides of the map asked for
pub record HasSides (asked : RequestView) (mask : MaskView) : Type 0 where
  pub same_width : mask.width ≡ asked.width
  pub same_height : mask.height ≡ asked.height

-- the mask has the sides of the map, and the problem is that of these tiles on it, for some pins at
-- places that are no holes
pub record IsTilingTask (asked : RequestView) (set : TileSetView) (mask : MaskView) (P : Network) : Type 0 where
  pub same_width : mask.width ≡ asked.width
  pub same_height : mask.height ≡ asked.height
  pub pins : List Pin
  pub placed : ArePlaced mask pins
  pub problem : P ≡ problem_of_tiles set mask asked.wrap_out pins

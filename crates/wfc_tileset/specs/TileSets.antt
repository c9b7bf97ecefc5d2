-- What stands in a tile set, as its tables say it.
use Rattle.std.specs.Prelude.{◌≡◌, ◌<◌, ◌≤◌, Bool, true, List, length}
use Rattle.std.specs.List.{All}
use Rattle.wfc_tileset.specs.declared.variants.TheConstants.{MAX_VARIANTS}
use Rattle.wfc_tileset.specs.Tiles.{TileView, TileSetView, HasWeight, variant_total}
use Rattle.wfc_tileset.specs.Allowed.{across_pairs, down_pairs, ArePairs}
use Rattle.wfc_tileset.specs.Document.{fits_first}
use Rattle.wfc_tileset.specs.Numbers.{pair_table}
use Rattle.wfc_tileset.specs.Pictures.{IsDrawn}

-- each tile names a picture of the first tile's kind, or none where that one names none
abbrev pub AreAlike : List TileView → Type 0
AreAlike tiles = All (λ tile. fits_first tiles tile.picture ≡ true) tiles

-- a tile set has a tile and few enough variants, each tile has its weight and a picture as the
-- first, and each end of a pair
-- names a tile and an action
pub record IsTileSet (set : TileSetView) : Type 0 where
  pub some_tile : 0 < length set.tiles
  pub weighed : All HasWeight set.tiles
  pub alike : AreAlike set.tiles
  pub limit : variant_total set.tiles ≤ MAX_VARIANTS
  pub pairs : ArePairs set

-- the two tables of a tile set, whose pictures are in order
pub record HasClosedTables (set : TileSetView) (across down : List Bool) : Type 0 where
  pub across_is : across ≡ pair_table set.tiles (across_pairs set)
  pub down_is : down ≡ pair_table set.tiles (down_pairs set)
  pub tile_set : IsTileSet set
  pub drawn : IsDrawn set

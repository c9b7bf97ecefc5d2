-- The numbers of variants, tile by tile, and the tables of what is allowed, with a row for each variant.
use Rattle.std.specs.Prelude.{◌≡◌, ℕ, ◌+◌, ◌*◌, ◌<◌, ◌≤◌, Bool, true, false, List, length, map, take, fold, replicate, slice_set}
use Rattle.std.specs.List.{range_with_len}
use Rattle.wfc_tileset.specs.declared.variants.TheConstants.{MAX_VARIANTS}
use Rattle.wfc_tileset.specs.Tiles.{TileView, Variant, variants, variant_total, variants_of_tile, tile_at}

-- the number of a tile's first variant
abbrev pub tile_start : List TileView → ℕ → ℕ
tile_start tiles t = variant_total (take t tiles)

-- the number of a variant
abbrev pub variant_number : List TileView → Variant → ℕ
variant_number tiles v = tile_start tiles v.0 + v.1

-- a variant of the tiles
pub record IsVariant (tiles : List TileView) (v : Variant) : Type 0 where
  pub tile_in : v.0 < length tiles
  pub index_in : v.1 < variants_of_tile (tile_at tiles v.0)

-- a tile has this name, and a variant with this number
pub record IsNamed (tiles : List TileView) (name : List ℕ) (index tile : ℕ) : Type 0 where
  pub tile_in : tile < length tiles
  pub named : (tile_at tiles tile).name ≡ name
  pub index_in : index < variants_of_tile (tile_at tiles tile)

-- the variants of tiles in order, and the number of each tile's first one
pub record IsNumbered (tiles : List TileView) (list : List Variant) (first : List ℕ) : Type 0 where
  pub listed : list ≡ variants tiles
  pub begun : first ≡ map (tile_start tiles) (range_with_len 0 (length tiles))
  pub limit : variant_total tiles ≤ MAX_VARIANTS

-- where a table has the flag of two variants
abbrev pub flag_place : List TileView → Variant × Variant → ℕ
flag_place tiles p = variant_number tiles p.0 * variant_total tiles + variant_number tiles p.1

-- a table with one more flag set
abbrev pub with_flag : List TileView → List Bool → Variant × Variant → List Bool
with_flag tiles flags p = slice_set flags (flag_place tiles p) true

-- a table with the flags of all these pairs set
abbrev pub all_marked : List TileView → List Bool → List (Variant × Variant) → List Bool
all_marked tiles flags pairs = fold (with_flag tiles) flags pairs

-- the table that has the flags of these pairs and no others
abbrev pub pair_table : List TileView → List (Variant × Variant) → List Bool
pair_table tiles pairs = all_marked tiles (replicate (variant_total tiles * variant_total tiles) false) pairs

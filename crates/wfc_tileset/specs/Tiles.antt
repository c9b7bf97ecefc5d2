-- What a tile set is, as contracts see it: its tiles, the pairs that it declares, and its variants.
use Rattle.std.specs.Prelude.{◌≡◌, ℕ, ◌+◌, ◌<◌, ◌≤◌, List, [], ◌∷◌, ◌++◌, map, Option, None, position, slice_index_or}
use Rattle.std.specs.List.{range_with_len, sum_by}
use Rattle.std.specs.Str.{bytes_eq}
use Rattle.wfc_picture.specs.declared.symbol.Kind.{Kind}
use Rattle.wfc_picture.specs.declared.symbol.Symbol.{Symbol}
use Rattle.wfc_symmetry.specs.Class.{variant_count, variant_by_action}
use Rattle.wfc_symmetry.specs.declared.class.Class.{Class}
use Rattle.wfc_symmetry.specs.declared.class.Class.TheVariants.{X}
use Rattle.wfc_tileset.specs.declared.tile.Pair.{Pair}

-- a tile: its name, its class, how much each of its variants weighs in a draw, and the name of its
-- picture's file, if any
pub record TileView : Type 0 where
  pub name : List ℕ
  pub class : Class
  pub weight : ℕ
  pub picture : Option (List ℕ)

-- the tile's weight is 1 to 1,000,000
pub record HasWeight (tile : TileView) : Type 0 where
  pub some_weight : 1 ≤ tile.weight
  pub small_weight : tile.weight ≤ 1000000

-- a picture of a tile: what kind of file it is, how long its side is, and what its pixels show row by row
pub record PictureView : Type 0 where
  pub kind : Kind
  pub side : ℕ
  pub pixels : List Symbol

-- a tile set: its tiles, the declared pairs, of which one may stand to the left of the other, and
-- the pictures of the first
-- tiles, as many as are taken
pub record TileSetView : Type 0 where
  pub tiles : List TileView
  pub pairs : List Pair
  pub pictures : List PictureView

-- a variant: the number of its tile, and its own among the variants of that tile
abbrev pub Variant : Type 0
Variant = ℕ × ℕ

-- how many variants a tile has
abbrev pub variants_of_tile : TileView → ℕ
variants_of_tile tile = variant_count tile.class

-- a tile by its number, and one without a name where there is none
abbrev pub tile_at : List TileView → ℕ → TileView
tile_at tiles t = slice_index_or tiles t (record { name = []; class = X; weight = 0; picture = None })

-- the variants of the tiles, tile by tile, where the first tile has a number
abbrev pub variants_from : ℕ → List TileView → List Variant
variants_from t [] = []
variants_from t (tile ∷ tiles) =
    map (λ i. (t, i)) (range_with_len 0 (variants_of_tile tile)) ++ variants_from (t + 1) tiles

-- all variants, tile by tile
abbrev pub variants : List TileView → List Variant
variants tiles = variants_from 0 tiles

-- how many variants there are
abbrev pub variant_total : List TileView → ℕ
variant_total tiles = sum_by variants_of_tile tiles

-- a variant by its number
abbrev pub variant_at : List TileView → ℕ → Variant
variant_at tiles v = slice_index_or (variants tiles) v (0, 0)

-- what an action makes of a variant
abbrev pub moved_variant : List TileView → Variant → ℕ → Variant
moved_variant tiles v k = (v.0, variant_by_action (tile_at tiles v.0).class v.1 k)

-- what an action makes of each of two variants
abbrev pub moved_pair : List TileView → Variant → Variant → ℕ → Variant × Variant
moved_pair tiles v w k = (moved_variant tiles v k, moved_variant tiles w k)

-- how a variant is spelled: the name of its tile, a slash and its number among the variants of that tile
abbrev pub spelling : List TileView → Variant → List ℕ
spelling tiles v = (tile_at tiles v.0).name ++ 47 ∷ (48 + v.1) ∷ []

-- the number of the first variant that a word spells, if any
abbrev pub variant_of : List TileView → List ℕ → Option ℕ
variant_of tiles word = position (λ v. bytes_eq (spelling tiles v) word) (variants tiles)

-- the word spells the variant with this number
abbrev pub SpellsVariant : List TileView → List ℕ → ℕ → Type 0
SpellsVariant tiles word v = (v < variant_total tiles) × (spelling tiles (variant_at tiles v) ≡ word)

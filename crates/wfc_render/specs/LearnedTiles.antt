-- The text of a tile set: its variants, and which of them may stand beside each other.
use Rattle.std.specs.Prelude.{ℕ, Bool, List, [], ◌∷◌, ◌++◌, filter, length, codes, decimal, flat_map}
use Rattle.std.specs.List.{range_with_len, sum_by}
use Rattle.wfc_tileset.specs.Allowed.{may_be_above, may_be_left}
use Rattle.wfc_tileset.specs.Tiles.{TileSetView, spelling, tile_at, variant_at, variant_total}
use Rattle.wfc_render.specs.Numbers.{head_line}
use Rattle.wfc_render.specs.declared.tile_texts.Way.{Way}
use Rattle.wfc_render.specs.declared.tile_texts.Way.TheVariants.{Across, Down}

-- a variant: its number, its weight and its spelling
abbrev pub variant_line : TileSetView → ℕ → List ℕ
variant_line set v =
    decimal v ++ 0x20 ∷ (decimal (tile_at set.tiles (variant_at set.tiles v).0).weight
    ++ 0x3A ∷ 0x20 ∷ (spelling set.tiles (variant_at set.tiles v) ++ 10 ∷ []))

-- all variants
abbrev pub variants_text : TileSetView → List ℕ
variants_text set =
    head_line (codes "variants") (variant_total set.tiles)
    ++ flat_map (variant_line set) (range_with_len 0 (variant_total set.tiles))

-- whether the first of two variants may stand to the left of the second, or above it
abbrev pub is_allowed : Way → TileSetView → ℕ → ℕ → Bool
is_allowed Across set v w = may_be_left set v w
is_allowed Down set v w = may_be_above set v w

-- the variants that one may stand to the left of, or above, rising
abbrev pub allowed_behind : Way → TileSetView → ℕ → List ℕ
allowed_behind way set v = filter (is_allowed way set v) (range_with_len 0 (variant_total set.tiles))

-- a pair of variants
abbrev pub pair_line : ℕ → ℕ → List ℕ
pair_line v w = decimal v ++ 0x20 ∷ (decimal w ++ 10 ∷ [])

-- the pairs of a variant
abbrev pub pair_lines : Way → TileSetView → ℕ → List ℕ
pair_lines way set v = flat_map (pair_line v) (allowed_behind way set v)

-- how many pairs there are
abbrev pub pair_count : Way → TileSetView → ℕ
pair_count way set = sum_by (λ v. length (allowed_behind way set v)) (range_with_len 0 (variant_total set.tiles))

-- all pairs, rising by the first variant and then by the second, behind a word and their number
abbrev pub pairs_text : List ℕ → Way → TileSetView → List ℕ
pairs_text word way set =
    head_line word (pair_count way set)
    ++ flat_map (pair_lines way set) (range_with_len 0 (variant_total set.tiles))

-- how many tiles there are, the variants, the pairs of a left and a right one, and those of an upper and a lower one
abbrev pub learned_tiles_text : TileSetView → List ℕ
learned_tiles_text set =
    head_line (codes "tiles") (length set.tiles)
    ++ (variants_text set ++ (pairs_text (codes "across") Across set ++ pairs_text (codes "down") Down set))

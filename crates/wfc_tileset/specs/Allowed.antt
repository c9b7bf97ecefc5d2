-- Which variants may stand beside each other: what each declared pair allows under the eight actions, and nothing else.
use Rattle.std.specs.Prelude.{ℕ, ◌<◌, ◌==◌, ◌&&◌, Bool, List, [], ◌∷◌, Contains, length}
use Rattle.std.specs.List.{All, flat_map, list_any}
use Rattle.wfc_tileset.specs.declared.tile.End.{End}
use Rattle.wfc_tileset.specs.declared.tile.Pair.{Pair}
use Rattle.wfc_tileset.specs.Tiles.{TileView, TileSetView, Variant, moved_variant, variant_at}

-- the variant that one end of a declared pair names: an action on the first variant of its tile
abbrev pub named_variant : List TileView → End → Variant
named_variant tiles end = moved_variant tiles (end.tile, 0) end.turn

-- left and right, as a declared pair of variants allows them
abbrev pub pairs_beside : List TileView → Variant → Variant → List (Variant × Variant)
pairs_beside tiles left right =
    (left, right)
    ∷ (moved_variant tiles left 6, moved_variant tiles right 6)
    ∷ (moved_variant tiles right 4, moved_variant tiles left 4)
    ∷ (moved_variant tiles right 2, moved_variant tiles left 2)
    ∷ []

-- upper and lower, as the upper and the lower one of the pair allow them after a quarter turn
abbrev pub upright_pairs : List TileView → Variant → Variant → List (Variant × Variant)
upright_pairs tiles upper lower =
    (upper, lower)
    ∷ (moved_variant tiles lower 6, moved_variant tiles upper 6)
    ∷ (moved_variant tiles upper 4, moved_variant tiles lower 4)
    ∷ (moved_variant tiles lower 2, moved_variant tiles upper 2)
    ∷ []

-- the pairs of a left and a right variant that a declared pair allows
abbrev pub beside_by : List TileView → Pair → List (Variant × Variant)
beside_by tiles pair = pairs_beside tiles (named_variant tiles pair.left) (named_variant tiles pair.right)

-- the pairs of an upper and a lower variant that a declared pair allows: a quarter turn brings its right end up
abbrev pub stacked_by : List TileView → Pair → List (Variant × Variant)
stacked_by tiles pair =
    upright_pairs tiles (moved_variant tiles (named_variant tiles pair.right) 1) (moved_variant tiles (named_variant tiles pair.left) 1)

-- all allowed pairs of a left and a right variant
abbrev pub across_pairs : TileSetView → List (Variant × Variant)
across_pairs set = flat_map (beside_by set.tiles) set.pairs

-- all allowed pairs of an upper and a lower variant
abbrev pub down_pairs : TileSetView → List (Variant × Variant)
down_pairs set = flat_map (stacked_by set.tiles) set.pairs

-- the first variant may stand to the left of the second
abbrev pub IsAcross : TileSetView → Variant → Variant → Type 0
IsAcross set left right = Contains (across_pairs set) (left, right)

-- the first variant may stand above the second
abbrev pub IsDown : TileSetView → Variant → Variant → Type 0
IsDown set upper lower = Contains (down_pairs set) (upper, lower)

-- whether two variants are one
abbrev pub same_variant : Variant → Variant → Bool
same_variant v w = v.0 == w.0 && v.1 == w.1

-- whether a list of pairs has this one
abbrev pub has_pair : List (Variant × Variant) → Variant → Variant → Bool
has_pair pairs v w = list_any (λ p. same_variant p.0 v && same_variant p.1 w) pairs

-- whether the first of two variants, by their numbers, may stand to the left of the second
abbrev pub may_be_left : TileSetView → ℕ → ℕ → Bool
may_be_left set v w = has_pair (across_pairs set) (variant_at set.tiles v) (variant_at set.tiles w)

-- whether the first of two variants, by their numbers, may stand above the second
abbrev pub may_be_above : TileSetView → ℕ → ℕ → Bool
may_be_above set v w = has_pair (down_pairs set) (variant_at set.tiles v) (variant_at set.tiles w)

-- an end names a tile and one of the eight actions
pub record IsPairEnd (tiles : List TileView) (end : End) : Type 0 where
  pub tile_in : end.tile < length tiles
  pub turn_in : end.turn < 8

-- a pair of two ends, each of which names one of these tiles and an action
pub record IsPair (tiles : List TileView) (pair : Pair) : Type 0 where
  pub left_in : IsPairEnd tiles pair.left
  pub right_in : IsPairEnd tiles pair.right

-- each declared pair has two ends
abbrev pub ArePairs : TileSetView → Type 0
ArePairs set = All (IsPair set.tiles) set.pairs

-- What the tables of a tile set say.
use Rattle.std.proofs.Common.{◌≡◌, ℕ, ◌+◌, ◌*◌, ◌<◌, Bool, false, List, length, get_or, sym, ap, ◌∙◌, lit<}
use Rattle.std.specs.Prelude.{Contains, ◌↔◌, IsTrue}
use Rattle.wfc_tileset.specs.declared.tile.End.{End}
use Rattle.wfc_tileset.specs.Tiles.{TileView, TileSetView, Variant, variant_total, variant_at, moved_variant}
use Rattle.wfc_tileset.specs.Allowed.{named_variant, pairs_beside, upright_pairs, beside_by, stacked_by, across_pairs, down_pairs, IsAcross, IsDown, IsPairEnd, IsPair, ArePairs}
use Rattle.wfc_tileset.specs.Numbers.{IsVariant}
use Rattle.wfc_tileset.specs.TileSets.{HasClosedTables}
use Rattle.wfc_tileset.proofs.AllowedLemmas.{Inside_moved, Inside_named, of_four, All_at, flat_map-Contains}
use Rattle.wfc_tileset.proofs.MarkLemmas.{AreVariants, table_says, length-table_of}

-- ---- all that is allowed are variants

IsVariant_moved : (tiles : List TileView) (v : Variant) (k : ℕ) → IsVariant tiles v → k < 8 → IsVariant tiles (moved_variant tiles v k)
IsVariant_moved tiles v k is below = record { tile_in = is.tile_in; index_in = Inside_moved tiles v k is.index_in below }

IsVariant_named : (tiles : List TileView) (end : End) → IsPairEnd tiles end → IsVariant tiles (named_variant tiles end)
IsVariant_named tiles end is = record { tile_in = is.tile_in; index_in = Inside_named tiles end is }

are_moved : (tiles : List TileView) (v w : Variant) (k : ℕ) → IsVariant tiles v → IsVariant tiles w → k < 8 → AreVariants tiles (moved_variant tiles v k, moved_variant tiles w k)
are_moved tiles v w k at_v at_w below = record { first = IsVariant_moved tiles v k at_v below; second = IsVariant_moved tiles w k at_w below }

beside_variants : (tiles : List TileView) (l r : Variant) → IsVariant tiles l → IsVariant tiles r → (p : Variant × Variant) → Contains (pairs_beside tiles l r) p → AreVariants tiles p
beside_variants tiles l r at_l at_r p m =
    of_four (AreVariants tiles) _ _ _ _ p
    (record { first = at_l; second = at_r })
    (are_moved tiles l r 6 at_l at_r (lit< tt))
    (are_moved tiles r l 4 at_r at_l (lit< tt))
    (are_moved tiles r l 2 at_r at_l (lit< tt))
    m

stacked_variants : (tiles : List TileView) (u d : Variant) → IsVariant tiles u → IsVariant tiles d → (p : Variant × Variant) → Contains (upright_pairs tiles u d) p → AreVariants tiles p
stacked_variants tiles u d at_u at_d p m =
    of_four (AreVariants tiles) _ _ _ _ p
    (record { first = at_u; second = at_d })
    (are_moved tiles d u 6 at_d at_u (lit< tt))
    (are_moved tiles u d 4 at_u at_d (lit< tt))
    (are_moved tiles d u 2 at_d at_u (lit< tt))
    m

across_variants : (set : TileSetView) → ArePairs set → (p : Variant × Variant) → Contains (across_pairs set) p → AreVariants set.tiles p
across_variants set pairs p m =
    let found = flat_map-Contains (beside_by set.tiles) set.pairs p m in
    let is = All_at (IsPair set.tiles) set.pairs found.0 pairs found.1 in
    beside_variants set.tiles (named_variant set.tiles found.0.left) (named_variant set.tiles found.0.right)
    (IsVariant_named set.tiles found.0.left is.left_in) (IsVariant_named set.tiles found.0.right is.right_in) p found.2

down_variants : (set : TileSetView) → ArePairs set → (p : Variant × Variant) → Contains (down_pairs set) p → AreVariants set.tiles p
down_variants set pairs p m =
    let found = flat_map-Contains (stacked_by set.tiles) set.pairs p m in
    let is = All_at (IsPair set.tiles) set.pairs found.0 pairs found.1 in
    stacked_variants set.tiles (moved_variant set.tiles (named_variant set.tiles found.0.right) 1) (moved_variant set.tiles (named_variant set.tiles found.0.left) 1)
    (IsVariant_moved set.tiles (named_variant set.tiles found.0.right) 1 (IsVariant_named set.tiles found.0.right is.right_in) (lit< tt))
    (IsVariant_moved set.tiles (named_variant set.tiles found.0.left) 1 (IsVariant_named set.tiles found.0.left is.left_in) (lit< tt))
    p found.2

-- ---- the tables

pub length-across : (set : TileSetView) (across down : List Bool) → HasClosedTables set across down → length across ≡ variant_total set.tiles * variant_total set.tiles
length-across set across down is = ap length is.across_is ∙ length-table_of set.tiles (across_pairs set)

pub length-down : (set : TileSetView) (across down : List Bool) → HasClosedTables set across down → length down ≡ variant_total set.tiles * variant_total set.tiles
length-down set across down is = ap length is.down_is ∙ length-table_of set.tiles (down_pairs set)

pub across_says : (set : TileSetView) (across down : List Bool) (a b : ℕ) (r : Bool) → HasClosedTables set across down
    → r ≡ get_or across (a * variant_total set.tiles + b) false → a < variant_total set.tiles → b < variant_total set.tiles
    → IsTrue r ↔ IsAcross set (variant_at set.tiles a) (variant_at set.tiles b)
across_says set across down a b r is e in_a in_b =
    let says = table_says set.tiles (across_pairs set) a b in_a in_b (across_variants set is.tile_set.pairs) in
    let read = e ∙ ap (λ (flags : List Bool). get_or flags (a * variant_total set.tiles + b) false) is.across_is in
    (λ on. says.0 (sym read ∙ on), λ there. read ∙ says.1 there)

pub down_says : (set : TileSetView) (across down : List Bool) (a b : ℕ) (r : Bool) → HasClosedTables set across down
    → r ≡ get_or down (a * variant_total set.tiles + b) false → a < variant_total set.tiles → b < variant_total set.tiles
    → IsTrue r ↔ IsDown set (variant_at set.tiles a) (variant_at set.tiles b)
down_says set across down a b r is e in_a in_b =
    let says = table_says set.tiles (down_pairs set) a b in_a in_b (down_variants set is.tile_set.pairs) in
    let read = e ∙ ap (λ (flags : List Bool). get_or flags (a * variant_total set.tiles + b) false) is.down_is in
    (λ on. says.0 (sym read ∙ on), λ there. read ∙ says.1 there)

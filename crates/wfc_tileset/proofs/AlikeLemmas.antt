-- Tiles that name pictures as the first one does.
use Rattle.std.proofs.Common.{◌≡◌, ℕ, Bool, true, false, not, List, [], ◌∷◌, ◌++◌, Option, None, Some, refl, arith, if◌then◌else◌}
use Rattle.std.proofs.lemmas.List.Elements.{All-push}
use Rattle.wfc_tileset.specs.Document.{fits_first, is_ppm_name, same_kind}
use Rattle.wfc_tileset.specs.Tiles.{TileView}
use Rattle.wfc_tileset.specs.TileSets.{AreAlike}

-- a tile is as itself
as_itself : (picture : Option (List ℕ)) → same_kind picture picture ≡ true
as_itself None = refl
as_itself (Some name) = by (is_ppm_name name)
  where
    by : (b : Bool) → (if b then b else not b) ≡ true
    by true = refl
    by false = refl

-- one tile more that is as the first
pub alike_more : (tiles : List TileView) (tile : TileView) → AreAlike tiles → fits_first tiles tile.picture ≡ true → AreAlike (tiles ++ tile ∷ [])
alike_more [] tile alike fits = All-push (λ (t : TileView). same_kind tile.picture t.picture ≡ true) [] tile (λ k d within. absurd (omega arith)) (as_itself tile.picture)
alike_more (first ∷ tiles) tile alike fits = All-push (λ (t : TileView). same_kind first.picture t.picture ≡ true) (first ∷ tiles) tile alike fits

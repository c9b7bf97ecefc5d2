-- A map of variants and holes is written.
use Rattle.std.proofs.Common.{◌≡◌, ℕ, ◌≤◌, List, ◌⊎◌, sym, subst, ◌∙◌, arith}
use Rattle.std.specs.Prelude.{All}
use Rattle.wfc_model.specs.Raster.{IsFilled, raster_of}
use Rattle.wfc_model.proofs.CallerLemmas.{IsSized-raster_of, numbers_of-raster_of}
use Rattle.wfc_picture.specs.declared.symbol.Kind.TheVariants as kinds
use Rattle.wfc_tileset.specs.Pictures.{IsPictured, kind_of}
use Rattle.wfc_tileset.specs.Tiles.{TileSetView}
use Rattle.wfc_render.specs.Layout.{IsLayout}
use Rattle.wfc_render.specs.Tiled.{IsTiled, IsVariantOrHole}
use Rattle.wfc_render.specs.declared.form.Layout.{Layout}
use Rattle.wfc_model.specs.declared.TheConstants.{MAX_OUTPUT_SIDE}

-- numbers of variants and holes make a map that is written in a layout of its sides
pub written_tiles : (set : TileSetView) (w h : ℕ) (numbers : List ℕ) (l : Layout) → IsFilled w h numbers → w ≤ MAX_OUTPUT_SIDE → h ≤ MAX_OUTPUT_SIDE → All (IsVariantOrHole set) numbers
    → IsLayout l → l.kind ≡ kind_of set.pictures → l.width ≡ w → l.height ≡ h → (l.kind ≡ kinds.Plain) ⊎ IsPictured set → IsTiled l set (raster_of w h numbers)
written_tiles set w h numbers l filled short low placed answered kind wide high pictured =
    let sized = IsSized-raster_of w h numbers filled in
    record {
      answered = answered;
      width_limit = omega (arith, wide, short);
      height_limit = omega (arith, high, low);
      same_kind = kind;
      pictured = pictured;
      sized = record { raster = sized.raster; same_width = sized.same_width ∙ sym wide; same_height = sized.same_height ∙ sym high };
      numbers = subst (All (IsVariantOrHole set)) (sym (numbers_of-raster_of w h numbers filled.as_many)) placed;
    }

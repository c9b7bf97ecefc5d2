-- Which boxes are written.
use Rattle.std.specs.Prelude.{◌≡◌, ◌⊎◌, ℕ, ◌*◌, ◌<◌, ◌≤◌, List, length, All, Ok, Some}
use Rattle.wfc_model.specs.declared.TheConstants.{MAX_OUTPUT_SIDE}
use Rattle.wfc_picture.specs.declared.symbol.Kind.TheVariants as kinds
use Rattle.wfc_render.specs.declared.form.Form.{Form}
use Rattle.wfc_render.specs.declared.form.Layout.{Layout}
use Rattle.wfc_tileset.specs.Pictures.{IsPictured, kind_of, side_of}
use Rattle.wfc_tileset.specs.Tiles.{TileSetView, variant_total}
use Rattle.wfc_box.specs.BoxText.{box_layout_of}
use Rattle.wfc_box.specs.declared.layouts.TheConstants.{MAX_DEPTH}

-- a variant for each place of a box with sides within the limits, in the form of its layout, where all pictures of the
-- tiles are taken, or none
pub record IsWrittenBox (form : Form) (set : TileSetView) (width height depth : ℕ) (a : List ℕ) : Type 0 where
  pub some_width : 0 < width
  pub some_height : 0 < height
  pub some_depth : 0 < depth
  pub width_limit : width ≤ MAX_OUTPUT_SIDE
  pub height_limit : height ≤ MAX_OUTPUT_SIDE
  pub depth_limit : depth ≤ MAX_DEPTH
  pub answered : box_layout_of (kind_of set.pictures) (Some form) width height depth (side_of set.pictures) ≡ Ok form
  pub pictured : (kind_of set.pictures ≡ kinds.Plain) ⊎ IsPictured set
  pub each_cell : length a ≡ depth * (width * height)
  pub numbers : All (λ v. v < variant_total set.tiles) a

-- the layout of a layer in a form
abbrev pub layer_layout : Form → TileSetView → ℕ → ℕ → Layout
layer_layout form set width height = record {
  kind = kind_of set.pictures;
  form = form;
  width = width;
  height = height;
  side = side_of set.pictures;
}

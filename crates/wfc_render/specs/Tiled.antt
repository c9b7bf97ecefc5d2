-- The text of a map of tiles.
use Rattle.std.specs.Prelude.{◌≡◌, ◌⊎◌, ℕ, ◌*◌, ◌<◌, ◌≤◌, ◌==◌, List, [], ◌∷◌, ◌++◌, codes, decimal, flat_map, map, All, if◌then◌else◌}
use Rattle.std.specs.List.{range_with_len}
use Rattle.wfc_grid.specs.Spelling.{grid_text}
use Rattle.wfc_model.specs.Raster.{Raster, IsSized, height_of, numbers_of}
use Rattle.wfc_picture.specs.declared.symbol.Kind.TheVariants as kinds
use Rattle.wfc_picture.specs.declared.symbol.Symbol.{Symbol}
use Rattle.wfc_picture.specs.declared.symbol.Symbol.TheVariants.{Char}
use Rattle.wfc_ppm.specs.Ppm.{PpmView, p3_text, p6_text}
use Rattle.wfc_tileset.specs.declared.TheConstants.{HOLE}
use Rattle.wfc_tileset.specs.Pictures.{IsPictured, kind_of, pixel_at, side_of}
use Rattle.wfc_tileset.specs.Tiles.{TileSetView, variant_total}
use Rattle.wfc_render.specs.Layout.{IsLayout}
use Rattle.wfc_render.specs.Map.{byte_of, colour_of, maxval_of}
use Rattle.wfc_render.specs.declared.form.Form.{Form}
use Rattle.wfc_render.specs.declared.form.Form.TheVariants.{P6, P3, Grid, Cells}
use Rattle.wfc_render.specs.declared.form.Layout.{Layout}
use Rattle.wfc_model.specs.declared.TheConstants.{MAX_OUTPUT_SIDE}

-- what a variant, by its number, shows in column i of row j, and a blank, which is black among colours, for a hole
abbrev pub shown_at : TileSetView → ℕ → ℕ → ℕ → Symbol
shown_at set j number i = if number == HOLE then Char 0x20 else pixel_at set number i j

-- row j of what a place shows
abbrev pub shown_row : TileSetView → ℕ → ℕ → List Symbol
shown_row set j number = map (shown_at set j number) (range_with_len 0 (side_of set.pictures))

-- row j of what the places with these numbers show, side by side
abbrev pub pixel_row : TileSetView → List ℕ → ℕ → List Symbol
pixel_row set numbers j = flat_map (shown_row set j) numbers

-- the rows of pixels of a row of places
abbrev pub pixel_rows : TileSetView → List ℕ → List (List Symbol)
pixel_rows set numbers = map (pixel_row set numbers) (range_with_len 0 (side_of set.pictures))

-- the rows of pixels of a map
abbrev pub all_rows : TileSetView → Raster → List (List Symbol)
all_rows set m = flat_map (pixel_rows set) m.rows

-- a map as a picture of colours
abbrev pub tiled_picture : TileSetView → Raster → PpmView
tiled_picture set m = record {
  width = m.width * side_of set.pictures;
  height = height_of m * side_of set.pictures;
  maxval = maxval_of (kind_of set.pictures);
  pixels = flat_map (map colour_of) (all_rows set m);
}

-- the number of a variant, and a hyphen for a hole
abbrev pub variant_word : ℕ → List ℕ
variant_word number = if number == HOLE then codes "-" else decimal number

-- these with one blank between each two
abbrev pub spaced_cells : List ℕ → List ℕ
spaced_cells [] = []
spaced_cells (n ∷ numbers) = variant_word n ++ flat_map (λ n. 0x20 ∷ variant_word n) numbers

-- the text of a map in a form: a picture of colours, row by row the bytes of its pixels, or its numbers
abbrev pub tiles_in : Form → TileSetView → Raster → List ℕ
tiles_in P6 set m = p6_text (tiled_picture set m)
tiles_in P3 set m = p3_text (tiled_picture set m)
tiles_in Grid set m = grid_text (map (map byte_of) (all_rows set m))
tiles_in Cells set m = grid_text (map spaced_cells m.rows)

-- the text of a map of variants
abbrev pub tile_text : Layout → TileSetView → Raster → List ℕ
tile_text layout set m = tiles_in layout.form set m

-- a variant of the tile set, or a hole
abbrev pub IsVariantOrHole : TileSetView → ℕ → Type 0
IsVariantOrHole set number = (number < variant_total set.tiles) ⊎ (number ≡ HOLE)

-- a map of variants in a layout of its tile set's pictures, all of which are taken where they are to be shown
pub record IsTiled (layout : Layout) (set : TileSetView) (m : Raster) : Type 0 where
  pub answered : IsLayout layout
  pub width_limit : layout.width ≤ MAX_OUTPUT_SIDE
  pub height_limit : layout.height ≤ MAX_OUTPUT_SIDE
  pub same_kind : layout.kind ≡ kind_of set.pictures
  pub pictured : (layout.kind ≡ kinds.Plain) ⊎ IsPictured set
  pub sized : IsSized m layout.width layout.height
  pub numbers : All (IsVariantOrHole set) (numbers_of m)

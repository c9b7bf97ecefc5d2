-- Pictures of tiles: what files make, and what stands in their columns and rows.
use Rattle.std.proofs.Common.{◌≡◌, ℕ, ◌+◌, ◌*◌, ◌<◌, true, length, map, sym, ap, ◌∙◌, arith}
use Rattle.std.proofs.lemmas.Bool.{and_parts, eqb-true, leb-true}
use Rattle.std.proofs.lemmas.List.{length-map}
use Rattle.std.proofs.lemmas.List.Elements.{All-map}
use Rattle.std.proofs.lemmas.Nat.{mul-add-lt}
use Rattle.wfc_grid.specs.Grid.{GridView, IsGrid}
use Rattle.wfc_picture.specs.declared.symbol.Kind.TheVariants as kinds
use Rattle.wfc_picture.specs.declared.symbol.Symbol.TheVariants.{Char, Rgb}
use Rattle.wfc_ppm.specs.Ppm.{PpmView, IsPpm}
use Rattle.wfc_tileset.specs.declared.picture.TheConstants.{MAX_TILE_SIDE}
use Rattle.wfc_tileset.specs.Pictures.{IsPicture, is_tile_size}
use Rattle.wfc_tileset.specs.Shown.{is_of_kind}
use Rattle.wfc_tileset.specs.Tiles.{PictureView}

-- a grid of the size of a tile's picture is one
pub grid_picture : (grid : GridView) → IsGrid grid → is_tile_size grid.width grid.height ≡ true
    → IsPicture (record { kind = kinds.Grid; side = grid.width; pixels = map (λ byte. Char byte) grid.bytes })
grid_picture grid is sized =
    let parts = and_parts _ _ sized in
    record {
      filled = record {
        some_column = is.filled.some_column;
        some_row = is.filled.some_column;
        as_many = length-map grid.bytes (λ byte. Char byte) ∙ is.filled.as_many ∙ ap (λ h. grid.width * h) (sym (eqb-true grid.width grid.height parts.0));
      };
      limit = leb-true grid.width MAX_TILE_SIDE parts.1;
      shown = All-map (λ symbol. is_of_kind kinds.Grid symbol ≡ true) (λ byte. Char byte) grid.bytes is.printable;
    }

-- a picture of colours of that size is one
pub ppm_picture : (ppm : PpmView) → IsPpm ppm → is_tile_size ppm.width ppm.height ≡ true
    → IsPicture (record { kind = kinds.Ppm ppm.maxval; side = ppm.width; pixels = map (λ colour. Rgb colour) ppm.pixels })
ppm_picture ppm is sized =
    let parts = and_parts _ _ sized in
    record {
      filled = record {
        some_column = is.filled.some_column;
        some_row = is.filled.some_column;
        as_many = length-map ppm.pixels (λ colour. Rgb colour) ∙ is.filled.as_many ∙ ap (λ h. ppm.width * h) (sym (eqb-true ppm.width ppm.height parts.0));
      };
      limit = leb-true ppm.width MAX_TILE_SIDE parts.1;
      shown = All-map (λ symbol. is_of_kind (kinds.Ppm ppm.maxval) symbol ≡ true) (λ colour. Rgb colour) ppm.pixels is.samples;
    }

-- a column of a row lies within the pixels
pub pixel_below : (picture : PictureView) (x y : ℕ) → IsPicture picture → x < picture.side → y < picture.side → y * picture.side + x < length picture.pixels
pixel_below picture x y is in_x in_y = omega (arith, mul-add-lt y picture.side x picture.side in_y in_x, is.filled.as_many)

-- A map of tiles that is written pixel by pixel.
use Rattle.std.specs.Prelude.{ℕ, ◌*◌, List, [], ◌∷◌, ◌++◌, flat_map}
use Rattle.std.specs.List.{range_with_len}
use Rattle.wfc_model.specs.Raster.{Raster, height_of}
use Rattle.wfc_picture.specs.declared.symbol.Symbol.{Symbol}
use Rattle.wfc_tileset.specs.Pictures.{kind_of, side_of}
use Rattle.wfc_tileset.specs.Tiles.{TileSetView}
use Rattle.wfc_render.specs.Colours.{picture_head, drawn_pixel}
use Rattle.wfc_render.specs.Map.{byte_of, colour_of, maxval_of}
use Rattle.wfc_render.specs.Tiled.{shown_at}
use Rattle.wfc_render.specs.declared.form.Form.{Form}
use Rattle.wfc_render.specs.declared.form.Form.TheVariants.{Grid}

-- what stands before all rows
abbrev pub start_in : Form → TileSetView → Raster → List ℕ
start_in Grid set m = []
start_in form set m =
    picture_head form (m.width * side_of set.pictures) (height_of m * side_of set.pictures)
    (maxval_of (kind_of set.pictures))

-- a pixel
abbrev pub symbol_in : Form → ℕ → Symbol → List ℕ
symbol_in Grid maxval symbol = byte_of symbol ∷ []
symbol_in form maxval symbol = drawn_pixel form maxval (colour_of symbol)

-- what stands behind a row
abbrev pub row_end : Form → List ℕ
row_end Grid = 10 ∷ []
row_end form = []

-- row j of a place
abbrev pub drawn_place : Form → TileSetView → ℕ → ℕ → List ℕ
drawn_place form set j number =
    flat_map (λ i. symbol_in form (maxval_of (kind_of set.pictures)) (shown_at set j number i))
    (range_with_len 0 (side_of set.pictures))

-- row j of a row of places
abbrev pub drawn_line : Form → TileSetView → List ℕ → ℕ → List ℕ
drawn_line form set numbers j = flat_map (drawn_place form set j) numbers ++ row_end form

-- the rows of a row of places
abbrev pub drawn_lines : Form → TileSetView → List ℕ → List ℕ
drawn_lines form set numbers = flat_map (drawn_line form set numbers) (range_with_len 0 (side_of set.pictures))

-- all rows
abbrev pub drawn_text : Form → TileSetView → Raster → List ℕ
drawn_text form set m = start_in form set m ++ flat_map (drawn_lines form set) m.rows

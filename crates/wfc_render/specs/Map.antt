-- The text of a map.
use Rattle.std.specs.Prelude.{◌≡◌, ℕ, ◌<◌, List, length, map, All, slice_index_or}
use Rattle.std.specs.List.{AllPass}
use Rattle.wfc_grid.specs.Spelling.{grid_text}
use Rattle.wfc_model.specs.Raster.{Raster, IsSized, height_of, numbers_of}
use Rattle.wfc_picture.specs.declared.symbol.Colour.{Colour}
use Rattle.wfc_picture.specs.declared.symbol.Kind.{Kind}
use Rattle.wfc_picture.specs.declared.symbol.Kind.TheVariants as kinds
use Rattle.wfc_picture.specs.declared.symbol.Symbol.{Symbol}
use Rattle.wfc_picture.specs.declared.symbol.Symbol.TheVariants.{Char, Rgb}
use Rattle.wfc_ppm.specs.Ppm.{PpmView, p3_text, p6_text}
pub use Rattle.wfc_tileset.specs.Shown.{is_of_kind}
use Rattle.wfc_render.specs.Layout.{IsLayout}
use Rattle.wfc_render.specs.Numbers.{spaced_numbers}
use Rattle.wfc_render.specs.declared.form.Form.{Form}
use Rattle.wfc_render.specs.declared.form.Form.TheVariants.{P6, P3, Grid, Cells}
use Rattle.wfc_render.specs.declared.form.Layout.{Layout}

-- the symbol with a number, and a blank where there is none
abbrev pub symbol_at : List Symbol → ℕ → Symbol
symbol_at palette number = slice_index_or palette number (Char 0x20)

-- the byte of a character, and a blank for a colour
abbrev pub byte_of : Symbol → ℕ
byte_of (Char byte) = byte
byte_of (Rgb colour) = 0x20

-- the bytes of the symbols with these numbers
abbrev pub symbol_bytes : List Symbol → List ℕ → List ℕ
symbol_bytes palette numbers = map (λ number. byte_of (symbol_at palette number)) numbers

-- the colour of a symbol, and black for a character
abbrev pub colour_of : Symbol → Colour
colour_of (Char byte) = record { r = 0; g = 0; b = 0 }
colour_of (Rgb colour) = colour

-- the colours of the symbols with these numbers
abbrev pub symbol_colours : List Symbol → List ℕ → List Colour
symbol_colours palette numbers = map (λ number. colour_of (symbol_at palette number)) numbers

-- the greatest sample of a kind; 0 for the kinds that have no colours
abbrev pub maxval_of : Kind → ℕ
maxval_of kinds.Grid = 0
maxval_of (kinds.Ppm maxval) = maxval
maxval_of kinds.Plain = 0

-- a map as a picture of colours
abbrev pub coloured_map : ℕ → List Symbol → Raster → PpmView
coloured_map maxval palette m = record {
  width = m.width;
  height = height_of m;
  maxval = maxval;
  pixels = symbol_colours palette (numbers_of m);
}

-- the text of a map in a form: a picture of colours, row by row the bytes of its symbols, or its
-- numbers with one blank between each two
abbrev pub raster_text : Kind → Form → List Symbol → Raster → List ℕ
raster_text kind P6 palette m = p6_text (coloured_map (maxval_of kind) palette m)
raster_text kind P3 palette m = p3_text (coloured_map (maxval_of kind) palette m)
raster_text kind Grid palette m = grid_text (map (symbol_bytes palette) m.rows)
raster_text kind Cells palette m = grid_text (map spaced_numbers m.rows)

-- the text of a map of palette numbers
abbrev pub map_text : Layout → List Symbol → Raster → List ℕ
map_text layout palette m = raster_text layout.kind layout.form palette m

-- a map of pixels, whose numbers are of a palette of symbols of its layout's kind
pub record IsWritten (layout : Layout) (palette : List Symbol) (m : Raster) : Type 0 where
  pub answered : IsLayout layout
  pub pixels : layout.side ≡ 1
  pub kind : AllPass (is_of_kind layout.kind) palette
  pub some_symbol : 0 < length palette
  pub sized : IsSized m layout.width layout.height
  pub numbers : All (λ number. number < length palette) (numbers_of m)

-- Maps of colours, pixel by pixel.
use Rattle.std.specs.Prelude.{ℕ, List, ◌++◌, codes, flat_map}
use Rattle.wfc_picture.specs.declared.symbol.Colour.{Colour}
use Rattle.wfc_picture.specs.declared.symbol.Symbol.{Symbol}
use Rattle.wfc_ppm.specs.Ppm.{PpmView, head_lines, p3_text, p6_text, pixel_bytes, pixel_line}
use Rattle.wfc_render.specs.Map.{symbol_colours}
use Rattle.wfc_render.specs.declared.form.Form.{Form}
use Rattle.wfc_render.specs.declared.form.Form.TheVariants.{P3}

-- the text of a picture in decimal, else raw
abbrev pub ppm_text : Form → PpmView → List ℕ
ppm_text P3 ppm = p3_text ppm
ppm_text _ ppm = p6_text ppm

-- what stands before the pixels
abbrev pub picture_head : Form → ℕ → ℕ → ℕ → List ℕ
picture_head P3 width height maxval = codes "P3\n" ++ head_lines width height maxval
picture_head _ width height maxval = codes "P6\n" ++ head_lines width height maxval

-- a pixel
abbrev pub drawn_pixel : Form → ℕ → Colour → List ℕ
drawn_pixel P3 maxval colour = pixel_line colour
drawn_pixel _ maxval colour = pixel_bytes maxval colour

-- the pixels of these numbers
abbrev pub pixels_in : Form → ℕ → List Symbol → List ℕ → List ℕ
pixels_in form maxval palette numbers = flat_map (drawn_pixel form maxval) (symbol_colours palette numbers)

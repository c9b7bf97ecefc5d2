-- Maps of colours that are written pixel by pixel.
use Rattle.std.proofs.Common.{◌≡◌, ℕ, ◌+◌, ◌<◌, ◌≤◌, List, [], ◌∷◌, ◌++◌, length, take, get_or, true, Some, Ok, codes, flat_map, refl, ap, sym, ◌∙◌, subst, append_assoc, append-nil}
use Rattle.std.proofs.lemmas.List.{take_all, take_more, map-append}
use Rattle.std.proofs.lemmas.List.Elements.{All-get_or}
use Rattle.std.proofs.lemmas.Grind.{flat_map-append}
use Rattle.std.specs.List.{AllPass, concat}
use Rattle.wfc_picture.specs.declared.symbol.Colour.{Colour}
use Rattle.wfc_picture.specs.declared.symbol.Kind.{Kind}
use Rattle.wfc_picture.specs.declared.symbol.Kind.TheVariants as kinds
use Rattle.wfc_picture.specs.declared.symbol.Symbol.{Symbol}
use Rattle.wfc_picture.specs.declared.symbol.Symbol.TheVariants.{Char, Rgb}
use Rattle.wfc_ppm.specs.Ppm.{PpmView, channels, head_lines, is_within, p6_text, pixel_bytes, pixel_line, raw_bytes, sample_bytes, samples_of}
use Rattle.wfc_model.specs.Raster.{Raster, height_of}
use Rattle.wfc_render.specs.Colours.{picture_head, drawn_pixel, pixels_in, ppm_text}
use Rattle.wfc_render.specs.Layout.{layout_of}
use Rattle.wfc_render.specs.Map.{IsWritten, colour_of, coloured_map, symbol_colours, is_of_kind, maxval_of, symbol_at, raster_text}
use Rattle.wfc_render.specs.declared.form.Form.{Form}
use Rattle.wfc_render.specs.declared.form.Form.TheVariants.{P6, P3, Grid, Cells}
use Rattle.wfc_render.specs.declared.form.Layout.{Layout}

-- the bytes of all samples are those of the pixels
raw_pixels : (maxval : ℕ) (pixels : List Colour) → raw_bytes maxval pixels ≡ flat_map (pixel_bytes maxval) pixels
raw_pixels maxval [] = refl
raw_pixels maxval (p ∷ pixels) = flat_map-append (sample_bytes maxval) (channels p) (samples_of pixels) ∙ ap (λ t. pixel_bytes maxval p ++ t) (raw_pixels maxval pixels)

-- a raw text is its head and its pixels
raw_parts : (ppm : PpmView) → p6_text ppm ≡ (codes "P6\n" ++ head_lines ppm.width ppm.height ppm.maxval) ++ flat_map (pixel_bytes ppm.maxval) ppm.pixels
raw_parts ppm =
    ap (λ t. codes "P6\n" ++ (head_lines ppm.width ppm.height ppm.maxval ++ t)) (raw_pixels ppm.maxval ppm.pixels)
    ∙ sym (append_assoc (codes "P6\n") (head_lines ppm.width ppm.height ppm.maxval) (flat_map (pixel_bytes ppm.maxval) ppm.pixels))

-- a text is its head and its pixels
pub ppm_parts : (form : Form) (ppm : PpmView) → ppm_text form ppm ≡ picture_head form ppm.width ppm.height ppm.maxval ++ flat_map (drawn_pixel form ppm.maxval) ppm.pixels
ppm_parts P3 ppm = sym (append_assoc (codes "P3\n") (head_lines ppm.width ppm.height ppm.maxval) (flat_map pixel_line ppm.pixels))
ppm_parts P6 ppm = raw_parts ppm
ppm_parts Grid ppm = raw_parts ppm
ppm_parts Cells ppm = raw_parts ppm

-- some pixels and then more
pixels_append : (form : Form) (maxval : ℕ) (palette : List Symbol) (xs ys : List ℕ) → pixels_in form maxval palette (xs ++ ys) ≡ pixels_in form maxval palette xs ++ pixels_in form maxval palette ys
pixels_append form maxval palette xs ys =
    ap (flat_map (drawn_pixel form maxval)) (map-append (λ number. colour_of (symbol_at palette number)) xs ys)
    ∙ flat_map-append (drawn_pixel form maxval) (symbol_colours palette xs) (symbol_colours palette ys)

-- one pixel more
pub pixels_next : (form : Form) (maxval : ℕ) (palette : List Symbol) (row : List ℕ) (x : ℕ) (before text new : List ℕ) → x < length row
    → text ≡ before ++ pixels_in form maxval palette (take x row) → new ≡ text ++ drawn_pixel form maxval (colour_of (symbol_at palette (get_or row x 0)))
    → new ≡ before ++ pixels_in form maxval palette (take (x + 1) row)
pixels_next form maxval palette row x before text new inside so_far pixel =
    let one = drawn_pixel form maxval (colour_of (symbol_at palette (get_or row x 0))) in
    let more : pixels_in form maxval palette (take (x + 1) row) ≡ pixels_in form maxval palette (take x row) ++ one
    = ap (pixels_in form maxval palette) (take_more row x 0 inside) ∙ pixels_append form maxval palette (take x row) (get_or row x 0 ∷ []) ∙ ap (λ t. pixels_in form maxval palette (take x row) ++ t) (append-nil one) in
    pixel ∙ ap (λ t. t ++ one) so_far ∙ append_assoc before (pixels_in form maxval palette (take x row)) one ∙ sym (ap (λ t. before ++ t) more)

-- lists joined, and one more
concat_more : (rows : List (List ℕ)) (row : List ℕ) → concat (rows ++ row ∷ []) ≡ concat rows ++ row
concat_more [] row = append-nil row
concat_more (r ∷ rows) row = ap (λ t. r ++ t) (concat_more rows row) ∙ sym (append_assoc r (concat rows) row)

-- one row more
pub pixel_rows_next : (form : Form) (maxval : ℕ) (palette : List Symbol) (rows : List (List ℕ)) (y : ℕ) (head text new : List ℕ) → y < length rows
    → text ≡ head ++ pixels_in form maxval palette (concat (take y rows)) → new ≡ text ++ pixels_in form maxval palette (get_or rows y [])
    → new ≡ head ++ pixels_in form maxval palette (concat (take (y + 1) rows))
pixel_rows_next form maxval palette rows y head text new inside so_far row =
    let one = pixels_in form maxval palette (get_or rows y []) in
    let before = pixels_in form maxval palette (concat (take y rows)) in
    let more : pixels_in form maxval palette (concat (take (y + 1) rows)) ≡ before ++ one
    = ap (λ r. pixels_in form maxval palette (concat r)) (take_more rows y [] inside)
    ∙ ap (pixels_in form maxval palette) (concat_more (take y rows) (get_or rows y []))
    ∙ pixels_append form maxval palette (concat (take y rows)) (get_or rows y []) in
    row ∙ ap (λ t. t ++ one) so_far ∙ append_assoc head before one ∙ sym (ap (λ t. head ++ t) more)

-- behind all rows the text is written
pub pixel_rows_all : (form : Form) (maxval : ℕ) (palette : List Symbol) (m : Raster) (y : ℕ) (text : List ℕ) → height_of m ≤ y
    → text ≡ picture_head form m.width (height_of m) maxval ++ pixels_in form maxval palette (concat (take y m.rows)) → text ≡ ppm_text form (coloured_map maxval palette m)
pixel_rows_all form maxval palette m y text past so_far =
    so_far
    ∙ ap (λ rows. picture_head form m.width (height_of m) maxval ++ pixels_in form maxval palette (concat rows)) (take_all y m.rows past)
    ∙ sym (ppm_parts form (coloured_map maxval palette m))

-- a colour of a palette has samples within maxval
pub colour_within : (maxval : ℕ) (palette : List Symbol) (n : ℕ) → AllPass (is_of_kind (kinds.Ppm maxval)) palette → n < length palette → is_within maxval (colour_of (symbol_at palette n)) ≡ true
colour_within maxval palette n shown inside = by_symbol (symbol_at palette n) (All-get_or (λ symbol. is_of_kind (kinds.Ppm maxval) symbol ≡ true) palette n (Char 32) inside shown)
  where
    by_symbol : (symbol : Symbol) → is_of_kind (kinds.Ppm maxval) symbol ≡ true → is_within maxval (colour_of symbol) ≡ true
    by_symbol (Rgb colour) is = is
    by_symbol (Char byte) is = absurd (cc (is))

-- only pictures of colours are written in the forms of colours
coloured_kind : (kind : Kind) (form : Form) (width height side : ℕ) (l : Layout) → layout_of kind (Some form) width height side ≡ Ok l → (form ≡ Grid → ⊥) → (form ≡ Cells → ⊥) → kind ≡ kinds.Ppm (maxval_of kind)
coloured_kind (kinds.Ppm maxval) form width height side l answered no_grid no_cells = refl
coloured_kind kinds.Grid Grid width height side l answered no_grid no_cells = absurd (no_grid refl)
coloured_kind kinds.Grid Cells width height side l answered no_grid no_cells = absurd (no_cells refl)
coloured_kind kinds.Grid P6 width height side l answered no_grid no_cells = absurd (cc (answered))
coloured_kind kinds.Grid P3 width height side l answered no_grid no_cells = absurd (cc (answered))
coloured_kind kinds.Plain Grid width height side l answered no_grid no_cells = absurd (no_grid refl)
coloured_kind kinds.Plain Cells width height side l answered no_grid no_cells = absurd (no_cells refl)
coloured_kind kinds.Plain P6 width height side l answered no_grid no_cells = absurd (cc (answered))
coloured_kind kinds.Plain P3 width height side l answered no_grid no_cells = absurd (cc (answered))

pub coloured_palette : (layout : Layout) (palette : List Symbol) (m : Raster) → IsWritten layout palette m → (layout.form ≡ Grid → ⊥) → (layout.form ≡ Cells → ⊥) → AllPass (is_of_kind (kinds.Ppm (maxval_of layout.kind))) palette
coloured_palette layout palette m written no_grid no_cells =
    subst (λ kind. AllPass (is_of_kind kind) palette) (coloured_kind layout.kind layout.form layout.width layout.height layout.side layout written.answered no_grid no_cells) written.kind

-- what is written in another form is a picture of colours
pub coloured_text : (kind : Kind) (form : Form) (palette : List Symbol) (m : Raster) → (form ≡ Grid → ⊥) → (form ≡ Cells → ⊥) → ppm_text form (coloured_map (maxval_of kind) palette m) ≡ raster_text kind form palette m
coloured_text kind P6 palette m no_grid no_cells = refl
coloured_text kind P3 palette m no_grid no_cells = refl
coloured_text kind Grid palette m no_grid no_cells = absurd (no_grid refl)
coloured_text kind Cells palette m no_grid no_cells = absurd (no_cells refl)

-- Maps of tiles that are written pixel by pixel, or number by number.
use Rattle.std.proofs.Common.{◌≡◌, ℕ, ◌+◌, ◌*◌, ◌<◌, ◌≤◌, List, [], ◌∷◌, ◌++◌, length, take, map, get_or, inl, inr, true, leb, refl, ap, sym, ◌∙◌, append_assoc, append-nil, arith}
use Rattle.std.specs.Prelude.{◌==◌}
use Rattle.std.specs.List.{flat_map, range_with_len}
use Rattle.std.proofs.lemmas.Bool.{and_from, cond-false, cond-true, eq-eqb, le-leb, ne_eqb}
use Rattle.std.proofs.lemmas.List.{length-take, take_more}
use Rattle.std.proofs.lemmas.List.Concat.{flat_map_single}
use Rattle.std.proofs.lemmas.List.Folds.{flat_map-map}
use Rattle.std.proofs.lemmas.Grind.{flat_map-append}
use Rattle.wfc_grid.specs.Spelling.{grid_text}
use Rattle.wfc_model.specs.Raster.{Raster, height_of}
use Rattle.wfc_picture.specs.declared.symbol.Kind.{Kind}
use Rattle.wfc_picture.specs.declared.symbol.Kind.TheVariants as kinds
use Rattle.wfc_picture.specs.declared.symbol.Symbol.{Symbol}
use Rattle.wfc_picture.specs.declared.symbol.Symbol.TheVariants.{Char, Rgb}
use Rattle.wfc_ppm.specs.Ppm.{is_within}
use Rattle.wfc_tileset.specs.declared.TheConstants.{HOLE}
use Rattle.wfc_tileset.specs.Pictures.{kind_of, pixel_at, side_of}
use Rattle.wfc_tileset.specs.Tiles.{TileSetView, variant_total}
use Rattle.wfc_render.specs.Colours.{picture_head, drawn_pixel}
use Rattle.wfc_render.specs.Drawn.{drawn_text, symbol_in}
use Rattle.wfc_render.specs.Map.{byte_of, colour_of, is_of_kind, maxval_of}
use Rattle.wfc_render.specs.Tiled.{IsVariantOrHole, all_rows, variant_word, pixel_row, pixel_rows, shown_at, shown_row, spaced_cells, tiled_picture, tiles_in}
use Rattle.wfc_render.specs.declared.form.Form.{Form}
use Rattle.wfc_render.specs.declared.form.Form.TheVariants.{P6, P3, Grid, Cells}
use Rattle.wfc_render.proofs.ColourLemmas.{ppm_parts}

-- ---- lists one after another

-- equal functions give equal lists
flat_map-same : {X Y : Type 0} (f g : X → List Y) → ((x : X) → f x ≡ g x) → (xs : List X) → flat_map f xs ≡ flat_map g xs
flat_map-same f g same [] = refl
flat_map-same f g same (x ∷ xs) = ap (λ t. t ++ flat_map f xs) (same x) ∙ ap (λ t. g x ++ t) (flat_map-same f g same xs)

-- lists of lists, in one go
flat_map-flat_map : {X Y Z : Type 0} (g : Y → List Z) (f : X → List Y) (xs : List X) → flat_map g (flat_map f xs) ≡ flat_map (λ x. flat_map g (f x)) xs
flat_map-flat_map g f [] = refl
flat_map-flat_map g f (x ∷ xs) = flat_map-append g (f x) (flat_map f xs) ∙ ap (λ t. flat_map g (f x) ++ t) (flat_map-flat_map g f xs)

-- behind a text and what the first elements give, what the next one gives is written
pub taken_next : {X Y : Type 0} (f : X → List Y) (xs : List X) (k : ℕ) (d : X) (start text new : List Y) → k < length xs → text ≡ start ++ flat_map f (take k xs) → new ≡ text ++ f (get_or xs k d)
    → new ≡ start ++ flat_map f (take (k + 1) xs)
taken_next f xs k d start text new inside before one =
    one
    ∙ ap (λ t. t ++ f (get_or xs k d)) before
    ∙ append_assoc start (flat_map f (take k xs)) (f (get_or xs k d))
    ∙ ap (λ t. start ++ t)
    (sym (ap (flat_map f) (take_more xs k d inside) ∙ flat_map-append f (take k xs) (get_or xs k d ∷ []) ∙ ap (λ t. flat_map f (take k xs) ++ t) (append-nil (f (get_or xs k d)))))

-- ---- rows of pixels

-- the rows of a map as they are written: place by place, and pixel by pixel
module _ (write : Symbol → List ℕ) (behind : List ℕ) (set : TileSetView) where
  abbrev row_written : List Symbol → List ℕ
  row_written row = flat_map write row ++ behind

  abbrev place_written : ℕ → ℕ → List ℕ
  place_written j number = flat_map (λ i. write (shown_at set j number i)) (range_with_len 0 (side_of set.pictures))

  abbrev line_written : List ℕ → ℕ → List ℕ
  line_written numbers j = flat_map (place_written j) numbers ++ behind

  abbrev lines_written : List ℕ → List ℕ
  lines_written numbers = flat_map (line_written numbers) (range_with_len 0 (side_of set.pictures))

  place_is : (j number : ℕ) → flat_map write (shown_row set j number) ≡ place_written j number
  place_is j number = flat_map-map write (shown_at set j number) (range_with_len 0 (side_of set.pictures))

  line_is : (numbers : List ℕ) (j : ℕ) → row_written (pixel_row set numbers j) ≡ line_written numbers j
  line_is numbers j = ap (λ t. t ++ behind) (flat_map-flat_map write (shown_row set j) numbers ∙ flat_map-same _ _ (place_is j) numbers)

  lines_are : (numbers : List ℕ) → flat_map row_written (pixel_rows set numbers) ≡ lines_written numbers
  lines_are numbers =
      flat_map-map row_written (pixel_row set numbers) (range_with_len 0 (side_of set.pictures))
      ∙ flat_map-same _ _ (line_is numbers) (range_with_len 0 (side_of set.pictures))

  pub rows_are : (m : Raster) → flat_map row_written (all_rows set m) ≡ flat_map lines_written m.rows
  rows_are m = flat_map-flat_map row_written (pixel_rows set) m.rows ∙ flat_map-same _ _ lines_are m.rows

-- the bytes of rows, each with its end
lines_of_bytes : (rows : List (List Symbol)) → flat_map (λ row. flat_map (λ symbol. byte_of symbol ∷ []) row ++ 10 ∷ []) rows ≡ grid_text (map (map byte_of) rows)
lines_of_bytes [] = refl
lines_of_bytes (row ∷ rows) =
    ap (λ t. (t ++ 10 ∷ []) ++ flat_map (λ row. flat_map (λ symbol. byte_of symbol ∷ []) row ++ 10 ∷ []) rows) (flat_map_single byte_of row)
    ∙ append_assoc (map byte_of row) (10 ∷ []) (flat_map (λ row. flat_map (λ symbol. byte_of symbol ∷ []) row ++ 10 ∷ []) rows)
    ∙ ap (λ t. map byte_of row ++ 10 ∷ t) (lines_of_bytes rows)

module _ (set : TileSetView) (m : Raster) where
  abbrev maxval : ℕ
  maxval = maxval_of (kind_of set.pictures)

  abbrev head_of : Form → List ℕ
  head_of form = picture_head form (m.width * side_of set.pictures) (height_of m * side_of set.pictures) maxval

  -- rows of pixels without ends are the pixels of the picture
  joined : (form : Form) (rows : List (List Symbol))
      → flat_map (λ row. flat_map (λ symbol. drawn_pixel form maxval (colour_of symbol)) row ++ []) rows ≡ flat_map (drawn_pixel form maxval) (flat_map (map colour_of) rows)
  joined form rows =
      flat_map-same _ _ (λ row. append-nil (flat_map (λ symbol. drawn_pixel form maxval (colour_of symbol)) row) ∙ sym (flat_map-map (drawn_pixel form maxval) colour_of row)) rows
      ∙ sym (flat_map-flat_map (drawn_pixel form maxval) (map colour_of) rows)

  -- the text that is written pixel by pixel is the map's
  pub drawn_is : (form : Form) → (form ≡ Cells → ⊥) → drawn_text form set m ≡ tiles_in form set m
  drawn_is P6 no_cells =
      ap (λ t. head_of P6 ++ t) (sym (rows_are (symbol_in P6 maxval) [] set m) ∙ joined P6 (all_rows set m)) ∙ sym (ppm_parts P6 (tiled_picture set m))
  drawn_is P3 no_cells =
      ap (λ t. head_of P3 ++ t) (sym (rows_are (symbol_in P3 maxval) [] set m) ∙ joined P3 (all_rows set m)) ∙ sym (ppm_parts P3 (tiled_picture set m))
  drawn_is Grid no_cells = sym (rows_are (symbol_in Grid maxval) (10 ∷ []) set m) ∙ lines_of_bytes (all_rows set m)
  drawn_is Cells no_cells = absurd (no_cells refl)

-- ---- pixels

-- black is within any maxval
pub black_within : (maxval : ℕ) → is_within maxval (colour_of (Char 32)) ≡ true
black_within maxval = let least : leb 0 maxval ≡ true = le-leb 0 maxval (omega arith) in and_from _ _ (and_from _ _ least least) least

-- the colour of a symbol that a kind shows is within its maxval
pub shown_within : (kind : Kind) (symbol : Symbol) → is_of_kind kind symbol ≡ true → is_within (maxval_of kind) (colour_of symbol) ≡ true
shown_within kinds.Grid (Char byte) is = refl
shown_within kinds.Grid (Rgb colour) is = absurd (cc (is))
shown_within (kinds.Ppm maxval) (Char byte) is = absurd (cc (is))
shown_within (kinds.Ppm maxval) (Rgb colour) is = is
shown_within kinds.Plain (Char byte) is = absurd (cc (is))
shown_within kinds.Plain (Rgb colour) is = absurd (cc (is))

-- what is no variant is a hole, and is shown as one
pub shown_hole : (set : TileSetView) (j number i : ℕ) → IsVariantOrHole set number → variant_total set.tiles ≤ number → Char 32 ≡ shown_at set j number i
shown_hole set j number i (inl variant) past = absurd (omega arith)
shown_hole set j number i (inr hole) past = sym (cond-true (number == HOLE) (Char 32) (pixel_at set number i j) (eq-eqb number HOLE hole))

-- and a variant is not
pub shown_variant : (set : TileSetView) (j number i : ℕ) → number < variant_total set.tiles → variant_total set.tiles ≤ 4096 → pixel_at set number i j ≡ shown_at set j number i
shown_variant set j number i inside few = sym (cond-false (number == HOLE) (Char 32) (pixel_at set number i j) (ne_eqb number HOLE (λ same. absurd (omega arith))))

-- ---- numbers

spaced_cells-push : (numbers : List ℕ) (n : ℕ) → 0 < length numbers → spaced_cells (numbers ++ n ∷ []) ≡ spaced_cells numbers ++ 0x20 ∷ variant_word n
spaced_cells-push [] n some = absurd (omega arith)
spaced_cells-push (m ∷ numbers) n some =
    ap (λ t. variant_word m ++ t)
    (flat_map-append (λ k. 0x20 ∷ variant_word k) numbers (n ∷ []) ∙ ap (λ t. flat_map (λ k. 0x20 ∷ variant_word k) numbers ++ t) (append-nil (0x20 ∷ variant_word n)))
    ∙ sym (append_assoc (variant_word m) (flat_map (λ k. 0x20 ∷ variant_word k) numbers) (0x20 ∷ variant_word n))

-- one number more of a row
pub spaced_cells-next : (xs : List ℕ) (i : ℕ) → 0 < i → i < length xs → spaced_cells (take (i + 1) xs) ≡ spaced_cells (take i xs) ++ 0x20 ∷ variant_word (get_or xs i 0)
spaced_cells-next xs i some inside =
    ap spaced_cells (take_more xs i 0 inside)
    ∙ spaced_cells-push (take i xs) (get_or xs i 0) (omega (arith, length-take i xs))

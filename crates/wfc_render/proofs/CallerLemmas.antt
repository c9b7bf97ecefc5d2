-- What callers cite of layouts and of maps that are written.
pub use Rattle.wfc_render.proofs.TiledMapLemmas.{written_tiles}
use Rattle.std.proofs.Common.{◌≡◌, ℕ, ◌*◌, ◌/◌, ◌<◌, List, length, map, true, None, Some, Option, Ok, ap, sym, ◌∙◌, subst, arith}
use Rattle.std.proofs.lemmas.List.{length-map}
use Rattle.std.proofs.lemmas.List.Elements.{All-map}
use Rattle.std.proofs.Math.Nat.{mul-div_cancel_left}
use Rattle.std.specs.List.{All, AllPass}
use Rattle.wfc_grid.specs.Grid.{GridView, IsGrid}
use Rattle.wfc_lists.proofs.WithoutRepeats.{All-without_repeats, some_unrepeated}
use Rattle.wfc_model.specs.Raster.{Raster, IsFilled, raster_of}
use Rattle.wfc_model.proofs.CallerLemmas.{IsSized-raster_of, numbers_of-raster_of}
use Rattle.wfc_picture.specs.Palette.{palette_of, palette_numbers, first_past, unless_past, picture_and_palette}
use Rattle.wfc_picture.specs.Symbol.{same_symbol}
use Rattle.wfc_picture.specs.declared.palette.TheConstants.{MAX_COLOURS}
use Rattle.wfc_picture.specs.declared.symbol.Kind.TheVariants as kinds
use Rattle.wfc_picture.specs.declared.symbol.Symbol.{Symbol}
use Rattle.wfc_picture.specs.declared.symbol.Symbol.TheVariants.{Char, Rgb}
use Rattle.wfc_picture.proofs.CallerLemmas.{numbered_below}
use Rattle.wfc_ppm.specs.Ppm.{PpmView, IsPpm}
use Rattle.wfc_render.specs.Layout.{IsLayout}
use Rattle.wfc_render.specs.Map.{IsWritten, is_of_kind}
use Rattle.wfc_render.specs.declared.form.Layout.{Layout}

-- what symbols are numbered as is the map that is written of them
pub written_sample : (symbols : List Symbol) (l : Layout) → IsFilled l.width l.height symbols → AllPass (is_of_kind l.kind) symbols → 0 < length symbols → IsLayout l → l.side ≡ 1
    → IsWritten l (palette_of symbols) (raster_of l.width l.height (palette_numbers symbols))
written_sample symbols l filled shown some answered pixels =
    let many : length (palette_numbers symbols) ≡ l.width * l.height = length-map symbols _ ∙ filled.as_many in
    let full : IsFilled l.width l.height (palette_numbers symbols) = record { some_column = filled.some_column; some_row = filled.some_row; as_many = many } in
    record {
      answered = answered;
      pixels = pixels;
      kind = All-without_repeats same_symbol (λ symbol. is_of_kind l.kind symbol ≡ true) symbols shown;
      some_symbol = some_unrepeated same_symbol symbols some;
      sized = IsSized-raster_of l.width l.height (palette_numbers symbols) full;
      numbers = subst (All (λ n. n < length (palette_of symbols))) (sym (numbers_of-raster_of l.width l.height (palette_numbers symbols) many)) (numbered_below symbols);
    }

-- what indexing answers
indexed_is : (past : Option ℕ) (symbols : List Symbol) (w : ℕ) (made : Raster × List Symbol) → unless_past past symbols w ≡ Ok made → (raster_of w (length symbols / w) (palette_numbers symbols) ≡ made.0) × (palette_of symbols ≡ made.1)
indexed_is None symbols w made is =
    let same : (raster_of w (length symbols / w) (palette_numbers symbols), palette_of symbols) ≡ made = cc in
    (ap (λ (m : Raster × List Symbol). m.0) same, ap (λ (m : Raster × List Symbol). m.1) same)
indexed_is (Some at) symbols w made is = cc

-- what the symbols of a picture are numbered as is the map that is written of them
pub written_index : (symbols : List Symbol) (w h : ℕ) (made : Raster × List Symbol) (l : Layout) → IsFilled w h symbols → AllPass (is_of_kind l.kind) symbols → picture_and_palette symbols w ≡ Ok made
    → IsLayout l → l.side ≡ 1 → l.width ≡ w → l.height ≡ h → IsWritten l made.1 made.0
written_index symbols w h made l full shown is answered pixels wide high =
    let found = indexed_is (first_past MAX_COLOURS symbols) symbols w made is in
    let many : length symbols ≡ l.width * l.height = full.as_many ∙ sym (ap (λ w. w * h) wide) ∙ sym (ap (λ h. l.width * h) high) in
    let wide_one : 0 < l.width = omega (arith, full.some_column, wide) in
    let high_one : 0 < l.height = omega (arith, full.some_row, high) in
    let filled : IsFilled l.width l.height symbols = record { some_column = wide_one; some_row = high_one; as_many = many } in
    let rows : l.height ≡ length symbols / w = sym (ap (λ n. n / w) (many ∙ ap (λ w. w * l.height) wide) ∙ mul-div_cancel_left l.height full.some_column) in
    let some : 0 < length symbols = omega (arith, many, mul_some l.width l.height wide_one high_one) in
    let picture : raster_of l.width l.height (palette_numbers symbols) ≡ made.0 = ap (λ w. raster_of w l.height (palette_numbers symbols)) wide ∙ ap (λ h. raster_of w h (palette_numbers symbols)) rows ∙ found.0 in
    subst (λ m. IsWritten l made.1 m) picture (subst (λ p. IsWritten l p (raster_of l.width l.height (palette_numbers symbols))) found.1 (written_sample symbols l filled shown some answered pixels))
  where
    mul_some : (a b : ℕ) → 0 < a → 0 < b → 0 < a * b
    mul_some a b one other = grind arith

-- a grid's own bytes are a map that is written
pub written_grid : (g : GridView) (symbols : List Symbol) (made : Raster × List Symbol) (l : Layout) → IsGrid g → symbols ≡ map Char g.bytes → picture_and_palette symbols g.width ≡ Ok made
    → IsLayout l → l.kind ≡ kinds.Grid → l.side ≡ 1 → l.width ≡ g.width → l.height ≡ g.height → IsWritten l made.1 made.0
written_grid g symbols made l grid same is answered kind pixels wide high =
    let filled : IsFilled g.width g.height symbols = record { some_column = grid.filled.some_column; some_row = grid.filled.some_row; as_many = ap length same ∙ length-map g.bytes Char ∙ grid.filled.as_many } in
    let shown : AllPass (is_of_kind l.kind) symbols =
    subst (λ k. AllPass (is_of_kind k) symbols) (sym kind) (subst (AllPass (is_of_kind kinds.Grid)) (sym same) (All-map (λ s. is_of_kind kinds.Grid s ≡ true) Char g.bytes grid.printable)) in
    written_index symbols g.width g.height made l filled shown is answered pixels wide high

-- a picture's own colours are a map that is written
pub written_ppm : (p : PpmView) (symbols : List Symbol) (made : Raster × List Symbol) (l : Layout) → IsPpm p → symbols ≡ map Rgb p.pixels → picture_and_palette symbols p.width ≡ Ok made
    → IsLayout l → l.kind ≡ kinds.Ppm p.maxval → l.side ≡ 1 → l.width ≡ p.width → l.height ≡ p.height → IsWritten l made.1 made.0
written_ppm p symbols made l ppm same is answered kind pixels wide high =
    let filled : IsFilled p.width p.height symbols = record { some_column = ppm.filled.some_column; some_row = ppm.filled.some_row; as_many = ap length same ∙ length-map p.pixels Rgb ∙ ppm.filled.as_many } in
    let shown : AllPass (is_of_kind l.kind) symbols =
    subst (λ k. AllPass (is_of_kind k) symbols) (sym kind) (subst (AllPass (is_of_kind (kinds.Ppm p.maxval))) (sym same) (All-map (λ s. is_of_kind (kinds.Ppm p.maxval) s ≡ true) Rgb p.pixels ppm.samples)) in
    written_index symbols p.width p.height made l filled shown is answered pixels wide high

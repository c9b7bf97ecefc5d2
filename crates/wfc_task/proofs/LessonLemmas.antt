-- What holds of what a sample teaches.
use Rattle.std.proofs.Common.{Bool, Err, List, None, Ok, Option, Result, Some, ap, arith, drop, false, if◌then◌else◌, inl, inr, length, map, nat_lt, refl, subst, sym, take, true, ℕ, ◌%◌, ◌*◌, ◌+◌, ◌/◌, ◌<◌, ◌||◌, ◌∙◌, ◌≡◌, ◌≤◌}
use Rattle.std.proofs.Math.Nat.{mul-div-le, mul-mod_right, mul_comm}
use Rattle.std.proofs.lemmas.Bool.Decides.{nat_tests}
use Rattle.std.proofs.lemmas.List.{length-map}
use Rattle.std.proofs.lemmas.List.Elements.{All-contains, All-map, All-weaker}
use Rattle.std.proofs.lemmas.List.FromFn.{length-map-range_with_len}
use Rattle.std.proofs.lemmas.Nat.{div-mul-add, mul-le}
use Rattle.std.specs.List.{range_with_len}
use Rattle.std.specs.Prelude.{All, Contains, IfOk, IsTrue}
use Rattle.wfc_grid.specs.Grid.{GridView, IsGrid}
use Rattle.wfc_grid.specs.declared.reading.TheConstants.{MAX_GRID_BYTES}
use Rattle.wfc_lists.proofs.WithoutRepeats.{All-without_repeats, some_unrepeated}
use Rattle.wfc_model.proofs.CallerLemmas.{IsSized-raster_of, learned_known, numbers_of-raster_of}
use Rattle.wfc_model.specs.Learned.{learned}
use Rattle.wfc_model.specs.Legal.{Pin}
use Rattle.wfc_model.specs.Raster.{IsFilled, Raster, height_of, numbers_of, raster_of}
use Rattle.wfc_outside.specs.Gives.{Gives, result_map}
use Rattle.wfc_overlap.proofs.CallerLemmas.{sample_problem}
use Rattle.wfc_overlap.specs.Bridge.{IsRoom, window_pair_count}
use Rattle.wfc_overlap.specs.Built.{picture_problem, picture_pins, texts_of}
use Rattle.wfc_overlap.specs.Sample.{Output, output_with, problem_of_sample}
use Rattle.wfc_pattern.proofs.CallerLemmas.{taught_are_patterns}
use Rattle.wfc_pattern.specs.Learning.{is_below_n, learned_patterns, patterns_of}
use Rattle.wfc_pattern.specs.Patterns.{IsPatterns, PatternsView}
use Rattle.wfc_pattern.specs.declared.TheConstants.{MAX_PATTERNS}
use Rattle.wfc_pattern.specs.declared.learning.LearnFault.TheVariants.{SampleBelowN, TooManyPatterns}
use Rattle.wfc_picture.proofs.CallerLemmas.{numbered_below}
use Rattle.wfc_picture.specs.Palette.{first_past, picture_and_palette, palette_numbers, palette_of, unless_past}
use Rattle.wfc_picture.specs.Symbol.{same_symbol}
use Rattle.wfc_picture.specs.declared.palette.PaletteFault.{PaletteFault}
use Rattle.wfc_picture.specs.declared.palette.PaletteFault.TheVariants as palettes
use Rattle.wfc_picture.specs.declared.palette.TheConstants.{MAX_COLOURS, MAX_PIXELS}
use Rattle.wfc_picture.specs.declared.symbol.Kind.{Kind}
use Rattle.wfc_picture.specs.declared.symbol.Kind.TheVariants as kinds
use Rattle.wfc_picture.specs.declared.symbol.Symbol.{Symbol}
use Rattle.wfc_picture.specs.declared.symbol.Symbol.TheVariants.{Char, Rgb}
use Rattle.wfc_pins.specs.PinView.{PinView}
use Rattle.wfc_pins.specs.declared.fault.BuildFault.{BuildFault}
use Rattle.wfc_pins.specs.declared.fault.BuildFault.TheVariants.{SizeBelowN, TooLarge}
use Rattle.wfc_plan.proofs.CallerLemmas.{step_is, unrefused}
use Rattle.wfc_plan.specs.declared.fault.Refusal.{Refusal}
use Rattle.wfc_plan.specs.declared.fault.Refusal.TheVariants as refusals
use Rattle.wfc_ppm.specs.Ppm.{IsPpm, PpmView}
use Rattle.wfc_problem.specs.Network.{IsProblem, Network}
use Rattle.wfc_problem.specs.declared.TheConstants.{MAX_PAIRS}
use Rattle.wfc_render.specs.Map.{is_of_kind}
use Rattle.wfc_task.specs.Asked.{IsSampleAsked}
use Rattle.wfc_task.specs.Lesson.{IsLesson, HasShownNumbers, IsPosed, IsSampled}
use Rattle.wfc_task.specs.Sampled.{SampledView, shown_colours, shown_by_grid, shown_by_ppm, symbols_of}
use Rattle.wfc_task.specs.Sources.{window_side_of}
use Rattle.wfc_task.specs.Steps.{sample_in_numbers, problem_of_lines, patterns_taught}
use Rattle.wfc_words.specs.RequestView.{RequestView}

-- the picture and the palette of symbols, where they have one
pub indexed_is : (symbols : List Symbol) (width : ℕ) (made : Raster × List Symbol) → picture_and_palette symbols width ≡ Ok made → made ≡ (raster_of width (length symbols / width) (palette_numbers symbols), palette_of symbols)
indexed_is symbols width made is = by_past (first_past MAX_COLOURS symbols) is
  where
    by_past : (past : Option ℕ) → unless_past past symbols width ≡ Ok made → made ≡ (raster_of width (length symbols / width) (palette_numbers symbols), palette_of symbols)
    by_past (Some at) is = absurd (cc)
    by_past None is = cc

-- what a sample teaches, where it teaches something
pub learned_is : (sample : Raster) (n s : ℕ) (wrap : Bool) (patterns : PatternsView) → patterns_of sample n s wrap ≡ Ok patterns
    → (is_below_n sample n wrap ≡ false) × (length (learned sample n s wrap) ≤ MAX_PATTERNS) × (patterns ≡ learned_patterns sample n s wrap)
learned_is sample n s wrap patterns is = by_tests (is_below_n sample n wrap) (nat_lt MAX_PATTERNS (length (learned sample n s wrap))) refl refl is
  where
    by_tests : (below many : Bool) → is_below_n sample n wrap ≡ below → nat_lt MAX_PATTERNS (length (learned sample n s wrap)) ≡ many
        → (if below then Err SampleBelowN else if many then Err (TooManyPatterns (length (learned sample n s wrap))) else Ok (learned_patterns sample n s wrap)) ≡ Ok patterns
        → (is_below_n sample n wrap ≡ false) × (length (learned sample n s wrap) ≤ MAX_PATTERNS) × (patterns ≡ learned_patterns sample n s wrap)
    by_tests true many p q is = absurd (cc)
    by_tests false true p q is = absurd (cc)
    by_tests false false p q is = (p, grind (arith, nat_tests, q), cc)

-- the problem that was built, where one was
pub built_is : (patterns : PatternsView) (palette : List Symbol) (output : Output) (lines : List PinView) (P : Network) → picture_problem patterns palette output lines ≡ Ok P
    → IsRoom patterns output × ((pins : List Pin) × (picture_pins (texts_of palette) output.width output.height lines ≡ Ok pins) × (P ≡ problem_of_sample patterns output pins))
built_is patterns palette output lines P is =
    by_tests (nat_lt output.width patterns.n) (nat_lt output.height patterns.n) (nat_lt MAX_PAIRS (window_pair_count patterns output)) (picture_pins (texts_of palette) output.width output.height lines) refl refl refl refl is
  where
    by_tests : (narrow low many : Bool) (pins : Result (List Pin) BuildFault) → nat_lt output.width patterns.n ≡ narrow → nat_lt output.height patterns.n ≡ low → nat_lt MAX_PAIRS (window_pair_count patterns output) ≡ many
        → picture_pins (texts_of palette) output.width output.height lines ≡ pins
        → result_map (problem_of_sample patterns output) (if narrow || low then Err SizeBelowN else (if many then Err (TooLarge (window_pair_count patterns output)) else pins)) ≡ Ok P
        → IsRoom patterns output × ((pins : List Pin) × (picture_pins (texts_of palette) output.width output.height lines ≡ Ok pins) × (P ≡ problem_of_sample patterns output pins))
    by_tests true low many pins p q r t is = absurd (cc)
    by_tests false true many pins p q r t is = absurd (cc)
    by_tests false false true pins p q r t is = absurd (cc)
    by_tests false false false (Err fault) p q r t is = absurd (cc)
    by_tests false false false (Ok pins) p q r t is = (record { wide = grind (arith, nat_tests, p); high = grind (arith, nat_tests, q); few_pairs = grind (arith, nat_tests, r) }, (pins, t, cc))

-- what a grid shows
pub grid_sampled : (grid : GridView) → IsGrid grid → grid.width * grid.height ≤ MAX_GRID_BYTES → IsSampled (shown_by_grid grid)
grid_sampled grid is_grid small =
    let many : length (symbols_of grid) ≡ grid.width * grid.height = length-map grid.bytes (λ byte. Char byte) ∙ is_grid.filled.as_many in
    record {
      height = grid.height;
      filled = record { some_column = is_grid.filled.some_column; some_row = is_grid.filled.some_row; as_many = many };
      small = omega (arith, many, small);
      maxval = omega arith;
      symbols = All-map (λ symbol. IsTrue (is_of_kind kinds.Grid symbol)) (λ byte. Char byte) grid.bytes is_grid.printable;
    }

-- what a picture of colours shows
pub ppm_sampled : (ppm : PpmView) → IsPpm ppm → ppm.width * ppm.height ≤ MAX_PIXELS → IsSampled (shown_by_ppm ppm)
ppm_sampled ppm is_ppm small =
    let many : length (shown_colours ppm) ≡ ppm.width * ppm.height = length-map ppm.pixels (λ colour. Rgb colour) ∙ is_ppm.filled.as_many in
    record {
      height = ppm.height;
      filled = record { some_column = is_ppm.filled.some_column; some_row = is_ppm.filled.some_row; as_many = many };
      small = omega (arith, many, small);
      maxval = is_ppm.small_maxval;
      symbols = All-map (λ symbol. IsTrue (is_of_kind (kinds.Ppm ppm.maxval) symbol)) (λ colour. Rgb colour) ppm.pixels is_ppm.samples;
    }

-- whose pixels are whole rows, and some
pub sampled_rows : (sampled : SampledView) → IsSampled sampled → length sampled.symbols % sampled.width ≡ 0
sampled_rows sampled is = ap (λ n. n % sampled.width) is.filled.as_many ∙ mul-mod_right sampled.width is.height

pub sampled_some : (sampled : SampledView) → IsSampled sampled → 0 < length sampled.symbols
sampled_some sampled is = some_pixel sampled.width is.height (length sampled.symbols) is.filled.as_many is.filled.some_column is.filled.some_row
  where
    some_pixel : (width height many : ℕ) → many ≡ width * height → 0 < width → 0 < height → 0 < many
    some_pixel width height many is some high = let one : 1 * 1 ≤ width * height = mul-le 1 1 width height some high in omega arith

-- what the pixels of a sample are numbered as
pub numbered_sample : (sampled : SampledView) (made : Raster × List Symbol) → IsSampled sampled → sample_in_numbers sampled ≡ Ok made → HasShownNumbers sampled.kind made.0 made.1
numbered_sample sampled made shows is =
    let symbols = sampled.symbols in
    let many : length symbols ≡ sampled.width * shows.height = shows.filled.as_many in
    let same : made ≡ (raster_of sampled.width (length symbols / sampled.width) (palette_numbers symbols), palette_of symbols) = indexed_is symbols sampled.width made (unrefused _ (picture_and_palette symbols sampled.width) made is) in
    let high : length symbols / sampled.width ≡ shows.height = ap (λ m. m / sampled.width) many ∙ whole sampled.width shows.height shows.filled.some_column in
    let as_many : length (palette_numbers symbols) ≡ sampled.width * shows.height = length-map symbols _ ∙ many in
    let filled : IsFilled sampled.width (length symbols / sampled.width) (palette_numbers symbols)
    = subst (λ h. IsFilled sampled.width h (palette_numbers symbols)) (sym high) (record { some_column = shows.filled.some_column; some_row = shows.filled.some_row; as_many = as_many }) in
    subst (λ (made : Raster × List Symbol). HasShownNumbers sampled.kind made.0 made.1) (sym same) (record {
      raster = (IsSized-raster_of sampled.width (length symbols / sampled.width) (palette_numbers symbols) filled).raster;
      shown = record {
        maxval = shows.maxval;
        symbols = All-without_repeats same_symbol (λ symbol. IsTrue (is_of_kind sampled.kind symbol)) symbols shows.symbols;
        some_symbol = some_unrepeated same_symbol symbols (sampled_some sampled shows);
      };
      numbers = subst (λ ns. All (λ number. number < length (palette_of symbols)) ns) (sym (numbers_of-raster_of sampled.width (length symbols / sampled.width) (palette_numbers symbols) filled.as_many)) (numbered_below symbols);
    })
  where
    commute : (width height : ℕ) → width * height ≡ height * width + 0
    commute width height = omega (arith, mul_comm width height)

    whole : (width height : ℕ) → 0 < width → width * height / width ≡ height
    whole width height some = ap (λ m. m / width) (commute width height) ∙ div-mul-add height width 0 some

-- what such a picture teaches
pub lesson_of : (asked : RequestView) (kind : Kind) (picture : Raster) (palette : List Symbol) (patterns : PatternsView) → IsSampleAsked asked → HasShownNumbers kind picture palette → picture.width * height_of picture ≤ MAX_PIXELS
    → patterns_taught asked picture ≡ Ok patterns → IsLesson (record { kind = kind; palette = palette; patterns = patterns })
lesson_of asked kind picture palette patterns asks of_palette small is =
    let n = window_side_of asked.source in
    let gives = unrefused _ (patterns_of picture n asked.symmetry asked.wrap_in) patterns is in
    let same = (learned_is picture n asked.symmetry asked.wrap_in patterns gives).2 in
    let known = learned_known picture of_palette.raster n asked.symmetry asked.wrap_in in
    record {
      patterns = taught_are_patterns picture n asked.symmetry asked.wrap_in patterns of_palette.raster asks.some_side asks.small_side asks.some_image asks.eight_images small gives;
      shown = of_palette.shown;
      numbers = subst (λ (patterns : PatternsView). All (λ window. All (λ number. number < length palette) window) patterns.windows) (sym same)
          (All-weaker (All (Contains (numbers_of picture))) (λ window. All (λ number. number < length palette) window) (λ window inside. All-weaker (Contains (numbers_of picture)) (λ number. number < length palette)
          (λ number within. All-contains (λ number. number < length palette) (numbers_of picture) number of_palette.numbers within) window inside)
          (learned picture n asked.symmetry asked.wrap_in) known);
    }

-- the problem of such patterns
pub posed_of : (asked : RequestView) (patterns : PatternsView) (palette : List Symbol) (lines : List PinView) (P : Network) → IsPatterns patterns → problem_of_lines asked patterns palette lines ≡ Ok P → IsPosed asked patterns P
posed_of asked patterns palette lines P are is =
    let output = output_with asked.width asked.height asked.wrap_out in
    let made = built_is patterns palette output lines P (unrefused _ (picture_problem patterns palette output lines) P is) in
    record {
      sound = subst IsProblem (sym made.1.2) (sample_problem patterns output made.1.0 are made.0);
      wide = made.0.wide;
      high = made.0.high;
      problem = (made.1.0, made.1.2);
    }

-- the same of results
pub numbered_result : (sampled : SampledView) (result : Result (Raster × List Symbol) Refusal) → IsSampled sampled → Gives refusals.NoMemory (λ made. made) result (sample_in_numbers sampled) → IfOk result (λ made. HasShownNumbers sampled.kind made.0 made.1)
numbered_result sampled (Err refusal) shows gives = tt
numbered_result sampled (Ok made) shows gives = numbered_sample sampled made shows (step_is (sample_in_numbers sampled) made gives)

pub posed_result : (asked : RequestView) (patterns : PatternsView) (palette : List Symbol) (lines : List PinView) (result : Result Network Refusal) → IsPatterns patterns → Gives refusals.NoMemory (λ made. made) result (problem_of_lines asked patterns palette lines)
    → IfOk result (IsPosed asked patterns)
posed_result asked patterns palette lines (Err refusal) are gives = tt
posed_result asked patterns palette lines (Ok P) are gives = posed_of asked patterns palette lines P are (step_is (problem_of_lines asked patterns palette lines) P gives)

-- a picture of numbered symbols has no more pixels than there are symbols
pub made_small : (symbols : List Symbol) (width : ℕ) (made : Raster × List Symbol) → Gives palettes.NoMemory (λ made. made) (let given : Result (Raster × List Symbol) PaletteFault = Ok made in given) (picture_and_palette symbols width)
    → length symbols ≤ MAX_PIXELS → made.0.width * height_of made.0 ≤ MAX_PIXELS
made_small symbols width made (inr is) few = absurd (cc)
made_small symbols width made (inl is) few = by_past (first_past MAX_COLOURS symbols) is
  where
    high : length (map (λ y. take width (drop (y * width) (palette_numbers symbols))) (range_with_len 0 (length symbols / width))) ≡ length symbols / width
    high = length-map-range_with_len (λ y. take width (drop (y * width) (palette_numbers symbols))) 0 (length symbols / width)

    by_past : (past : Option ℕ) → Ok made ≡ unless_past past symbols width → made.0.width * height_of made.0 ≤ MAX_PIXELS
    by_past (Some at) is = absurd (cc)
    by_past None is =
        let same : made ≡ (raster_of width (length symbols / width) (palette_numbers symbols), palette_of symbols) = cc in
        let fits : width * (length symbols / width) ≤ length symbols = mul-div-le (length symbols) width in
        subst (λ (m : Raster × List Symbol). m.0.width * height_of m.0 ≤ MAX_PIXELS) (sym same) (subst (λ h. width * h ≤ MAX_PIXELS) (sym high) (omega (arith, fits, few)))

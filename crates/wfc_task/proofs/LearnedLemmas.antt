-- What a sample teaches is by the request: windows of the side asked for, and a palette of symbols that are apart and can
-- stand in a sample.
use Rattle.std.proofs.Common.{List, Ok, Result, ap, arith, inl, inr, refl, subst, sym, true, ℕ, ◌&&◌, ◌<◌, ◌^◌, ◌∙◌, ◌≡◌, ◌≤◌}
use Rattle.std.proofs.lemmas.Bool.{and_from, and_parts}
use Rattle.std.proofs.lemmas.Bool.Decides.{nat_tests}
use Rattle.std.proofs.lemmas.List.Elements.{All-weaker}
use Rattle.std.specs.List.{IsDistinct}
use Rattle.std.specs.Prelude.{All, IsTrue, nat_le, nat_lt}
use Rattle.wfc_lists.proofs.WithoutRepeats.{IsDistinct-without_repeats}
use Rattle.wfc_model.specs.Raster.{Raster}
use Rattle.wfc_outside.specs.Folder.{File, FolderView}
use Rattle.wfc_pattern.specs.Learning.{patterns_of}
use Rattle.wfc_pattern.specs.Patterns.{PatternsView}
use Rattle.wfc_picture.specs.Palette.{picture_and_palette}
use Rattle.wfc_picture.specs.Symbol.{is_shown, same_symbol}
use Rattle.wfc_picture.specs.declared.symbol.Kind.{Kind}
use Rattle.wfc_picture.specs.declared.symbol.Kind.TheVariants as kinds
use Rattle.wfc_picture.specs.declared.symbol.Symbol.{Symbol}
use Rattle.wfc_picture.specs.declared.symbol.Symbol.TheVariants.{Char, Rgb}
use Rattle.wfc_plan.proofs.CallerLemmas.{unrefused}
use Rattle.wfc_plan.specs.Plan.{Goes, Plan, and_then, done, step}
use Rattle.wfc_plan.specs.declared.fault.Refusal.TheVariants.{Colours, Learn}
use Rattle.wfc_task.proofs.LessonLemmas.{indexed_is, learned_is}
use Rattle.wfc_task.proofs.PictureLemmas.{follows_parts, step_follows}
use Rattle.wfc_render.specs.Map.{is_of_kind, maxval_of}
use Rattle.wfc_task.specs.Given.{IsSample}
use Rattle.wfc_task.specs.Lesson.{IsShown}
use Rattle.wfc_task.specs.SamplePlans.{picture_plan, sample_plan, sampled_plan}
use Rattle.wfc_task.specs.Sampled.{SampledView}
use Rattle.wfc_task.specs.Sources.{window_side_of}
use Rattle.wfc_task.specs.Steps.{sample_in_numbers, patterns_taught}
use Rattle.wfc_task.specs.declared.lesson.Taught.{Taught}
use Rattle.wfc_words.specs.RequestView.{RequestView}

-- the windows have the side asked for, and no two symbols of the palette are one
pub record IsByRequest (asked : RequestView) (patterns : PatternsView) (palette : List Symbol) : Type 0 where
  pub side : patterns.n ≡ window_side_of asked.source
  pub apart : IsDistinct same_symbol palette

-- so it is of symbols that are numbered, and then learned from
by_request : (asked : RequestView) (symbols : List Symbol) (width : ℕ) (made : Raster × List Symbol) (patterns : PatternsView) → picture_and_palette symbols width ≡ Ok made → patterns_of made.0 (window_side_of asked.source) asked.symmetry asked.wrap_in ≡ Ok patterns
    → IsByRequest asked patterns made.1
by_request asked symbols width made patterns numbered learned = record {
  side = ap (λ (p : PatternsView). p.n) (learned_is made.0 (window_side_of asked.source) asked.symmetry asked.wrap_in patterns learned).2;
  apart = subst (IsDistinct same_symbol) (sym (ap (λ (m : Raster × List Symbol). m.1) (indexed_is symbols width made numbered))) (IsDistinct-without_repeats same_symbol symbols);
}

-- of the sample of told files
pub sample_by_request : (asked : RequestView) (files : List File) (kind : Kind) (patterns : PatternsView) (palette : List Symbol) → IsSample asked files kind patterns palette → IsByRequest asked patterns palette
sample_by_request asked files kind patterns palette sample =
    by_request asked sample.sampled.symbols sample.sampled.width (sample.picture, palette) patterns sample.numbered sample.learned

-- of what a plan came to, whether or not its files are told
pub goes_by_request : (asked : RequestView) (lesson : Taught) (before after : FolderView) → Goes (sample_plan asked) before after (Ok lesson) → IsByRequest asked lesson.patterns lesson.palette
goes_by_request asked lesson before after (inr short) = absurd (cc (short.1.2))
goes_by_request asked lesson before after (inl follows) =
    let behind_picture : Kind × Raster × List Symbol → Plan Taught =
    λ made. and_then (step (patterns_taught asked made.1)) (λ patterns. done (record { kind = made.0; palette = made.2; patterns = patterns })) in
    let of_picture = follows_parts (picture_plan asked) behind_picture before after lesson follows in
    let made = of_picture.0 in
    let of_patterns = follows_parts (step (patterns_taught asked made.1)) (λ patterns. done (record { kind = made.0; palette = made.2; patterns = patterns })) before after lesson of_picture.2 in
    let behind_sampled : SampledView → Plan (Kind × Raster × List Symbol) =
    λ sampled. and_then (step (sample_in_numbers sampled)) (λ made. done (sampled.kind, made.0, made.1)) in
    let of_sampled = follows_parts (sampled_plan asked) behind_sampled before before made of_picture.1 in
    let sampled = of_sampled.0 in
    let of_colours = follows_parts (step (sample_in_numbers sampled)) (λ made. done (sampled.kind, made.0, made.1)) before before made of_sampled.2 in
    let numbers = of_colours.0 in
    let same : made ≡ (sampled.kind, numbers.0, numbers.1) = cc (of_colours.2.1) in
    let is : lesson ≡ record { kind = made.0; palette = made.2; patterns = of_patterns.0 } = cc (of_patterns.2.1) in
    let learned = unrefused Learn (patterns_of made.1 (window_side_of asked.source) asked.symmetry asked.wrap_in) of_patterns.0 (step_follows (patterns_taught asked made.1) before before of_patterns.0 of_patterns.1) in
    let numbered = unrefused Colours (picture_and_palette sampled.symbols sampled.width) numbers (step_follows (sample_in_numbers sampled) before before numbers of_colours.1) in
    subst (λ (l : Taught). IsByRequest asked l.patterns l.palette) (sym is)
    (subst (λ (m : Kind × Raster × List Symbol). IsByRequest asked of_patterns.0 m.2) (sym same)
    (by_request asked sampled.symbols sampled.width numbers of_patterns.0 numbered
    (subst (λ (m : Kind × Raster × List Symbol). let end : Result PatternsView _ = Ok of_patterns.0 in patterns_of m.1 (window_side_of asked.source) asked.symmetry asked.wrap_in ≡ end) same learned)))

-- ---- the symbols of a palette

two_bytes : (sample most : ℕ) → most ≤ 65535 → nat_le sample most ≡ true → nat_lt sample (2 ^ 16) ≡ true
two_bytes sample most low is =
    let limit : 2 ^ 16 ≡ 65536 = refl in
    let below : sample ≤ most = grind (arith, nat_tests, is) in
    let small : sample < 65536 = omega (arith, low, below) in
    ap (nat_lt sample) limit ∙ grind (arith, nat_tests, small)

-- what a sample of a kind can show can stand in a sample
shown_symbol : (kind : Kind) (symbol : Symbol) → maxval_of kind ≤ 65535 → is_of_kind kind symbol ≡ true → is_shown symbol ≡ true
shown_symbol kinds.Grid (Char byte) low is = is
shown_symbol kinds.Grid (Rgb colour) low is = absurd (cc (is))
shown_symbol (kinds.Ppm maxval) (Char byte) low is = absurd (cc (is))
shown_symbol (kinds.Ppm maxval) (Rgb colour) low is =
    let two = and_parts (nat_le colour.r maxval && nat_le colour.g maxval) (nat_le colour.b maxval) is in
    let one = and_parts (nat_le colour.r maxval) (nat_le colour.g maxval) two.0 in
    and_from (nat_lt colour.r (2 ^ 16) && nat_lt colour.g (2 ^ 16)) (nat_lt colour.b (2 ^ 16))
    (and_from (nat_lt colour.r (2 ^ 16)) (nat_lt colour.g (2 ^ 16)) (two_bytes colour.r maxval low one.0) (two_bytes colour.g maxval low one.1))
    (two_bytes colour.b maxval low two.1)
shown_symbol kinds.Plain symbol low is = absurd (cc (is))

-- so can all symbols of a palette
pub shown_palette : (kind : Kind) (palette : List Symbol) → IsShown kind palette → All (λ symbol. IsTrue (is_shown symbol)) palette
shown_palette kind palette shown =
    All-weaker (λ symbol. IsTrue (is_of_kind kind symbol)) (λ symbol. IsTrue (is_shown symbol)) (λ symbol is. shown_symbol kind symbol shown.maxval is) palette shown.symbols

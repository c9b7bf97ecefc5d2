use Rattle.std.proofs.Common.{◌≡◌, ℕ, ◌*◌, ◌≤◌, length, nat_eq, sym, ap, ◌∙◌, arith}
use Rattle.std.specs.Cmp.Lexicographic.{pointwise}
use Rattle.std.specs.List.{range_with_len}
use Rattle.std.proofs.lemmas.Result.{IfOk-weaker}
use Rattle.wfc_lists.specs.WithoutRepeats.{without_repeats}
use Rattle.wfc_model.specs.Raster.{height_of}
use Rattle.wfc_model.specs.Window.{starts}
use Rattle.wfc_model.specs.Learned.{learned}
use Rattle.wfc_pattern.specs.Different.{images_of}
use Rattle.wfc_pattern.proofs.LearningLemmas.{starts_within, most_arising}
use Rattle.wfc_pattern.proofs.NumberLemmas.{arising_numbered}
use Rattle.wfc_pattern.proofs.learning.count_patterns.Goals as goal

pub overflow_mul-images-2 : goal.overflow_mul-images-2
overflow_mul-images-2 c =
    let sample = c.args.picture.now in
    let narrow : c.starts-columns.result ≤ sample.width = omega (arith, starts_within c.width.result c.args.n c.args.wrap c.requires.some_side, c.starts-columns.ensures.value, c.width.ensures.value) in
    let low : c.starts-rows.result ≤ height_of sample = omega (arith, starts_within c.height.result c.args.n c.args.wrap c.requires.some_side, c.starts-rows.ensures.value, c.height.ensures.value) in
    omega (arith, most_arising c.starts-columns.result c.starts-rows.result sample.width (height_of sample) c.args.symmetry narrow low c.requires.eight_images c.requires.limit)

pub count_different-requires-clause-limit : goal.count_different-requires-clause-limit
count_different-requires-clause-limit c =
    let sample = c.args.picture.now in
    let narrow : c.starts-columns.result ≤ sample.width = omega (arith, starts_within c.width.result c.args.n c.args.wrap c.requires.some_side, c.starts-columns.ensures.value, c.width.ensures.value) in
    let low : c.starts-rows.result ≤ height_of sample = omega (arith, starts_within c.height.result c.args.n c.args.wrap c.requires.some_side, c.starts-rows.ensures.value, c.height.ensures.value) in
    omega (arith, most_arising c.starts-columns.result c.starts-rows.result sample.width (height_of sample) c.args.symmetry narrow low c.requires.eight_images c.requires.limit)

pub returns : goal.returns
returns c =
    let sample = c.args.picture.now in
    let n = c.args.n in
    let s = c.args.symmetry in
    let wrap = c.args.wrap in
    let wide : c.starts-columns.result ≡ starts sample.width n wrap = c.starts-columns.ensures.value ∙ ap (λ side. starts side n wrap) c.width.ensures.value in
    let high : c.starts-rows.result ≡ starts (height_of sample) n wrap = c.starts-rows.ensures.value ∙ ap (λ side. starts side n wrap) c.height.ensures.value in
    let many : ℕ → ℕ → ℕ = λ columns rows. length (without_repeats (pointwise nat_eq) (images_of sample n s columns (range_with_len 0 (rows * (columns * s))))) in
    let same : many c.starts-columns.result c.starts-rows.result ≡ length (learned sample n s wrap) =
    ap (λ columns. many columns c.starts-rows.result) wide ∙ ap (many (starts sample.width n wrap)) high ∙ ap (λ ws. length (without_repeats (pointwise nat_eq) ws)) (sym (arising_numbered sample n s wrap c.requires.some_image)) in
    record {
      value =
          IfOk-weaker c.count_different.result (λ (count : ℕ). count ≡ many c.starts-columns.result c.starts-rows.result) (λ (count : ℕ). count ≡ length (learned sample n s wrap)) (λ count is. is ∙ same) c.count_different.ensures.value;
    }

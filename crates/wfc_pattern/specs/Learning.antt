-- What is answered of a sample: its patterns, or why it teaches none.
use Rattle.std.specs.Prelude.{ℕ, Bool, not, ◌&&◌, ◌||◌, nat_lt, List, length, map, Result, Ok, Err, if◌then◌else◌}
use Rattle.wfc_model.specs.Raster.{Raster, height_of}
use Rattle.wfc_model.specs.Learned.{arising, learned, weight_of}
use Rattle.wfc_pattern.specs.Patterns.{PatternsView}
use Rattle.wfc_pattern.specs.declared.TheConstants.{MAX_PATTERNS}
use Rattle.wfc_pattern.specs.declared.learning.LearnFault.{LearnFault}
use Rattle.wfc_pattern.specs.declared.learning.LearnFault.TheVariants.{SampleBelowN, TooManyPatterns}

-- whether the sample doesn't wrap and has a side below n
abbrev pub is_below_n : Raster → ℕ → Bool → Bool
is_below_n sample n wrap = not wrap && (nat_lt sample.width n || nat_lt (height_of sample) n)

-- how often each learned window arises, in the order of the windows
abbrev pub learned_weights : Raster → ℕ → ℕ → Bool → List ℕ
learned_weights sample n s wrap = map (weight_of (arising sample n s wrap)) (learned sample n s wrap)

-- the learned windows, and beside each how often it arises
abbrev pub learned_patterns : Raster → ℕ → ℕ → Bool → PatternsView
learned_patterns sample n symmetry wrap = record {
  n = n;
  windows = learned sample n symmetry wrap;
  weights = map (weight_of (arising sample n symmetry wrap)) (learned sample n symmetry wrap);
}

-- the patterns of a sample, but for one without room for a window, and one that teaches too many
abbrev pub patterns_of : Raster → ℕ → ℕ → Bool → Result PatternsView LearnFault
patterns_of sample n symmetry wrap =
    if is_below_n sample n wrap then Err SampleBelowN
    else if nat_lt MAX_PATTERNS (length (learned sample n symmetry wrap))
    then Err (TooManyPatterns (length (learned sample n symmetry wrap)))
    else Ok (learned_patterns sample n symmetry wrap)

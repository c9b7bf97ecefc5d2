-- Patterns as a value: windows in order, and beside each how often it arises.
use Rattle.std.specs.Prelude.{◌≡◌, ◌≢◌, ℕ, ◌*◌, ◌<◌, ◌≤◌, List, [], length, All, AllPairs, slice_index, slice_index_or}
use Rattle.wfc_pattern.specs.declared.TheConstants.{MAX_PATTERNS, MAX_ARISING}

-- the side of a window, the windows in the order of their first appearance, and beside each how often it arises
pub record PatternsView : Type 0 where
  pub n : ℕ
  pub windows : List (List ℕ)
  pub weights : List ℕ

-- the window with a number
abbrev pub window_at : PatternsView → ℕ → List ℕ
window_at patterns p = slice_index_or patterns.windows p []

-- how often the window with a number arises
abbrev pub weight_at : PatternsView → ℕ → ℕ
weight_at patterns p = slice_index patterns.weights p

-- no two windows of a list are one
abbrev pub AreDifferent : List (List ℕ) → Type 0
AreDifferent windows = AllPairs (λ v w. v ≢ w) windows

-- what holds of all patterns: some windows, not too many, of n by n numbers, no two of them one, and a weight for each
pub record IsPatterns (patterns : PatternsView) : Type 0 where
  pub some_side : 0 < patterns.n
  pub small_side : patterns.n ≤ 6
  pub some_window : 0 < length patterns.windows
  pub few : length patterns.windows ≤ MAX_PATTERNS
  pub squares : All (λ (window : List ℕ). length window ≡ patterns.n * patterns.n) patterns.windows
  pub different : AreDifferent patterns.windows
  pub weighed : length patterns.weights ≡ length patterns.windows
  pub some_weight : All (λ weight. 0 < weight) patterns.weights
  pub small_weight : All (λ weight. weight ≤ MAX_ARISING) patterns.weights

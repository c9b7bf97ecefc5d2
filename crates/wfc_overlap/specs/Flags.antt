-- Tables of flags, a row for each place and a flag for each pattern, from which patterns are taken
-- away.
use Rattle.std.specs.Prelude.{◌≡◌, ℕ, ◌*◌, ◌<◌, Bool, ◌&&◌, List, length}
use Rattle.wfc_model.specs.Window.{starts}
use Rattle.wfc_pattern.specs.Patterns.{PatternsView, window_at}
use Rattle.wfc_places.specs.Steps.{place_number}
use Rattle.wfc_places.specs.Flags.{flag}
use Rattle.wfc_overlap.specs.Sample.{Output}

-- the flags at each place and pattern are as said
abbrev pub AreFlags : PatternsView → Output → List Bool → (ℕ × ℕ → ℕ → Bool) → Type 0
AreFlags patterns output flags said =
    let columns = starts output.width patterns.n output.wrap in
    (x y v : ℕ) → x < columns → y < starts output.height patterns.n output.wrap
    → v < length patterns.windows
    → flag (length patterns.windows) flags (place_number columns x y) v ≡ said (x, y) v

-- a table has a flag for each place and pattern
abbrev pub IsTable : PatternsView → Output → List Bool → Type 0
IsTable patterns output flags =
    length flags ≡ starts output.height patterns.n output.wrap
    * starts output.width patterns.n output.wrap * length patterns.windows

-- a flag stood before, and its pattern passes a test
abbrev pub passes_on : PatternsView → Output → List Bool → (ℕ × ℕ → List ℕ → Bool)
    → ℕ × ℕ → ℕ → Bool
passes_on patterns output old passes place v =
    let cell = place_number (starts output.width patterns.n output.wrap) place.0 place.1 in
    flag (length patterns.windows) old cell v && passes place (window_at patterns v)

-- a pattern stays at a place where it stood and passes a test
pub record AreCut (patterns : PatternsView) (output : Output) (old new : List Bool)
    (passes : ℕ × ℕ → List ℕ → Bool) : Type 0 where
  pub as_long : length new ≡ length old
  pub left : AreFlags patterns output new (passes_on patterns output old passes)

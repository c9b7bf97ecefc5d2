-- The problem of a sample in its own words: places, and which pins a window holds.
use Rattle.std.specs.Prelude.{◌≡◌, ◌≢◌, ℕ, ◌+◌, ◌%◌, ◌<◌, Contains, List, MatchBool, length}
use Rattle.wfc_model.specs.Image.{cell_at}
use Rattle.wfc_model.specs.Legal.{Pin}
use Rattle.wfc_model.specs.Window.{starts}
use Rattle.wfc_pattern.specs.Agreement.{Agrees}
use Rattle.wfc_pattern.specs.Patterns.{PatternsView, window_at}
use Rattle.wfc_places.specs.Steps.{IsStepFrom, place_number}
use Rattle.wfc_problem.specs.Network.{supports_of}
use Rattle.wfc_overlap.specs.Sample.{Output, problem_of_sample}

-- how many columns of places an output has
abbrev pub place_columns : PatternsView → Output → ℕ
place_columns patterns output = starts output.width patterns.n output.wrap

-- and how many rows
abbrev pub place_rows : PatternsView → Output → ℕ
place_rows patterns output = starts output.height patterns.n output.wrap

-- an output has a place in this column and row
pub record IsPlaceOf (patterns : PatternsView) (output : Output) (x y : ℕ) : Type 0 where
  pub column : x < place_columns patterns output
  pub row : y < place_rows patterns output

-- the cell of a place
abbrev pub place_cell : PatternsView → Output → ℕ → ℕ → ℕ
place_cell patterns output x y = place_number (place_columns patterns output) x y

-- from the place in column x and row y one step in direction d leads to that in column u and row v
abbrev pub IsPlaceStep : PatternsView → Output → ℕ → ℕ → ℕ → ℕ → ℕ → Type 0
IsPlaceStep patterns output d x y u v =
    IsStepFrom output.wrap (place_columns patterns output) (place_rows patterns output) d x y u v

-- in the problem of a sample the pattern q may stand beside p in direction d
abbrev pub IsSampleSupport : PatternsView → Output → List Pin → ℕ → ℕ → ℕ → Type 0
IsSampleSupport patterns output pins p d q =
    Contains (supports_of (problem_of_sample patterns output pins) p d) q

-- q is one of the patterns, and agrees with the pattern p in direction d
abbrev pub IsAgreeing : PatternsView → ℕ → ℕ → ℕ → Type 0
IsAgreeing patterns p d q =
    (q < length patterns.windows)
    × Agrees patterns.n (window_at patterns p) (window_at patterns q) d

-- a window at a place holds a pin: where it reaches the pin's pixel, it has the pin's number there, or another
-- than a ban's
abbrev pub HoldsPin : ℕ → Output → ℕ → ℕ → List ℕ → Pin → Type 0
HoldsPin n output x y w pin =
    (i j : ℕ) → i < n → j < n → (x + i) % output.width ≡ pin.column → (y + j) % output.height ≡ pin.row
    → MatchBool pin.keep (cell_at n w i j ≡ pin.number) (cell_at n w i j ≢ pin.number)

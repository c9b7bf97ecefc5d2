-- One value for each cell.
use Rattle.std.specs.Prelude.{◌≡◌, ℕ, ◌<◌, Bool, List, length, Some, slice_index, IsTrue}
use Rattle.wfc_problem.specs.Network.{Network, neighbour, ok, in_base}

-- each cell has a value of its base, and each neighbour that exists has one that may stand there beside it
pub record IsLegalAssignment (P : Network) (a : List ℕ) : Type 0 where
  pub each_cell : length a ≡ P.cells
  pub based : (c : ℕ) → c < P.cells → IsTrue (in_base P c (slice_index a c))
  pub beside : (c d n : ℕ) → neighbour P c d ≡ Some n → IsTrue (ok P d (slice_index a c) (slice_index a n))

-- each cell's value stands in D
abbrev pub LiesIn : List ℕ → (ℕ → ℕ → Bool) → Type 0
LiesIn a D = (c : ℕ) → c < length a → IsTrue (D c (slice_index a c))

-- a is a legal assignment, and lies within D
abbrev pub IsLegalWithin : Network → (ℕ → ℕ → Bool) → List ℕ → Type 0
IsLegalWithin P D a = IsLegalAssignment P a × LiesIn a D

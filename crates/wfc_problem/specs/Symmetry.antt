-- How far the test of symmetry has come.
use Rattle.std.specs.Prelude.{◌≡◌, ◌<◌, ◌≤◌, ℕ, Bool, true, false, List, length, slice_index, Option, Some, None}
use Rattle.wfc_model.specs.Direction.{opposite}
use Rattle.wfc_problem.specs.Network.{Network, values, supports_of, ok}

-- the least row that fails in one of the first n columns, and in it the first of these columns
abbrev pub IsEarliest : (ℕ → ℕ → Bool) → ℕ → ℕ → Option (ℕ × ℕ) → Type 0
IsEarliest passes rows n None = (r c : ℕ) → r < rows → c < n → passes r c ≡ true
IsEarliest passes rows n (Some (r, c)) =
    (r < rows) × (c < n) × (passes r c ≡ false) × ((k d : ℕ) → k < r → d < n → passes k d ≡ true)
    × ((d : ℕ) → d < c → passes r d ≡ true)

-- the first of `end` numbers that fails a test, or `end`
pub record IsEndOf (passes : ℕ → Bool) (end n : ℕ) : Type 0 where
  pub few : n ≤ end
  pub passed : (k : ℕ) → k < n → passes k ≡ true
  pub fails : n < end → passes n ≡ false

-- the first so many supports of v in direction d support v the other way
abbrev pub IsPassed : Network → ℕ → ℕ → ℕ → Type 0
IsPassed P d v many = (k : ℕ) → k < many → ok P (opposite d) (slice_index (supports_of P v d) k) v ≡ true

-- behind the first so many, no support of v in direction d is below `high`
abbrev pub HasReached : Network → ℕ → ℕ → ℕ → ℕ → Type 0
HasReached P d v high many = many < length (supports_of P v d) → high ≤ slice_index (supports_of P v d) many

-- of each value so many supports are passed as the list says
pub record ArePassed (P : Network) (d : ℕ) (passed : List ℕ) : Type 0 where
  pub each_value : values P ≤ length passed
  pub each : (v : ℕ) → v < values P → IsPassed P d v (slice_index passed v)

-- of each value below `end` all supports below `high` are among the first so many
abbrev pub HaveReached : Network → ℕ → ℕ → ℕ → List ℕ → Type 0
HaveReached P d high end passed = (v : ℕ) → v < end → HasReached P d v high (slice_index passed v)

-- for each value a place in its list for direction d, before which all is below v
pub record AreBefore (P : Network) (d v : ℕ) (places : List ℕ) : Type 0 where
  pub each_value : values P ≤ length places
  pub below : (w k : ℕ) → k < slice_index places w → slice_index (supports_of P w d) k < v

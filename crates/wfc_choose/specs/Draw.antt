-- The value that a word draws.
use Rattle.std.specs.Prelude.{ℕ, List, [], ◌∷◌, ◌++◌, ◌≡◌, ◌↔◌, ◌+◌, ◌%◌, ◌<◌, ◌≤◌, nat_lt, if◌then◌else◌}
use Rattle.std.specs.List.{sum_by}
use Rattle.wfc_problem.specs.Network.{Network, value_weight}

-- the first of the values whose running sum of weights, counted on from `running`, exceeds the number
abbrev pub first_above : Network → ℕ → ℕ → List ℕ → ℕ
first_above P number running [] = 0
first_above P number running (v ∷ vs) =
    if nat_lt number (running + value_weight P v) then v else first_above P number (running + value_weight P v) vs

-- the first of the values whose running sum of weights exceeds the word modulo the sum of all their weights
unfoldable pub drawn_value : Network → List ℕ → ℕ → ℕ
drawn_value P values word = first_above P (word % sum_by (value_weight P) values) 0 values

-- the number is in the share of v behind these values: at least the sum of their weights, and below that with v's own
abbrev pub IsInShare : Network → List ℕ → ℕ → ℕ → Type 0
IsInShare P front v number =
    (sum_by (value_weight P) front ≤ number) × (number < sum_by (value_weight P) front + value_weight P v)

-- the word draws a value of these exactly where its number is in the share of that value
abbrev pub IsDrawnByShare : Network → List ℕ → ℕ → Type 0
IsDrawnByShare P values word =
    (v : ℕ) (front behind : List ℕ)
    → values ≡ front ++ v ∷ behind
    → (drawn_value P values word ≡ v) ↔ IsInShare P front v (word % sum_by (value_weight P) values)

-- one cell whose values 0, 1 and 2 have the weights 3, 1 and 5
abbrev pub trio : Network
trio = record {
  cells = 1;
  dirs = 4;
  neighbours = [];
  weights = 3 ∷ 1 ∷ 5 ∷ [];
  supports = [];
  base = [];
}

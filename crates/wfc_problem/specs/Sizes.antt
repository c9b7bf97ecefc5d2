-- How many values stand at each cell, and which.
use Rattle.std.specs.Prelude.{ℕ, Bool, List, ◌==◌, filter, length, map, slice_index}
use Rattle.std.specs.List.{list_any, range_with_len}
use Rattle.wfc_problem.specs.Domains.{Test}
use Rattle.wfc_problem.specs.Network.{Network, values}

-- the values that stand at a cell, in rising order
abbrev pub values_at : Network → Test → ℕ → List ℕ
values_at P D c = filter (D c) (range_with_len 0 (values P))

-- how many they are
abbrev pub size_at : Network → Test → ℕ → ℕ
size_at P D c = length (values_at P D c)

-- the size of each cell
abbrev pub sizes_of : Network → Test → List ℕ
sizes_of P D = map (size_at P D) (range_with_len 0 P.cells)

-- whether some cell is empty
abbrev pub is_dead : Network → Test → Bool
is_dead P D = list_any (λ size. size == 0) (sizes_of P D)

-- the first value of each cell
abbrev pub first_values : Network → Test → List ℕ
first_values P D = map (λ c. slice_index (values_at P D c) 0) (range_with_len 0 P.cells)

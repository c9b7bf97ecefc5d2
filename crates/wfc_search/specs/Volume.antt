-- The product of the sizes of all cells.
use Rattle.std.specs.Prelude.{ℕ, ◌+◌, ◌-◌, ◌*◌, List, [], ◌∷◌}
use Rattle.wfc_problem.specs.Domains.{Test}
use Rattle.wfc_problem.specs.Network.{Network}
use Rattle.wfc_problem.specs.Rounds.{greatest}
use Rattle.wfc_problem.specs.Sizes.{sizes_of}

-- the product of all numbers
abbrev pub product : List ℕ → ℕ
product [] = 1
product (x ∷ xs) = x * product xs

-- how many ways there are to take one value of each cell
abbrev pub ways : Network → Test → ℕ
ways P D = product (sizes_of P D)

-- the product of the sizes of all cells, with no literals
abbrev pub volume_of : Network → ℕ
volume_of P = ways P (greatest P [])

-- the number, and 1 for 0
abbrev pub at_least_one : ℕ → ℕ
at_least_one n = n + (1 - n)

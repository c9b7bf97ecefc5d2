-- The greatest consistent domains, computed by rounds.
use Rattle.std.specs.Prelude.{ℕ, zero, suc, Bool, true, ◌&&◌, List, Option, Some, None, count_by}
use Rattle.std.specs.List.{list_all, list_any, range_with_len, sum_by}
use Rattle.wfc_problem.specs.Network.{Network, values, neighbour, supports_of, in_base}
use Rattle.wfc_problem.specs.Domains.{Test, base_with}
use Rattle.wfc_problem.specs.declared.Literal.{Literal}

-- some support of v stands at the neighbour, if there is one
abbrev pub side_holds : Network → Test → ℕ → ℕ → Option ℕ → Bool
side_holds P E v d None = true
side_holds P E v d (Some n) = list_any (E n) (supports_of P v d)

-- v has support at c in each direction
abbrev pub is_supported : Network → Test → ℕ → ℕ → Bool
is_supported P E c v = list_all (λ d. side_holds P E v d (neighbour P c d)) (range_with_len 0 P.dirs)

-- what stands and has support
abbrev pub round : Network → Test → Test
round P E c v = E c v && is_supported P E c v

-- each round drops at once what then lacks a support
abbrev pub rounds : Network → Test → ℕ → Test
rounds P E zero = E
rounds P E (suc n) = round P (rounds P E n)

-- how many pairs of the problem stand
abbrev pub pairs : Network → Test → ℕ
pairs P E = sum_by (λ c. count_by (E c) (range_with_len 0 (values P))) (range_with_len 0 P.cells)

-- how many pairs of a cell and a base value there are
abbrev pub depth_of : Network → ℕ
depth_of P = pairs P (in_base P)

-- what stands of the cut base after as many rounds
unfoldable pub greatest : Network → List Literal → Test
greatest P literals = rounds P (base_with P literals) (depth_of P)

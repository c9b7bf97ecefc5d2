-- The counters that count one value: those of the values that it supports, at its neighbours.
use Rattle.std.specs.Prelude.{ℕ, zero, suc, ◌==◌, List, [], ◌++◌, count_by, map, Option, Some, None}
use Rattle.wfc_model.specs.Direction.{opposite}
use Rattle.wfc_problem.specs.Network.{Network, neighbour, supports_of}
use Rattle.wfc_domains.specs.Counters.{counter_place}

-- those at the neighbour in direction d
abbrev pub side_places : Network → ℕ → ℕ → Option ℕ → List ℕ
side_places P v d None = []
side_places P v d (Some n) = map (λ w. counter_place P n w (opposite d)) (supports_of P v d)

-- those in the first directions
abbrev pub places_upto : Network → ℕ → ℕ → ℕ → List ℕ
places_upto P c v zero = []
places_upto P c v (suc d) = places_upto P c v d ++ side_places P v d (neighbour P c d)

-- those in the directions before d, and those at the neighbour n in direction d
abbrev pub places_through : Network → ℕ → ℕ → ℕ → ℕ → List ℕ
places_through P c v d n = places_upto P c v d ++ side_places P v d (Some n)

-- all of them
abbrev pub counter_places : Network → ℕ → ℕ → List ℕ
counter_places P c v = places_upto P c v P.dirs

-- how often a number stands in a list
abbrev pub times : ℕ → List ℕ → ℕ
times i xs = count_by (λ x. x == i) xs

-- Why parts are no problem: the first check, in the order in which they are made, that the parts don't pass.
use Rattle.std.specs.Prelude.{ℕ, ◌+◌, ◌*◌, Bool, true, false, not, ◌&&◌, ◌||◌, List, [], ◌∷◌, length, nat_lt, nat_le}
use Rattle.std.specs.Prelude.{◌==◌, if◌then◌else◌, Option, Some, None}
use Rattle.std.specs.List.{find, list_all, position, range_with_len}
use Rattle.std.specs.Option.{option_map, option_or}
use Rattle.wfc_model.specs.Direction.{opposite}
use Rattle.wfc_problem.specs.declared.Part.TheVariants.{Cells, Neighbours, Weights, Supports, Base}
use Rattle.wfc_problem.specs.declared.ProblemFault.{ProblemFault}
use Rattle.wfc_problem.specs.declared.ProblemFault.TheVariants.{TooLarge, NotSymmetric, BadIndex, NotBack, Lengths, BadWeight}
use Rattle.wfc_problem.specs.declared.TheConstants.{MAX_PAIRS, MAX_VALUES, MAX_WEIGHT, NO_CELL}
use Rattle.wfc_problem.specs.Network.{Network, values, neighbour, supports_of, ok}

-- the fault, unless the check is passed
abbrev pub unless : Bool → ProblemFault → Option ProblemFault
unless passed fault = if passed then None else Some fault

-- the first of n numbers that doesn't pass a test
abbrev pub first_failing : (ℕ → Bool) → ℕ → Option ℕ
first_failing passes n = find (λ k. not (passes k)) (range_with_len 0 n)

-- the first row, and in it the first column, at which a test isn't passed
abbrev pub first_pair : (ℕ → ℕ → Bool) → List ℕ → ℕ → Option (ℕ × ℕ)
first_pair passes [] columns = None
first_pair passes (r ∷ rs) columns =
    option_or (option_map (λ c. (r, c)) (first_failing (passes r) columns))
    (first_pair passes rs columns)

-- the counts and the lengths are as said: cells, weights, neighbours, supports, base
abbrev pub lengths_fault : Network → Option ProblemFault
lengths_fault P =
    option_or (unless (nat_lt 0 P.cells && (P.dirs == 4 || P.dirs == 6)) (Lengths Cells))
    (option_or (unless (nat_lt 0 (values P) && nat_le (values P) MAX_VALUES) (Lengths Weights))
    (option_or (unless (length P.neighbours == P.cells * P.dirs) (Lengths Neighbours))
    (option_or (unless (length P.supports == values P * P.dirs) (Lengths Supports))
    (unless (length P.base == P.cells * values P) (Lengths Base)))))

-- there are at most so many pairs of a cell and a value
abbrev pub pair_count_fault : Network → Option ProblemFault
pair_count_fault P = unless (nat_le (P.cells * values P) MAX_PAIRS) (TooLarge (P.cells * values P))

-- an entry of the neighbour table is none or one of n cells
abbrev pub is_entry : ℕ → ℕ → Bool
is_entry n entry = entry == NO_CELL || nat_lt entry n

-- the numbers rise, from low on and below n
abbrev pub rises : ℕ → ℕ → List ℕ → Bool
rises low n [] = true
rises low n (w ∷ ws) = nat_le low w && nat_lt w n && rises (w + 1) n ws

-- each entry of the neighbours names a cell or none
abbrev pub neighbours_fault : Network → Option ProblemFault
neighbours_fault P = option_map (λ at. BadIndex Neighbours at) (position (λ n. not (is_entry P.cells n)) P.neighbours)

-- each list of supports rises below the number of values
abbrev pub supports_fault : Network → Option ProblemFault
supports_fault P = option_map (λ at. BadIndex Supports at) (position (λ ws. not (rises 0 (values P) ws)) P.supports)

-- a weight is 1 to 16,777,216
abbrev pub is_weight : ℕ → Bool
is_weight w = nat_lt 0 w && nat_le w MAX_WEIGHT

-- each weight is one
abbrev pub weight_fault : Network → Option ProblemFault
weight_fault P = option_map (λ v. BadWeight v) (position (λ w. not (is_weight w)) P.weights)

-- the entry is this cell
abbrev pub names_cell : ℕ → Option ℕ → Bool
names_cell c None = false
names_cell c (Some n) = n == c

-- from the cell beside c, if there is one, the opposite direction leads back to c
abbrev pub returns : Network → ℕ → ℕ → Option ℕ → Bool
returns P c d None = true
returns P c d (Some n) = names_cell c (neighbour P n (opposite d))

-- so from the cell beside c in direction d
abbrev pub leads_back : Network → ℕ → ℕ → Bool
leads_back P c d = returns P c d (neighbour P c d)

-- each way leads back
abbrev pub back_fault : Network → Option ProblemFault
back_fault P = option_map (λ p. NotBack p.0 p.1) (first_pair (leads_back P) (range_with_len 0 P.cells) P.dirs)

-- each value that may stand beside v in direction d has v beside it the other way
abbrev pub is_mutual : Network → ℕ → ℕ → Bool
is_mutual P v d = list_all (λ w. ok P (opposite d) w v) (supports_of P v d)

-- what may stand beside a value has the value beside it the other way
abbrev pub symmetry_fault : Network → Option ProblemFault
symmetry_fault P =
    option_map (λ p. NotSymmetric p.0 p.1)
    (first_pair (is_mutual P) (range_with_len 0 (values P)) P.dirs)

-- the first fault of the parts, if they have one
unfoldable pub problem_fault_of : Network → Option ProblemFault
problem_fault_of P =
    option_or (lengths_fault P)
    (option_or (pair_count_fault P)
    (option_or (neighbours_fault P)
    (option_or (supports_fault P)
    (option_or (weight_fault P)
    (option_or (back_fault P)
    (symmetry_fault P))))))

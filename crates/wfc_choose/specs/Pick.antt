-- The cell that a rule picks, told from the sizes of all cells.
use Rattle.std.specs.Prelude.{ℕ, ◌<◌, ◌≤◌, List, Bool, ◌&&◌, ◌||◌, not, Option, Some, None, length, nat_le, slice_index, slice_index_or}
use Rattle.std.specs.List.{find, list_all, range_with_len}
use Rattle.wfc_choose.specs.declared.RuleKind.{RuleKind}
use Rattle.wfc_choose.specs.declared.RuleKind.TheVariants.{Scanline, Fewest, Ranked}
use Rattle.wfc_choose.specs.declared.TheConstants.{NO_RANK}

-- a kind of rule, and the ranks of the first cells
pub record Rule : Type 0 where
  pub kind : RuleKind
  pub ranks : List ℕ

-- cell c has two values or more
abbrev pub is_open : List ℕ → ℕ → Bool
is_open sizes c = nat_le 2 (slice_index sizes c)

-- c is a cell that has two values or more
abbrev pub IsOpen : List ℕ → ℕ → Type 0
IsOpen sizes c = (c < length sizes) × (2 ≤ slice_index sizes c)

-- what a kind of rule goes by at cell c: nothing, its size, or its rank
abbrev pub urge_by : RuleKind → List ℕ → List ℕ → ℕ → ℕ
urge_by Scanline ranks sizes c = 0
urge_by Fewest ranks sizes c = slice_index sizes c
urge_by Ranked ranks sizes c = slice_index_or ranks c NO_RANK

-- what a rule goes by at cell c
abbrev pub urge : Rule → List ℕ → ℕ → ℕ
urge rule sizes c = urge_by rule.kind rule.ranks sizes c

-- no open cell comes before c by the rule
abbrev pub is_least : Rule → List ℕ → ℕ → Bool
is_least rule sizes c =
    list_all (λ other. not (is_open sizes other) || nat_le (urge rule sizes c) (urge rule sizes other)) (range_with_len 0 (length sizes))

-- the first of the open cells before which none comes by the rule, if any cell is open
unfoldable pub picked_cell : Rule → List ℕ → Option ℕ
picked_cell rule sizes = find (λ c. is_open sizes c && is_least rule sizes c) (range_with_len 0 (length sizes))

-- of the cells below n this one is to be picked, or none of them is open
abbrev pub IsBestBelow : Rule → List ℕ → ℕ → Option ℕ → Type 0
IsBestBelow rule sizes n None = (c : ℕ) → c < n → slice_index sizes c ≤ 1
IsBestBelow rule sizes n (Some best) =
    (best < n)
    × (2 ≤ slice_index sizes best)
    × ((c : ℕ) → c < n → 2 ≤ slice_index sizes c → urge rule sizes best ≤ urge rule sizes c)
    × ((c : ℕ) → c < best → 2 ≤ slice_index sizes c → urge rule sizes best < urge rule sizes c)

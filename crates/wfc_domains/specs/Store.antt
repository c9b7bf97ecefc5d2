-- What contracts see of a store, and what every store promises.
use Rattle.std.specs.Prelude.{◌≡◌, ℕ, ◌+◌, ◌-◌, ◌*◌, ◌<◌, ◌≤◌, ◌⊎◌, List, [], ◌∷◌, ◌++◌, length, max, take}
use Rattle.std.specs.Prelude.{drop, slice_index, slice_get, Some, IsTrue, IsFalse}
use Rattle.wfc_problem.specs.Network.{Network, in_base, IsProblem}
use Rattle.wfc_problem.specs.Domains.{Test, IsGreatest, IsEmptyAt}
use Rattle.wfc_problem.specs.Rounds.{greatest}
use Rattle.wfc_problem.specs.Sizes.{is_dead}
use Rattle.wfc_problem.specs.declared.Literal.{Literal}
use Rattle.wfc_log.specs.declared.Cause.TheVariants.{Arc}
use Rattle.wfc_log.specs.declared.Removal.{Removal}
use Rattle.wfc_log.specs.declared.Verdict.{Verdict}
use Rattle.wfc_log.specs.declared.Verdict.TheVariants.{Alive, Dead}
use Rattle.wfc_domains.specs.declared.board.TheConstants.{LISTED}
use Rattle.wfc_domains.specs.Removals.{without, IsUnsupported, AreRemoved}

-- the problem, the literals that stand, how many more there is room for, all removals that stand in their order,
-- how many there were when each literal was put on, and the verdict
pub record StoreView : Type 0 where
  pub problem : Network
  pub standing : List Literal
  pub spare : ℕ
  pub removals : List Removal
  pub marks : List ℕ
  pub verdict : Verdict

-- the domains: the base without what was removed
abbrev pub left_of : StoreView → Test
left_of v = without (in_base v.problem) v.removals

-- how many removals there were before the last literal, none where no literal stands
abbrev pub level_mark : List ℕ → ℕ
level_mark marks = slice_index marks (length marks - 1)

-- all but the last
abbrev pub all_but_last : {X : Type 0} → List X → List X
all_but_last xs = take (length xs - 1) xs

-- the domains that the last level began with: those before the last literal, or the base where none stands
abbrev pub before_of : StoreView → Test
before_of v = without (in_base v.problem) (take (level_mark v.marks) v.removals)

-- the removals of the last level, those of the opening where no literal stands
abbrev pub added_of : StoreView → List Removal
added_of v = drop (level_mark v.marks) v.removals

-- how many removals of a level a list may have: two for each cell, and not fewer than 4,096
abbrev pub list_limit : Network → ℕ
list_limit P = max (2 * P.cells) LISTED

-- the last level has at least as many removals as a list may have
abbrev pub IsLongLevel : StoreView → Type 0
IsLongLevel v = list_limit v.problem ≤ length (added_of v)

-- alive: D is the greatest, and no cell is empty. Dead: some cell is empty in the greatest domains,
-- and this one is in D
abbrev pub IsVerdict : Network → List Literal → Test → Verdict → Type 0
IsVerdict P literals D Alive = IsGreatest P literals D × IsFalse (is_dead P D)
IsVerdict P literals D (Dead cell) = IsTrue (is_dead P (greatest P literals)) × (cell < P.cells) × IsEmptyAt D cell

-- cell c, value v and direction d come before others: first by the cell, then by the value, then by the direction
abbrev pub IsBefore : ℕ → ℕ → ℕ → ℕ → ℕ → ℕ → Type 0
IsBefore c v d c' v' d' = (c < c') ⊎ ((c ≡ c') × ((v < v') ⊎ ((v ≡ v') × (d < d'))))

-- the removal is for want of support in a direction, and no cell, value and direction without a support in D come before these
pub record IsLeastUnsupported (P : Network) (D : Test) (r : Removal) : Type 0 where
  pub dir : ℕ
  pub arc : r.cause ≡ Arc dir
  pub least : (c v d : ℕ) → IsTrue (D c v) → IsUnsupported P D c v d → IsBefore c v d r.cell r.value dir → ⊥

-- the least cell is empty in D
pub record IsLeastEmpty (P : Network) (D : Test) (cell : ℕ) : Type 0 where
  pub cell_in : cell < P.cells
  pub empty : IsEmptyAt D cell
  pub least : (c : ℕ) → c < cell → IsEmptyAt D c → ⊥

-- an opening: where a cell's base is empty, the least such cell is named and nothing removed; else the first removal,
-- if there is one, is the least
pub record IsOpening (P : Network) (removals : List Removal) (verdict : Verdict) : Type 0 where
  pub empty : (cell : ℕ) → IsLeastEmpty P (in_base P) cell → (removals ≡ []) × (verdict ≡ Dead cell)
  pub first : (r : Removal) → slice_get removals 0 ≡ Some r → IsLeastUnsupported P (in_base P) r

-- the verdict is true; the last level began alive, with the greatest domains of the literals before its own; its
-- removals are true at their points; and without literals it is the opening
pub record IsSound (v : StoreView) : Type 0 where
  pub problem : IsProblem v.problem
  pub marked : length v.marks ≡ length v.standing
  pub verdict : IsVerdict v.problem v.standing (left_of v) v.verdict
  pub began : 0 < length v.standing → IsVerdict v.problem (all_but_last v.standing) (before_of v) Alive
  pub added : AreRemoved v.problem v.standing (before_of v) (added_of v)
  pub opening : v.standing ≡ [] → IsOpening v.problem v.removals v.verdict

-- a literal was put on: one level less is spare, and removals were added to those that stood
pub record IsAssumed (old new : StoreView) (literal : Literal) : Type 0 where
  pub problem : new.problem ≡ old.problem
  pub standing : new.standing ≡ old.standing ++ literal ∷ []
  pub spare : new.spare + 1 ≡ old.spare
  pub marks : new.marks ≡ old.marks ++ length old.removals ∷ []
  pub removals : take (length old.removals) new.removals ≡ old.removals

-- the last literal was taken away: one level more is spare, and the store is alive
pub record IsUndone (old new : StoreView) : Type 0 where
  pub problem : new.problem ≡ old.problem
  pub standing : new.standing ≡ all_but_last old.standing
  pub spare : new.spare ≡ old.spare + 1
  pub alive : new.verdict ≡ Alive

-- the store as it was before its last literal was put on
abbrev pub without_last : StoreView → StoreView
without_last v = record {
  problem = v.problem;
  standing = all_but_last v.standing;
  spare = v.spare + 1;
  removals = take (level_mark v.marks) v.removals;
  marks = all_but_last v.marks;
  verdict = Alive;
}

-- a store of this problem that was just opened: no literal stands, and so many levels are spare
pub record IsOpened (v : StoreView) (P : Network) (levels : ℕ) : Type 0 where
  pub problem : v.problem ≡ P
  pub standing : v.standing ≡ []
  pub spare : v.spare ≡ levels
  pub sound : IsSound v

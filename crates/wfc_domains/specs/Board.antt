-- What holds of a board: domains, the log that led to them, and the levels of literals.
use Rattle.std.specs.Prelude.{◌≡◌, ℕ, ◌+◌, ◌-◌, ◌*◌, ◌<◌, ◌≤◌, ◌⊎◌, List, [], ◌∷◌, ◌++◌, ◌==◌, if◌then◌else◌}
use Rattle.std.specs.Prelude.{length, take, slice_index, IsTrue}
use Rattle.wfc_problem.specs.Network.{values, in_base, IsProblem}
use Rattle.wfc_problem.specs.Domains.{Test, Within, base_with}
use Rattle.wfc_problem.specs.Rounds.{depth_of}
use Rattle.wfc_problem.specs.declared.Literal.{Literal}
use Rattle.wfc_log.specs.declared.Cause.{Cause}
use Rattle.wfc_log.specs.declared.Removal.{Removal}
use Rattle.wfc_log.specs.declared.Verdict.TheVariants.{Alive, Dead}
use Rattle.wfc_domains.specs.declared.board.Board.{Board}
use Rattle.wfc_log.specs.Domains.{Flags, has, size_of, less, IsLess}
use Rattle.wfc_log.specs.Log.{extent_of}
use Rattle.wfc_domains.specs.Removals.{without, AreRemoved}
use Rattle.wfc_domains.specs.Store.{StoreView, IsSound, IsOpening, left_of, before_of, added_of, level_mark, IsLongLevel}

-- a board as its callers see it
abbrev pub view_of : Board → StoreView
view_of b = record {
  problem = b.problem.now;
  standing = b.levels.standing;
  spare = b.levels.spare;
  removals = b.trail.removals;
  marks = b.levels.marks;
  verdict = b.verdict;
}

-- each removed value stood just before
abbrev pub AreStood : Test → List Removal → Type 0
AreStood D [] = Unit {0}
AreStood D (r ∷ rs) = IsTrue (D r.cell r.value) × AreStood (less D r.cell r.value) rs

-- the domains are what the removals left of the base
pub record IsTraced (b : Board) : Type 0 where
  pub problem : IsProblem b.problem.now
  pub same_cells : b.domains.cells ≡ b.problem.now.cells
  pub same_values : b.domains.values ≡ values b.problem.now
  pub whole : length b.domains.flags ≡ b.problem.now.cells * values b.problem.now
  pub stands : has b.domains ≡ left_of (view_of b)
  pub stood : AreStood (in_base b.problem.now) b.trail.removals
  pub room : depth_of b.problem.now + 1 ≤ b.trail.room + b.problem.now.cells
  pub extent : b.trail.extent ≡ extent_of b.problem.now

-- each cell has a value left
abbrev pub HasValues : Board → Type 0
HasValues b = (c : ℕ) → c < b.problem.now.cells → 0 < size_of b.domains c

-- the store as it was before literal k was put on, but for the levels that were spare
abbrev pub view_at : StoreView → ℕ → ℕ → StoreView
view_at v k spare = record {
  problem = v.problem;
  standing = take k v.standing;
  spare = spare;
  removals = take (slice_index v.marks k) v.removals;
  marks = take k v.marks;
  verdict = Alive;
}

-- before each literal the store was sound and alive
pub record HasLevels (v : StoreView) : Type 0 where
  pub one_mark_each : length v.marks ≡ length v.standing
  pub ordered : (j k : ℕ) → j < k → k < length v.marks → slice_index v.marks j ≤ slice_index v.marks k
  pub in_log : (k : ℕ) → k < length v.marks → slice_index v.marks k ≤ length v.removals
  pub sound_at : (k spare : ℕ) → k < length v.marks → IsSound (view_at v k spare)

-- a board between two removals
pub record IsBoard (b : Board) : Type 0 where
  pub traced : IsTraced b
  pub levels : HasLevels (view_of b)
  pub added : AreRemoved b.problem.now b.levels.standing (before_of (view_of b)) (added_of (view_of b))
  pub filled : b.verdict ≡ Alive → HasValues b
  pub empty : (cell : ℕ) → b.verdict ≡ Dead cell → (cell < b.problem.now.cells) × (size_of b.domains cell ≡ 0)

-- the log's list begins where the last level does, or that level is long
abbrev pub IsListed : Board → Type 0
IsListed b = (b.trail.start ≡ level_mark b.levels.marks) ⊎ IsLongLevel (view_of b)

-- no value stands that the literals cut
abbrev pub IsCut : Board → Type 0
IsCut b = b.verdict ≡ Alive → Within (has b.domains) (base_with b.problem.now b.levels.standing)

-- the board with other domains, once a value is removed
abbrev pub board_without : Board → Flags → ℕ → ℕ → Cause → Board
board_without b D cell value cause = record b {
  domains = D;
  trail = record b.trail {
    removals = b.trail.removals ++ record { cell = cell; value = value; before = size_of b.domains cell; cause = cause } ∷ [];
  };
  verdict = (if size_of b.domains cell == 1 then Dead cell else Alive);
}

-- a value was removed from an alive board
pub record Loses (old new : Board) (cell value : ℕ) (cause : Cause) : Type 0 where
  pub less : IsLess old.domains new.domains cell value
  pub same : new ≡ board_without old new.domains cell value cause

-- removals were added, and nothing else but the domains and the verdict changed
pub record Grows (old new : Board) : Type 0 where
  pub problem : new.problem ≡ old.problem
  pub levels : new.levels ≡ old.levels
  pub more : List Removal
  pub removals : new.trail.removals ≡ old.trail.removals ++ more
  pub room : new.trail.room ≡ old.trail.room

-- the last removal was taken back
pub record Regains (old new : Board) (last : Removal) : Type 0 where
  pub same : new
      ≡ record old { domains = new.domains; trail = record old.trail { start = new.trail.start; removals = new.trail.removals } }
  pub removals : old.trail.removals ≡ new.trail.removals ++ last ∷ []
  pub cell_in : last.cell < old.problem.now.cells
  pub value_in : last.value < values old.problem.now
  pub stood : IsTrue (without (in_base old.problem.now) new.trail.removals last.cell last.value)

-- a literal was put on, and what it cuts removed
pub record IsPut (old new : Board) (literal : Literal) : Type 0 where
  pub problem : new.problem ≡ old.problem
  pub levels : new.levels ≡ record {
    standing = old.levels.standing ++ literal ∷ [];
    marks = old.levels.marks ++ length old.trail.removals ∷ [];
    spare = old.levels.spare - 1;
  }
  pub more : List Removal
  pub removals : new.trail.removals ≡ old.trail.removals ++ more
  pub room : new.trail.room ≡ old.trail.room

-- a board with the base domains, nothing removed and no literal, and an empty list
pub record IsFresh (b : Board) (spare : ℕ) : Type 0 where
  pub board : IsBoard b
  pub levels : b.levels ≡ record { standing = []; marks = []; spare = spare }
  pub removals : b.trail.removals ≡ []
  pub begun : b.trail.start ≡ 0
  pub opening : IsOpening b.problem.now [] b.verdict

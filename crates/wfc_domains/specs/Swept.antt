-- Sweeps over a board.
use Rattle.std.specs.Prelude.{◌≡◌, ℕ, ◌+◌, ◌*◌, ◌<◌, ◌≤◌, length, slice_get, Some, IsTrue}
use Rattle.wfc_problem.specs.Network.{Network, values, neighbour, in_base}
use Rattle.wfc_problem.specs.Domains.{Test, support_count}
use Rattle.wfc_log.specs.declared.Removal.{Removal}
use Rattle.wfc_log.specs.declared.Verdict.TheVariants.{Alive}
use Rattle.wfc_domains.specs.declared.board.Board.{Board}
use Rattle.wfc_log.specs.Domains.{has}
use Rattle.wfc_domains.specs.Removals.{IsUnsupported}
use Rattle.wfc_domains.specs.Store.{IsSound, IsLeastUnsupported}
use Rattle.wfc_domains.specs.Board.{view_of, IsListed, IsTraced, HasLevels}

-- the first direction in which the cell has a neighbour and the value no support
pub record IsFirstUnsupported (P : Network) (D : Test) (c v d : ℕ) : Type 0 where
  pub bare : IsUnsupported P D c v d
  pub dir_in : d < P.dirs
  pub first : (e n : ℕ) → e < d → neighbour P c e ≡ Some n → 0 < support_count P D c v e

-- a sweep that began with `start` removals came to the i-th pair: where none was added, the pairs
-- before it have support
pub record IsSwept (b : Board) (start i : ℕ) : Type 0 where
  pub longer : start ≤ length b.trail.removals
  pub supported : b.verdict ≡ Alive → length b.trail.removals ≡ start → (c v d n : ℕ) → c * values b.problem.now + v < i
      → IsTrue (has b.domains c v) → neighbour b.problem.now c d ≡ Some n
      → 0 < support_count b.problem.now (has b.domains) c v d

-- the first removal, if there is one, is the least
abbrev pub FirstIsLeast : Board → Type 0
FirstIsLeast b =
    (r : Removal) → slice_get b.trail.removals 0 ≡ Some r
    → IsLeastUnsupported b.problem.now (in_base b.problem.now) r

-- a board whose work is done, and its last level in a list or long
pub record IsClosed (b : Board) : Type 0 where
  pub traced : IsTraced b
  pub levels : HasLevels (view_of b)
  pub sound : IsSound (view_of b)
  pub listed : IsListed b

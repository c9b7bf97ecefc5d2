-- The state of an engine, between removals and in the midst of working one off.
use Rattle.std.specs.Prelude.{◌≡◌, ℕ, ◌+◌, ◌*◌, ◌<◌, ◌≤◌, List, [], length, take, slice_get, Some, IsTrue, false}
use Rattle.wfc_problem.specs.Network.{Network, values, neighbour, in_base, IsProblem}
use Rattle.wfc_problem.specs.Domains.{Test, Within, support_count}
use Rattle.wfc_log.specs.declared.Verdict.TheVariants.{Alive}
use Rattle.wfc_log.specs.declared.Removal.{Removal}
use Rattle.wfc_domains.specs.declared.board.Board.{Board}
use Rattle.wfc_log.specs.Domains.{Flags, has, less}
use Rattle.wfc_domains.specs.Counters.{Table, FitsTable, IsMarked, count_of, counter_place}
use Rattle.wfc_domains.specs.Removals.{without}
use Rattle.wfc_domains.specs.Board.{IsTraced, IsBoard, IsCut}
use Rattle.wfc_domains.specs.Store.{IsLeastUnsupported}
use Rattle.wfc_ac4.specs.Places.{times}

-- what the counters count: the base less the first removals of the log, which were worked off
abbrev pub counted_base : Board → ℕ → Test
counted_base b head = without (in_base b.problem.now) (take head b.trail.removals)

-- the counters are the support counts of E, less what was lowered
pub record AreLowered (P : Network) (E : Test) (lowered : List ℕ) (T : Table) : Type 0 where
  pub fits : FitsTable P T
  pub each : (c v d : ℕ) → c < P.cells → v < values P → d < P.dirs
      → count_of T c v d + times (counter_place P c v d) lowered ≡ support_count P E c v d

-- the counters are the support counts of E, and what was raised
pub record AreRaised (P : Network) (E : Test) (raised : List ℕ) (T : Table) : Type 0 where
  pub fits : FitsTable P T
  pub each : (c v d : ℕ) → c < P.cells → v < values P → d < P.dirs
      → count_of T c v d ≡ support_count P E c v d + times (counter_place P c v d) raised

-- marks stand only at values that don't stand
abbrev pub AreGone : Flags → Table → Type 0
AreGone D T = (c v d : ℕ) → v < T.values → d < T.dirs → IsMarked T c v d → has D c v ≡ false

-- while the board is alive each value that stands has support left in each direction
abbrev pub HaveSupport : Board → Table → Type 0
HaveSupport b T =
    b.verdict ≡ Alive → (c v d n : ℕ) → IsTrue (has b.domains c v)
    → neighbour b.problem.now c d ≡ Some n → 0 < count_of T c v d

-- in the midst of working off the removal of v at c, which stands at the head
pub record IsWorking (b : Board) (T : Table) (head c v : ℕ) (lowered : List ℕ) : Type 0 where
  pub board : IsBoard b
  pub cut : IsCut b
  pub counters : AreLowered b.problem.now (counted_base b head) lowered T
  pub supported : HaveSupport b T
  pub marks : AreGone b.domains T
  pub still_counted : IsTrue (counted_base b head c v)
  pub gone : Within (without (in_base b.problem.now) b.trail.removals) (less (counted_base b head) c v)
  pub in_log : head ≤ length b.trail.removals

-- between removals: those before the head are worked off, the others pending
pub record IsBetweenRemovals (b : Board) (T : Table) (head : ℕ) : Type 0 where
  pub board : IsBoard b
  pub cut : IsCut b
  pub counters : AreLowered b.problem.now (counted_base b head) [] T
  pub supported : HaveSupport b T
  pub marks : AreGone b.domains T
  pub in_log : head ≤ length b.trail.removals

-- while removals are taken back: nothing is said of the literals and of the verdict
pub record IsRolled (b : Board) (T : Table) (head : ℕ) : Type 0 where
  pub traced : IsTraced b
  pub marks : AreGone b.domains T
  pub counters : AreLowered b.problem.now (counted_base b head) [] T
  pub in_log : head ≤ length b.trail.removals

-- a removal that was worked off is being taken back
pub record IsRaising (P : Network) (E : Test) (c v : ℕ) (raised : List ℕ) (T : Table) : Type 0 where
  pub problem : IsProblem P
  pub counters : AreRaised P (less E c v) raised T
  pub stood : IsTrue (E c v)

-- the last removal of the board's log was worked off, and is being taken back
abbrev pub IsRaisingOn : Board → ℕ → ℕ → List ℕ → Table → Type 0
IsRaisingOn b c v raised T = IsRaising b.problem.now (without (in_base b.problem.now) b.trail.removals) c v raised T

-- while an opening looks at its cells: nothing is worked off yet, and the pairs before the i-th have support, where
-- they stand
pub record IsScanned (b : Board) (T : Table) (i : ℕ) : Type 0 where
  pub board : IsBoard b
  pub cut : IsCut b
  pub counters : AreLowered b.problem.now (in_base b.problem.now) [] T
  pub marks : AreGone b.domains T
  pub supported : b.verdict ≡ Alive → (c v d n : ℕ) → c * values b.problem.now + v < i
      → IsTrue (has b.domains c v) → neighbour b.problem.now c d ≡ Some n → 0 < count_of T c v d
  pub first : (r : Removal) → slice_get b.trail.removals 0 ≡ Some r
      → IsLeastUnsupported b.problem.now (in_base b.problem.now) r

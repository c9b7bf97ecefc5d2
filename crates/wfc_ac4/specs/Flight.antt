-- What a flight's steps leave as it was.
use Rattle.std.specs.Prelude.{◌≡◌, ℕ, ◌<◌, ◌⊎◌, ◌∷◌, ◌++◌, [], length, min, take, Some, IsTrue}
use Rattle.wfc_problem.specs.Network.{neighbour}
use Rattle.wfc_problem.specs.Strides.{AreSides}
use Rattle.wfc_problem.specs.declared.strides.FourSides.{FourSides}
use Rattle.wfc_log.specs.declared.Cause.TheVariants.{Arc}
use Rattle.wfc_log.specs.declared.Removal.{Removal}
use Rattle.wfc_log.specs.declared.Verdict.TheVariants.{Alive}
use Rattle.wfc_log.specs.Domains.{has}
use Rattle.wfc_domains.specs.Counters.{Table, IsMarked, Marks, count_of, cost_of}
use Rattle.wfc_domains.specs.Board.{Grows, Loses}
use Rattle.wfc_ac4.specs.declared.flight.Flight.{Flight}
use Rattle.wfc_ac4.specs.Links.{counter_row}

-- by the problem of one flight, how many counters count the first removals in the log of another
abbrev pub front_cost : Flight → Flight → ℕ → ℕ
front_cost f g k = cost_of f.board.problem.now (take k g.board.trail.removals)

-- removals were added behind those that stood, to the list that the log keeps of the last ones
pub record GoesOn (old new : Flight) : Type 0 where
  pub grows : Grows old.board new.board
  pub start : new.board.trail.start ≡ old.board.trail.start
  pub head : new.head ≡ old.head

-- w stood at n, and no cell was empty: it was removed for want of support in direction d, and its counts were marked
pub record Strikes (old new : Flight) (T U : Table) (n w d : ℕ) : Type 0 where
  pub stood : IsTrue (has old.board.domains n w)
  pub alive : old.board.verdict ≡ Alive
  pub board : Loses old.board new.board n w (Arc d)
  pub marks : Marks T U n w
  pub head : new.head ≡ old.head

-- w did not stand at n, or a cell was empty, and nothing changed
pub record PassesOver (old new : Flight) (T U : Table) (n w : ℕ) : Type 0 where
  pub gone : old.board.verdict ≡ Alive → IsTrue (has old.board.domains n w) → ⊥
  pub same : new ≡ old
  pub same_counts : U ≡ T

-- w is removed at n for want of support in direction d, if it stands and no cell is empty, with counters T that become U
abbrev pub IsStruck : Flight → Flight → Table → Table → ℕ → ℕ → ℕ → Type 0
IsStruck old new T U n w d = Strikes old new T U n w d ⊎ PassesOver old new T U n w

-- only the counters changed
abbrev pub Recounts : Flight → Flight → Type 0
Recounts old new = new ≡ record old { counters = new.counters }

-- no mark more stands
abbrev pub HasNoMore : Table → Table → Type 0
HasNoMore old new = (c v d : ℕ) → IsMarked new c v d → IsMarked old c v d

-- the last removal was taken back; if it was worked off, the head went back too
pub record IsShorter (old new : Flight) : Type 0 where
  pub problem : new.board.problem ≡ old.board.problem
  pub levels : new.board.levels ≡ old.board.levels
  pub last : Removal
  pub removals : old.board.trail.removals ≡ new.board.trail.removals ++ last ∷ []
  pub head : new.head ≡ min old.head (length new.board.trail.removals)

-- removals were taken back, until `mark` were left
pub record IsRolledTo (old new : Flight) (mark : ℕ) : Type 0 where
  pub problem : new.board.problem ≡ old.board.problem
  pub levels : new.board.levels ≡ old.board.levels
  pub removals : new.board.trail.removals ≡ take mark old.board.trail.removals
  pub head : new.head ≡ min old.head mark

-- the first direction in which the cell has a neighbour and its value's counter is 0
pub record IsFirstBare (f : Flight) (cell value d : ℕ) : Type 0 where
  pub next : ℕ
  pub beside : neighbour f.board.problem.now cell d ≡ Some next
  pub dir_in : d < f.board.problem.now.dirs
  pub none : count_of f.counters cell value d ≡ 0
  pub first : (e n : ℕ) → e < d → neighbour f.board.problem.now cell e ≡ Some n → 0 < count_of f.counters cell value e

-- these are the sides of the cell, with the strides from its counters to those of its neighbours
abbrev pub HasFourSides : Flight → ℕ → FourSides → Type 0
HasFourSides f cell sides = AreSides f.board.problem.now (counter_row f.board.problem.now) cell sides

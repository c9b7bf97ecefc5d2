-- Values removed one after another, each for a cause that is true at its point.
use Rattle.std.specs.Prelude.{◌≡◌, ℕ, List, [], ◌∷◌, ◌++◌, Some, IsTrue, IsFalse}
use Rattle.wfc_problem.specs.Network.{Network, neighbour}
use Rattle.wfc_problem.specs.Domains.{Test, Within, IsEmptyAt, leaves_all, base_with, support_count}
use Rattle.wfc_problem.specs.Sizes.{is_dead, size_at}
use Rattle.wfc_problem.specs.declared.Literal.{Literal}
use Rattle.wfc_log.specs.declared.Cause.{Cause}
use Rattle.wfc_log.specs.declared.Cause.TheVariants.{Assumed, Arc}
use Rattle.wfc_log.specs.declared.Removal.{Removal}
use Rattle.wfc_log.specs.Domains.{less}

-- D without what was removed
abbrev pub without : Test → List Removal → Test
without D [] = D
without D (r ∷ rs) = without (less D r.cell r.value) rs

-- the cell has a neighbour in direction d, and no value that stands there supports v
pub record IsUnsupported (P : Network) (D : Test) (c v d : ℕ) : Type 0 where
  pub next : ℕ
  pub beside : neighbour P c d ≡ Some next
  pub none : support_count P D c v d ≡ 0

-- the cause is true of D: a literal cuts the value; or no literal cuts any value of D, and this one
-- has no support in a direction
abbrev pub IsCause : Network → List Literal → Test → ℕ → ℕ → Cause → Type 0
IsCause P literals D c v Assumed = IsFalse (leaves_all literals c v)
IsCause P literals D c v (Arc d) = Within D (base_with P literals) × IsUnsupported P D c v d

-- the removal takes from D, in which no cell is empty, a value that stands, tells how many stand there, and its cause
-- is true
pub record IsRemoved (P : Network) (literals : List Literal) (D : Test) (r : Removal) : Type 0 where
  pub filled : IsFalse (is_dead P D)
  pub stood : IsTrue (D r.cell r.value)
  pub before : r.before ≡ size_at P D r.cell
  pub cause : IsCause P literals D r.cell r.value r.cause

-- each removal is one from what the removals before it left of D
abbrev pub AreRemoved : Network → List Literal → Test → List Removal → Type 0
AreRemoved P literals D [] = Unit {0}
AreRemoved P literals D (r ∷ rs) = IsRemoved P literals D r × AreRemoved P literals (less D r.cell r.value) rs

-- the last of the removals emptied this cell, and before it no cell was empty
pub record IsStopped (P : Network) (D : Test) (removals : List Removal) (cell : ℕ) : Type 0 where
  pub front : List Removal
  pub last : Removal
  pub ends : removals ≡ front ++ last ∷ []
  pub filled : IsFalse (is_dead P (without D front))
  pub of_cell : last.cell ≡ cell
  pub emptied : IsEmptyAt (without D removals) cell

-- Domains as tests, cut by literals, and the greatest ones that are arc consistent.
use Rattle.std.specs.Prelude.{◌≡◌, ℕ, ◌<◌, ◌↔◌, Bool, not, ◌&&◌, ◌||◌, List, ◌==◌, Option, Some, None, count_by}
use Rattle.std.specs.Prelude.{Contains, IsTrue, IsFalse, length, slice_index}
use Rattle.std.specs.List.{list_all}
use Rattle.wfc_problem.specs.Assignment.{IsLegalAssignment, LiesIn}
use Rattle.wfc_problem.specs.Network.{Network, values, neighbour, supports_of, in_base}
use Rattle.wfc_problem.specs.declared.Literal.{Literal}
use Rattle.wfc_problem.specs.declared.Literal.TheVariants.{Is, Not}

-- domains as a question: does this value stand at this cell?
abbrev pub Test : Type 0
Test = ℕ → ℕ → Bool

-- the literal's cell is one of the problem's, and its value too
abbrev pub IsLiteralIn : Network → Literal → Type 0
IsLiteralIn P (Is value cell) = (cell < P.cells) × (value < values P)
IsLiteralIn P (Not value cell) = (cell < P.cells) × (value < values P)

-- whether a literal leaves v at c: Is leaves its value alone at its cell, Not leaves all but its value
abbrev pub leaves : Literal → Test
leaves (Is value cell) c v = not (c == cell) || v == value
leaves (Not value cell) c v = not (c == cell && v == value)

-- whether all literals leave v at c
abbrev pub leaves_all : List Literal → Test
leaves_all literals c v = list_all (λ l. leaves l c v) literals

-- D cut by a literal
abbrev pub with_literal : Test → Literal → Test
with_literal D l c v = D c v && leaves l c v

-- the base domains, cut by each literal
abbrev pub base_with : Network → List Literal → Test
base_with P literals c v = in_base P c v && leaves_all literals c v

-- E lies within D
abbrev pub Within : Test → Test → Type 0
Within E D = (c v : ℕ) → IsTrue (E c v) → IsTrue (D c v)

-- some value of E at the neighbour in direction d may stand beside v, if there is a neighbour
abbrev pub IsSupported : Network → Test → ℕ → ℕ → ℕ → Type 0
IsSupported P E c v d = (n : ℕ) → neighbour P c d ≡ Some n → (w : ℕ) × Contains (supports_of P v d) w × IsTrue (E n w)

-- each value of E is supported in each direction
abbrev pub IsArcConsistent : Network → Test → Type 0
IsArcConsistent P E = (c v d : ℕ) → IsTrue (E c v) → IsSupported P E c v d

-- v stands at c in some arc consistent domains within the cut base
pub record IsInGreatest (P : Network) (literals : List Literal) (c v : ℕ) : Type 0 where
  pub domains : Test
  pub within : Within domains (base_with P literals)
  pub consistent : IsArcConsistent P domains
  pub stands : IsTrue (domains c v)

-- D is the union of all arc consistent domains within the cut base
abbrev pub IsGreatest : Network → List Literal → Test → Type 0
IsGreatest P literals D = (c v : ℕ) → IsTrue (D c v) ↔ IsInGreatest P literals c v

-- E lies within the cut base and is arc consistent
abbrev pub IsConsistentWithin : Network → List Literal → Test → Type 0
IsConsistentWithin P literals E = Within E (base_with P literals) × IsArcConsistent P E

-- the value that a list has for each cell stands there in such domains
abbrev pub StandsInGreatest : Network → List Literal → List ℕ → Type 0
StandsInGreatest P literals a = (c : ℕ) → c < P.cells → IsInGreatest P literals c (slice_index a c)

-- no legal assignment lies within the cut base
abbrev pub HasNoAssignment : Network → List Literal → Type 0
HasNoAssignment P literals = (a : List ℕ) → IsLegalAssignment P a → LiesIn a (base_with P literals) → ⊥

-- no value stands at c
abbrev pub IsEmptyAt : Test → ℕ → Type 0
IsEmptyAt D c = (v : ℕ) → IsFalse (D c v)

-- some cell is empty
abbrev pub IsDead : Network → Test → Type 0
IsDead P D = (c : ℕ) × (c < P.cells) × IsEmptyAt D c

-- each cell has one value in D, that of the list a
pub record HasOnly (P : Network) (D : Test) (a : List ℕ) : Type 0 where
  pub each_cell : length a ≡ P.cells
  pub only : (c v : ℕ) → c < P.cells → IsTrue (D c v) ↔ (v ≡ slice_index a c)

-- how many supports of v in direction d stand at the neighbour, 0 where there is none
abbrev pub count_at : Network → Test → ℕ → ℕ → Option ℕ → ℕ
count_at P D v d None = 0
count_at P D v d (Some n) = count_by (D n) (supports_of P v d)

-- how many supports of v stand beside c in direction d
abbrev pub support_count : Network → Test → ℕ → ℕ → ℕ → ℕ
support_count P D c v d = count_at P D v d (neighbour P c d)

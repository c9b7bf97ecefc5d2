-- What a problem gives, one fact a lemma: the only file here that reads the facts of a problem.
use Rattle.std.proofs.Common.{◌≡◌, ℕ, zero, suc, ◌*◌, ◌<◌, ◌≤◌, List, [], ◌∷◌, ◌++◌, length, get_or, arith, Option, Some, None, true, false, sym, ◌∙◌, ap, inl, inr}
use Rattle.std.specs.Prelude.{Contains, IsTrue, ◌↔◌, count_by}
use Rattle.std.proofs.lemmas.List.Sums.{count_by-le-length, length-filter}
use Rattle.std.proofs.lemmas.Bool.{false_from_ne_true, false≢true, cases_lt}
use Rattle.std.specs.List.{range_with_len}
use Rattle.wfc_lists.proofs.Counts.{count_by_found}
use Rattle.std.specs.List.Sorted.{IsStrictlyIncreasing}
use Rattle.wfc_problem.specs.Network.{Network, values, neighbour, supports_of, in_base, IsProblem}
use Rattle.wfc_model.specs.Direction.{opposite}
use Rattle.wfc_model.proofs.DirectionLemmas.{opposite-opposite as twice}
use Rattle.wfc_problem.specs.Domains.{Test, Within, IsArcConsistent, IsInGreatest, IsGreatest, IsDead, IsEmptyAt, base_with, with_literal, count_at, support_count}
use Rattle.wfc_problem.specs.Rounds.{depth_of, greatest}
use Rattle.wfc_problem.proofs.CallerLemmas as callers
use Rattle.wfc_problem.specs.Sizes.{is_dead, size_at}
use Rattle.wfc_problem.specs.declared.Literal.{Literal}

pub few_values : (P : Network) → IsProblem P → values P ≤ 4096
few_values P p = omega (arith, callers.few_values P p)

pub few_pairs : (P : Network) → IsProblem P → P.cells * values P ≤ 8388608
few_pairs P p = omega (arith, callers.few_pairs P p)

pub base_table : (P : Network) → IsProblem P → length P.base ≡ P.cells * values P
base_table P p = callers.base_table P p

pub rising : (P : Network) → IsProblem P → (v d : ℕ) → d < P.dirs → IsStrictlyIncreasing (supports_of P v d)
rising P p v d h = callers.rising P p v d

pub in_values : (P : Network) → IsProblem P → (v w d : ℕ) → d < P.dirs → Contains (supports_of P v d) w → w < values P
in_values P p v w d h = callers.in_values P p v w d

pub in_cells : (P : Network) → IsProblem P → (c d n : ℕ) → neighbour P c d ≡ Some n → n < P.cells
in_cells P p = callers.in_cells P p

pub back : (P : Network) → IsProblem P → (c d n : ℕ) → neighbour P c d ≡ Some n → neighbour P n (opposite d) ≡ Some c
back P p = callers.back P p

pub symmetric : (P : Network) → IsProblem P → (v w d : ℕ) → d < P.dirs → Contains (supports_of P v d) w → Contains (supports_of P w (opposite d)) v
symmetric P p v w d h = callers.symmetric P p v w d

-- there are at most six directions
pub dirs-le : (P : Network) → IsProblem P → P.dirs ≤ 6
dirs-le P p = callers.few_dirs P p

-- the opposite of a direction is one
pub opposite-in : (P : Network) → IsProblem P → (d : ℕ) → d < P.dirs → opposite d < P.dirs
opposite-in P p = callers.opposite_in P p

-- turning round twice
pub opposite-opposite : (P : Network) → IsProblem P → (d : ℕ) → d < P.dirs → opposite (opposite d) ≡ d
opposite-opposite P p d h = twice d (omega (arith, dirs-le P p))

-- a neighbour lies in a direction that there is
pub neighbour-dir : (P : Network) (c d n : ℕ) → neighbour P c d ≡ Some n → d < P.dirs
neighbour-dir P c d n e = callers.neighbour_dir P c d n e

-- only pairs of the problem are in the base
pub base-in : (P : Network) → IsProblem P → (c v : ℕ) → in_base P c v ≡ true → (c < P.cells) × (v < values P)
base-in P p c v t = callers.base_inside P p c v t

-- a list of supports has at most 4,096 values
pub supports-few : (P : Network) → IsProblem P → (v d : ℕ) → d < P.dirs → length (supports_of P v d) ≤ 4096
supports-few P p v d h = omega (arith, callers.supports_few P p.sized p.indexed v d)

-- also of a direction that there isn't
pub supports-short : (P : Network) → IsProblem P → (v d : ℕ) → length (supports_of P v d) ≤ 4096
supports-short P p v d = omega (arith, callers.supports_few P p.sized p.indexed v d)

-- there are counters
pub some_places : (P : Network) → IsProblem P → 0 < (P.cells * values P) * P.dirs
some_places P p = product (P.cells * values P) P.dirs (product P.cells (values P) p.sized.some_cell p.sized.some_value) (elim p.sized.four_or_six [ inl four ↦ omega (arith, four) | inr six ↦ omega (arith, six) ])
  where
    product : (a b : ℕ) → 0 < a → 0 < b → 0 < a * b
    product zero b h k = absurd (omega (arith, h))
    product (suc a) b h k = omega (arith, k)

-- and so has a count of them
pub support_count-few : (P : Network) → IsProblem P → (D : Test) (c v d : ℕ) → d < P.dirs → support_count P D c v d ≤ 4096
support_count-few P p D c v d h = callers.support_count_few P p D c v d

-- a count of supports is at most the number of supports
pub support_count-short : (P : Network) (D : Test) (c v d : ℕ) → support_count P D c v d ≤ length (supports_of P v d)
support_count-short P D c v d = short (neighbour P c d)
  where
    short : (o : Option ℕ) → count_at P D v d o ≤ length (supports_of P v d)
    short None = omega arith
    short (Some n) = count_by-le-length (D n) (supports_of P v d)

-- each is a value
pub supports-below : (P : Network) → IsProblem P → (v d : ℕ) (xs : List ℕ) → xs ≡ supports_of P v d → d < P.dirs → (k e : ℕ) → k < length xs → get_or xs k e < values P
supports-below P p v d xs e h = callers.support_in P p.indexed v d xs e

-- ---- literals and the greatest domains

-- the base with one more literal is cut by it
pub base_with-push : (P : Network) (literals : List Literal) (l : Literal) (c v : ℕ) → base_with P (literals ++ l ∷ []) c v ≡ with_literal (base_with P literals) l c v
base_with-push P literals l c v = ap (λ f. f c v) (callers.base_with_more P literals l)

-- literals more leave less
pub base_with-append : (P : Network) (literals more : List Literal) → Within (base_with P (literals ++ more)) (base_with P literals)
base_with-append P literals more = callers.base_with-append P literals more

pub greatest-lower : (P : Network) (literals more : List Literal) (c v : ℕ) → IsInGreatest P (literals ++ more) c v → IsInGreatest P literals c v
greatest-lower P literals more c v g = callers.greatest_lower P literals more c v g

pub greatest-within : (P : Network) (literals : List Literal) (D : Test) → IsGreatest P literals D → Within D (base_with P literals)
greatest-within P literals D g = callers.greatest_within P literals D g

pub greatest-consistent : (P : Network) (literals : List Literal) (D : Test) → IsGreatest P literals D → IsArcConsistent P D
greatest-consistent P literals D g = callers.greatest_consistent P literals D g

pub greatest-from_holding : (P : Network) (literals : List Literal) (D : Test) → Within D (base_with P literals) → IsArcConsistent P D
    → ((E : Test) → Within E (base_with P literals) → IsArcConsistent P E → Within E D) → IsGreatest P literals D
greatest-from_holding P literals D within consistent holds = callers.greatest_from_holding P literals D within consistent holds

pub greatest-same : (P : Network) (literals : List Literal) (D E : Test) → IsGreatest P literals D → IsGreatest P literals E → D ≡ E
greatest-same P literals D E d e = callers.greatest_same P literals D E d e

pub greatest-is : (P : Network) → IsProblem P → (literals : List Literal) → IsGreatest P literals (greatest P literals)
greatest-is P p literals = callers.greatest_is P p literals

-- domains are consistent where each value that stands has a positive count at each neighbour
pub consistent-from_counts : (P : Network) (D : Test) → ((c v d n : ℕ) → IsTrue (D c v) → neighbour P c d ≡ Some n → 0 < support_count P D c v d) → IsArcConsistent P D
consistent-from_counts P D pos = callers.consistent_from_counts P D pos

-- and the other way
pub counts-from_consistent : (P : Network) (D : Test) → IsArcConsistent P D → (c v d n : ℕ) → IsTrue (D c v) → neighbour P c d ≡ Some n → 0 < support_count P D c v d
counts-from_consistent P D consistent c v d n t e = callers.counts_from_consistent P D consistent c v d n t e

-- support counts grow with the domains
pub support_count-le : (P : Network) (E D : Test) (c v d : ℕ) → Within E D → support_count P E c v d ≤ support_count P D c v d
support_count-le P E D c v d h = callers.support_count_le P E D c v d h

-- ---- sizes

-- where a cell is empty the domains are dead, and the other way
pub dead-iff : (P : Network) → IsProblem P → (D : Test) → Within D (in_base P) → IsTrue (is_dead P D) ↔ IsDead P D
dead-iff P p D within = callers.dead_iff P p D within

-- where no cell is empty each has a value
pub alive-pos : (P : Network) (D : Test) → is_dead P D ≡ false → (c : ℕ) → c < P.cells → 0 < size_at P D c
alive-pos P D alive c l = callers.alive_pos P D alive c l

-- a value that stands is counted
pub size-pos : (P : Network) → IsProblem P → (D : Test) → Within D (in_base P) → (c v : ℕ) → D c v ≡ true → 0 < size_at P D c
size-pos P p D within c v t = callers.size_at_pos P p D within c v t

-- the base has at most as many pairs as there are cells times values
pub depth-few : (P : Network) → IsProblem P → depth_of P ≤ P.cells * values P
depth-few P p = omega (arith, callers.depth_flags P p, base_table P p, count_by-le-length (λ b. b) P.base)

-- where a size is 0 no value stands
pub zero-empty : (P : Network) → IsProblem P → (D : Test) → Within D (in_base P) → (c : ℕ) → size_at P D c ≡ 0 → IsEmptyAt D c
zero-empty P p D within c none v = false_from_ne_true (D c v) (λ t. let pos = size-pos P p D within c v t in omega arith)

-- an empty cell has size 0
pub empty-size : (P : Network) (D : Test) (c : ℕ) → IsEmptyAt D c → size_at P D c ≡ 0
empty-size P D c empty = length-filter (D c) (range_with_len 0 (values P)) ∙ none (range_with_len 0 (values P))
  where
    none : (xs : List ℕ) → count_by (D c) xs ≡ 0
    none xs = elim (cases_lt 0 (count_by (D c) xs)) [
      | inl some ↦ let f = count_by_found (D c) xs some in absurd (false≢true (sym (empty f.0) ∙ f.2))
      | inr h ↦ omega arith
    ]

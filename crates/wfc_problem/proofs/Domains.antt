-- Domains: support counts, consistency, and what literals and assignments do to the greatest.
use Rattle.std.proofs.Common.{◌≡◌, ℕ, ◌<◌, ◌≤◌, true, List, [], ◌∷◌, ◌++◌, length, refl, sym, ◌∙◌, ap, subst, arith, Some, None, inl, inr}
use Rattle.std.specs.Prelude.{◌&&◌, ◌==◌, Contains, IsTrue, nat_lt, slice_index}
use Rattle.std.proofs.lemmas.Bool.{false≢true, false_from_ne_true, and_parts, and_from, cases_Bool, ltb-true, lt-ltb, eqb-true, eq-eqb}
use Rattle.std.proofs.lemmas.List.Sums.{count_by-le-length}
use Rattle.wfc_problem.specs.Assignment.{IsLegalAssignment, LiesIn}
use Rattle.wfc_problem.specs.Domains.{Test, base_with, Within, IsArcConsistent, IsInGreatest, IsGreatest, IsDead, HasOnly, count_at, support_count}
use Rattle.wfc_problem.specs.Network.{Network, neighbour, supports_of, IsProblem}
use Rattle.wfc_problem.specs.declared.Literal.{Literal}
use Rattle.wfc_lists.proofs.Counts.{count_by-le, count_by_pos, count_by_found}
use Rattle.wfc_lists.proofs.Lists.{has_Contains, Contains_has}
use Rattle.wfc_lists.proofs.Tables.{row_below}
use Rattle.wfc_problem.proofs.Cuts.{base_with_falls, base_with-append}
use Rattle.wfc_problem.proofs.Supports.{supports_few}
use Rattle.wfc_problem.proofs.Tables.{neighbour_read}

-- ---- support counts

-- support counts grow with the domains
pub support_count_le : (P : Network) (E D : Test) (c v d : ℕ) → Within E D → support_count P E c v d ≤ support_count P D c v d
support_count_le P E D c v d h =
    elim (neighbour P c d) as (λ o. count_at P E v d o ≤ count_at P D v d o) [
      | None ↦ omega arith
      | Some n ↦ count_by-le (E n) (D n) (supports_of P v d) (h n)
    ]

-- domains are consistent where each value that stands has a positive count at each neighbour
pub consistent_from_counts : (P : Network) (D : Test) → ((c v d n : ℕ) → IsTrue (D c v) → neighbour P c d ≡ Some n → 0 < support_count P D c v d) → IsArcConsistent P D
consistent_from_counts P D pos c v d t n e =
    count_by_found (D n) (supports_of P v d) (let le = pos c v d n t e in let same = ap (count_at P D v d) e in omega arith)

-- and the other way
pub counts_from_consistent : (P : Network) (D : Test) → IsArcConsistent P D → (c v d n : ℕ) → IsTrue (D c v) → neighbour P c d ≡ Some n → 0 < support_count P D c v d
counts_from_consistent P D consistent c v d n t e =
    let s = consistent c v d t n e in
    let pos = count_by_pos (D n) (supports_of P v d) s.0 s.1 s.2 in
    let same = ap (count_at P D v d) e in
    omega arith

pub support_count_few : (P : Network) → IsProblem P → (E : Test) (c v d : ℕ) → support_count P E c v d ≤ 4096
support_count_few P p E c v d =
    elim (neighbour P c d) as (λ o. count_at P E v d o ≤ 4096) [
      | None ↦ omega arith
      | Some n ↦ omega (arith, supports_few P p.sized p.indexed v d, count_by-le-length (E n) (supports_of P v d))
    ]

-- ---- more literals

-- the greatest under one more literal lies within the greatest
pub greatest_falls : (P : Network) (literals : List Literal) (l : Literal) (c v : ℕ) → IsInGreatest P (literals ++ l ∷ []) c v → IsInGreatest P literals c v
greatest_falls P literals l c v g = record {
  domains = g.domains;
  within = λ c' v' t. base_with_falls P literals l c' v' (g.within c' v' t);
  consistent = g.consistent;
  stands = g.stands;
}

-- and so under any more
pub greatest_lower : (P : Network) (literals more : List Literal) (c v : ℕ) → IsInGreatest P (literals ++ more) c v → IsInGreatest P literals c v
greatest_lower P literals more c v g = record {
  domains = g.domains;
  within = λ c' v' t. base_with-append P literals more c' v' (g.within c' v' t);
  consistent = g.consistent;
  stands = g.stands;
}

-- ---- the greatest domains

-- the union lies within the cut base
pub greatest_within : (P : Network) (literals : List Literal) (D : Test) → IsGreatest P literals D → Within D (base_with P literals)
greatest_within P literals D g c v t = let i = (g c v).0 t in i.within c v i.stands

-- it is consistent itself
pub greatest_consistent : (P : Network) (literals : List Literal) (D : Test) → IsGreatest P literals D → IsArcConsistent P D
greatest_consistent P literals D g c v d t n e =
    let i = (g c v).0 t in
    let s = i.consistent c v d i.stands n e in
    (s.0, s.1, (g n s.0).1 (record { domains = i.domains; within = i.within; consistent = i.consistent; stands = s.2 }))

-- and holds all other consistent domains within the cut base
pub greatest_holds : (P : Network) (literals : List Literal) (D E : Test) → IsGreatest P literals D → Within E (base_with P literals) → IsArcConsistent P E → Within E D
greatest_holds P literals D E g within consistent c v t =
    (g c v).1 (record { domains = E; within = within; consistent = consistent; stands = t })

-- consistent domains within the cut base that hold all others are the greatest
pub greatest_from_holding : (P : Network) (literals : List Literal) (D : Test) → Within D (base_with P literals) → IsArcConsistent P D
    → ((E : Test) → Within E (base_with P literals) → IsArcConsistent P E → Within E D) → IsGreatest P literals D
greatest_from_holding P literals D within consistent holds c v = (
  (λ t. record { domains = D; within = within; consistent = consistent; stands = t }),
  (λ g. holds g.domains g.within g.consistent c v g.stands),
)

-- so there is only one
pub greatest_same : (P : Network) (literals : List Literal) (D E : Test) → IsGreatest P literals D → IsGreatest P literals E → D ≡ E
greatest_same P literals D E d e = λ i c v. each c v i
  where
    each : (c v : ℕ) → D c v ≡ E c v
    each c v = elim (cases_Bool (D c v)) [
      | inl t ↦ t ∙ sym ((e c v).1 ((d c v).0 t))
      | inr f ↦ f ∙ sym (false_from_ne_true (E c v) (λ t. false≢true (sym f ∙ (d c v).1 ((e c v).0 t))))
    ]

-- ---- assignments

-- an assignment as domains
placed : List ℕ → Test
placed a c v = nat_lt c (length a) && v == slice_index a c

placed_is : (a : List ℕ) (c v : ℕ) → placed a c v ≡ true → (c < length a) × (v ≡ slice_index a c)
unfolding placed
placed_is a c v t = let parts = and_parts _ _ t in (ltb-true c (length a) parts.0, eqb-true v (slice_index a c) parts.1)

placed_at : (a : List ℕ) (c : ℕ) → c < length a → placed a c (slice_index a c) ≡ true
unfolding placed
placed_at a c l = and_from _ _ (lt-ltb c (length a) l) (eq-eqb (slice_index a c) (slice_index a c) refl)

placed_within : (a : List ℕ) (D : Test) → LiesIn a D → Within (placed a) D
placed_within a D lies c v t =
    let i = placed_is a c v t in
    ap (D c) i.1 ∙ lies c i.0

placed_consistent : (P : Network) → IsProblem P → (a : List ℕ) → IsLegalAssignment P a → IsArcConsistent P (placed a)
placed_consistent P p a legal c v d t n e =
    let i = placed_is a c v t in
    let k = has_Contains (supports_of P (slice_index a c) d) (slice_index a n) (legal.beside c d n e) in (
      slice_index a n,
      subst (λ x. Contains (supports_of P x d) (slice_index a n)) (sym i.1) k,
      placed_at a n (omega (arith, p.indexed.in_cells c d n e, legal.each_cell)),
    )

-- a legal assignment within the cut base lies within the greatest domains
pub assignment_stands : (P : Network) → IsProblem P → (literals : List Literal) (a : List ℕ) → IsLegalAssignment P a → LiesIn a (base_with P literals)
    → (c : ℕ) → c < P.cells → IsInGreatest P literals c (slice_index a c)
assignment_stands P p literals a legal lies c l = record {
  domains = placed a;
  within = placed_within a (base_with P literals) lies;
  consistent = placed_consistent P p a legal;
  stands = placed_at a c (omega (arith, legal.each_cell));
}

-- so there is none where these are dead
pub dead_none : (P : Network) → IsProblem P → (literals : List Literal) (D : Test) → IsGreatest P literals D → IsDead P D
    → (a : List ℕ) → IsLegalAssignment P a → LiesIn a (base_with P literals) → ⊥
dead_none P p literals D g dead a legal lies =
    false≢true (sym (dead.2 (slice_index a dead.0)) ∙ (g dead.0 (slice_index a dead.0)).1 (assignment_stands P p literals a legal lies dead.0 dead.1))

-- where each cell has one value, these are a legal assignment
pub only_legal : (P : Network) → IsProblem P → (literals : List Literal) (D : Test) → IsGreatest P literals D → (a : List ℕ) → HasOnly P D a → IsLegalAssignment P a
only_legal P p literals D g a o = record {
  each_cell = o.each_cell;
  based = λ c l. (and_parts _ _ (greatest_within P literals D g c (slice_index a c) ((o.only c (slice_index a c) l).1 refl))).0;
  beside = λ c d n e.
      let r = neighbour_read P c d n e in
      let l = row_below c d P.dirs P.cells (omega (arith, r.inside, p.sized.neighbours_table)) in
      let s = greatest_consistent P literals D g c (slice_index a c) d ((o.only c (slice_index a c) l).1 refl) n e in
      let same = (o.only n s.0 (p.indexed.in_cells c d n e)).0 s.2 in
      Contains_has (supports_of P (slice_index a c) d) (slice_index a n) (subst (λ x. Contains (supports_of P (slice_index a c) d) x) same s.1);
}

pub only_lies : (P : Network) (literals : List Literal) (D : Test) → IsGreatest P literals D → (a : List ℕ) → HasOnly P D a → LiesIn a (base_with P literals)
only_lies P literals D g a o c l =
    greatest_within P literals D g c (slice_index a c) ((o.only c (slice_index a c) (omega (arith, o.each_cell))).1 refl)

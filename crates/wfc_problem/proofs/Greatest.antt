-- The greatest domains under one more literal, and how many values they keep.
use Rattle.std.proofs.Common.{◌≡◌, ℕ, ◌+◌, ◌≤◌, true, List, [], ◌∷◌, ◌++◌, sym, ◌∙◌, ap, subst}
use Rattle.std.proofs.lemmas.Bool.{and_parts, and_from}
use Rattle.wfc_problem.specs.Assignment.{IsLegalAssignment, LiesIn}
use Rattle.wfc_problem.specs.Domains.{Test, Within, IsSupported, IsArcConsistent, leaves, with_literal, base_with}
use Rattle.wfc_problem.specs.Network.{Network, IsProblem, in_base}
use Rattle.wfc_problem.specs.Rounds.{greatest, pairs, depth_of}
use Rattle.wfc_problem.specs.Sizes.{size_at, is_dead}
use Rattle.wfc_problem.specs.declared.Literal.{Literal}
use Rattle.wfc_problem.specs.declared.Literal.TheVariants.{Is, Not}
use Rattle.wfc_problem.proofs.Cuts.{leaves_is, leaves_not, cut_within, cut_both, base_with_none, base_with_more, within_supported}
use Rattle.wfc_problem.proofs.Domains.{greatest_falls, greatest_within, greatest_holds, greatest_from_holding, greatest_same, dead_none}
use Rattle.wfc_problem.proofs.Rounds.{base_with_base, pairs_le, greatest_is}
use Rattle.wfc_problem.proofs.Sizes.{size_at_one, size_at_without, dead_iff}

-- one more literal leaves less
pub greatest_below : (P : Network) → IsProblem P → (ls : List Literal) (l : Literal) → Within (greatest P (ls ++ l ∷ [])) (greatest P ls)
greatest_below P p ls l c v t =
    (greatest_is P p ls c v).1 (greatest_falls P ls l c v ((greatest_is P p (ls ++ l ∷ []) c v).0 t))

-- the greatest domains lie within the base
pub greatest_base : (P : Network) → IsProblem P → (ls : List Literal) → Within (greatest P ls) (in_base P)
greatest_base P p ls c v t = base_with_base P ls c v (greatest_within P ls (greatest P ls) (greatest_is P p ls) c v t)

-- what stands is left by the last literal
pub greatest_leaves : (P : Network) → IsProblem P → (ls : List Literal) (l : Literal) (c v : ℕ) → greatest P (ls ++ l ∷ []) c v ≡ true → leaves l c v ≡ true
greatest_leaves P p ls l c v t =
    let within : base_with P (ls ++ l ∷ []) c v ≡ true = greatest_within P (ls ++ l ∷ []) (greatest P (ls ++ l ∷ [])) (greatest_is P p (ls ++ l ∷ [])) c v t in
    (and_parts (base_with P ls c v) (leaves l c v) (sym (ap (λ (D : Test). D c v) (base_with_more P ls l)) ∙ within)).1

-- ---- between the greatest domains and the cut base

-- domains within the cut base that hold all consistent ones there
pub record IsAbove (P : Network) (literals : List Literal) (D : Test) : Type 0 where
  pub within : Within D (base_with P literals)
  pub holds : (E : Test) → Within E (base_with P literals) → IsArcConsistent P E → Within E D

-- the base is such
pub base_above : (P : Network) → IsAbove P [] (in_base P)
base_above P = record {
  within = λ c v t. subst (λ (B : Test). B c v ≡ true) (sym (base_with_none P)) t;
  holds = λ E within consistent c v t. base_with_base P [] c v (within c v t);
}

-- the greatest domains cut by one more literal are, with it
pub cut_above : (P : Network) → IsProblem P → (ls : List Literal) (l : Literal) → IsAbove P (ls ++ l ∷ []) (with_literal (greatest P ls) l)
cut_above P p ls l =
    let Q : Test → Type 0 = λ B. Within (with_literal (greatest P ls) l) B × ((E : Test) → Within E B → IsArcConsistent P E → Within E (with_literal (greatest P ls) l)) in
    let q : Q (base_with P (ls ++ l ∷ [])) = subst Q (sym (base_with_more P ls l)) (
      (cut_both (greatest P ls) (base_with P ls) l (greatest_within P ls (greatest P ls) (greatest_is P p ls))),
      (λ E within consistent c v t. let parts = and_parts (base_with P ls c v) (leaves l c v) (within c v t) in
          and_from _ _ (greatest_holds P ls (greatest P ls) E (greatest_is P p ls) (λ x y s. (and_parts (base_with P ls x y) (leaves l x y) (within x y s)).0) consistent c v t) parts.1),
    ) in
    record { within = q.0; holds = q.1 }

-- those that are consistent are the greatest
pub above_consistent : (P : Network) → IsProblem P → (literals : List Literal) (D : Test) → IsAbove P literals D → IsArcConsistent P D → D ≡ greatest P literals
above_consistent P p literals D above consistent =
    greatest_same P literals D (greatest P literals) (greatest_from_holding P literals D above.within consistent above.holds) (greatest_is P p literals)

-- and a value without support can be left out
pub above_without : (P : Network) (literals : List Literal) (D : Test) → IsAbove P literals D → (c v d : ℕ) → (IsSupported P D c v d → ⊥) → IsAbove P literals (with_literal D (Not v c))
above_without P literals D above c v d bare = record {
  within = cut_within D (base_with P literals) (Not v c) above.within;
  holds = λ E within consistent. within_supported P D E (above.holds E within consistent) consistent c v d bare;
}

-- ---- how many values are kept

-- a choice leaves one value
pub choice_one : (P : Network) → IsProblem P → (ls : List Literal) (c v : ℕ) → size_at P (greatest P (ls ++ Is v c ∷ [])) c ≤ 1
choice_one P p ls c v =
    size_at_one P p (greatest P (ls ++ Is v c ∷ [])) (greatest_base P p (ls ++ Is v c ∷ [])) c v (λ w t. leaves_is c v w (greatest_leaves P p ls (Is v c) c w t))

-- ruling out a value that stands leaves one less
pub ruled_out_less : (P : Network) → IsProblem P → (ls : List Literal) (c v : ℕ) → greatest P ls c v ≡ true
    → size_at P (greatest P (ls ++ Not v c ∷ [])) c + 1 ≤ size_at P (greatest P ls) c
ruled_out_less P p ls c v t =
    size_at_without P p (greatest P (ls ++ Not v c ∷ [])) (greatest P ls) (greatest_base P p ls) c v t
    (λ w s. (greatest_below P p ls (Not v c) c w s, leaves_not c v w (greatest_leaves P p ls (Not v c) c w s)))

-- without literals no more stands than the base
pub pairs_base : (P : Network) → IsProblem P → pairs P (greatest P []) ≤ depth_of P
pairs_base P p = pairs_le P (greatest P []) (in_base P) (greatest_base P p [])

-- ---- dead domains

-- where the greatest domains are dead there is no legal assignment
pub is_dead_none : (P : Network) → IsProblem P → (ls : List Literal) → is_dead P (greatest P ls) ≡ true
    → (a : List ℕ) → IsLegalAssignment P a → LiesIn a (base_with P ls) → ⊥
is_dead_none P p ls dead = dead_none P p ls (greatest P ls) (greatest_is P p ls) ((dead_iff P p (greatest P ls) (greatest_base P p ls)).0 dead)

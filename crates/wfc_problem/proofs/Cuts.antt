-- Domains cut by literals, and the assignments that lie within them.
use Rattle.std.proofs.Common.{◌≡◌, ◌≢◌, ℕ, ◌<◌, Bool, true, false, List, [], ◌∷◌, ◌++◌, length, refl, sym, ◌∙◌, ap, subst, arith, inl, inr, ◌⊎◌, Option, Some, None}
use Rattle.std.specs.Prelude.{◌&&◌, ◌||◌, not, ◌↔◌, IsTrue, IsFalse, slice_index}
use Rattle.std.specs.List.{list_all, range_with_len}
use Rattle.std.proofs.lemmas.Bool.{and_parts, and_from, cases_Bool, cases_eq, false≢true, false_from_ne_true, both_ways}
use Rattle.std.proofs.lemmas.Bool.Decides.{nat_tests}
use Rattle.std.proofs.lemmas.List.Folds.{list_all-append}
use Rattle.wfc_lists.proofs.Lists.{has_Contains, Contains_has, Contains_any, one_fails, all_pass}
use Rattle.wfc_lists.proofs.Ranges.{range_Contains}
use Rattle.wfc_problem.specs.Assignment.{IsLegalAssignment, LiesIn}
use Rattle.wfc_problem.specs.Domains.{Test, leaves, with_literal, base_with, Within, IsSupported, IsArcConsistent}
use Rattle.wfc_problem.specs.Network.{Network, values, neighbour, supports_of, ok, in_base, IsProblem}
use Rattle.wfc_problem.specs.Rounds.{side_holds, is_supported}
use Rattle.wfc_problem.specs.declared.Literal.{Literal}
use Rattle.wfc_problem.specs.declared.Literal.TheVariants.{Is, Not}
use Rattle.wfc_problem.proofs.Rounds.{fixed_consistent}
use Rattle.wfc_problem.proofs.Tables.{base_inside}

-- ---- what a literal leaves

-- what a choice leaves at its cell is its value
pub leaves_is : (c v w : ℕ) → leaves (Is v c) c w ≡ true → w ≡ v
leaves_is c v w t = grind (arith, nat_tests)

-- what is ruled out isn't left
pub leaves_not : (c v w : ℕ) → leaves (Not v c) c w ≡ true → w ≢ v
leaves_not c v w t e = grind (arith, nat_tests)

-- all else is
pub leaves_other : (c v x w : ℕ) → (x ≡ c → w ≢ v) → leaves (Not v c) x w ≡ true
leaves_other c v x w other = grind (arith, nat_tests)

-- a cut takes away
pub cut_within : (D E : Test) (l : Literal) → Within D E → Within (with_literal D l) E
cut_within D E l within c v t = within c v (and_parts _ _ t).0

-- and takes from less what it takes from more
pub cut_both : (D E : Test) (l : Literal) → Within D E → Within (with_literal D l) (with_literal E l)
cut_both D E l within c v t = let parts = and_parts _ _ t in and_from _ _ (within c v parts.0) parts.1

-- ---- the base, cut by literals

-- with no literals it is the base
pub base_with_none : (P : Network) → base_with P [] ≡ in_base P
base_with_none P = λ i c v. each c v i
  where
    each : (c v : ℕ) → base_with P [] c v ≡ in_base P c v
    each c v = grind arith

-- one more literal cuts once more
pub base_with_more : (P : Network) (literals : List Literal) (l : Literal) → base_with P (literals ++ l ∷ []) ≡ with_literal (base_with P literals) l
base_with_more P literals l = λ i c v. each c v i
  where
    last : (a b c : Bool) → (a && (b && (c && true))) ≡ ((a && b) && c)
    last a b c = grind arith

    each : (c v : ℕ) → base_with P (literals ++ l ∷ []) c v ≡ with_literal (base_with P literals) l c v
    each c v =
        ap (λ b. in_base P c v && b) (list_all-append (λ m. leaves m c v) literals (l ∷ []))
        ∙ last (in_base P c v) (list_all (λ m. leaves m c v) literals) (leaves l c v)

-- so it lies within
pub base_with_falls : (P : Network) (literals : List Literal) (l : Literal) → Within (base_with P (literals ++ l ∷ [])) (base_with P literals)
base_with_falls P literals l =
    subst (λ (E : Test). Within E (base_with P literals)) (sym (base_with_more P literals l)) (cut_within (base_with P literals) (base_with P literals) l (λ c v t. t))

-- and so for any literals more
pub base_with-append : (P : Network) (literals more : List Literal) → Within (base_with P (literals ++ more)) (base_with P literals)
base_with-append P literals more c v t =
    let parts = and_parts _ _ t in
    let all = and_parts _ _ (sym (list_all-append (λ l. leaves l c v) literals more) ∙ parts.1) in
    and_from _ _ parts.0 all.0

-- ---- assignments

-- an assignment that lies in less lies in more
pub lies_within : (a : List ℕ) (D E : Test) → Within D E → LiesIn a D → LiesIn a E
lies_within a D E within lies c l = within c (slice_index a c) (lies c l)

-- one that has the value lies in the domains cut to it
pub lies_is : (a : List ℕ) (D : Test) (c v : ℕ) → LiesIn a D → slice_index a c ≡ v → LiesIn a (with_literal D (Is v c))
lies_is a D c v lies is x l =
    and_from _ _ (lies x l) (let at : x ≡ c → slice_index a x ≡ v = λ f. ap (slice_index a) f ∙ is in grind (arith, nat_tests))

-- and one that has another lies in those without it
pub lies_not : (a : List ℕ) (D : Test) (c v : ℕ) → LiesIn a D → slice_index a c ≢ v → LiesIn a (with_literal D (Not v c))
lies_not a D c v lies ne x l =
    and_from _ _ (lies x l) (let at : x ≡ c → slice_index a x ≢ v = λ f g. ne (sym (ap (slice_index a) f) ∙ g) in grind (arith, nat_tests))

-- so it lies in the one or in the other
pub lies_either : (a : List ℕ) (D : Test) (c v : ℕ) → LiesIn a D → LiesIn a (with_literal D (Is v c)) ⊎ LiesIn a (with_literal D (Not v c))
lies_either a D c v lies = elim (cases_eq (slice_index a c) v) [ inl is ↦ inl (lies_is a D c v lies is) | inr ne ↦ inr (lies_not a D c v lies ne) ]

-- what lies in the domains cut to a value has it
pub lies_is_exact : (a : List ℕ) (D : Test) (c v : ℕ) → c < length a → LiesIn a (with_literal D (Is v c)) ↔ (LiesIn a D × (slice_index a c ≡ v))
lies_is_exact a D c v l = (
  (λ lies. (lies_within a (with_literal D (Is v c)) D (cut_within D D (Is v c) (λ x w t. t)) lies, leaves_is c v (slice_index a c) (and_parts _ _ (lies c l)).1)),
  (λ both. lies_is a D c v both.0 both.1),
)

-- and what lies in those without it has another
pub lies_not_exact : (a : List ℕ) (D : Test) (c v : ℕ) → c < length a → LiesIn a (with_literal D (Not v c)) ↔ (LiesIn a D × (slice_index a c ≢ v))
lies_not_exact a D c v l = (
  (λ lies. (lies_within a (with_literal D (Not v c)) D (cut_within D D (Not v c) (λ x w t. t)) lies, leaves_not c v (slice_index a c) (and_parts _ _ (lies c l)).1)),
  (λ both. lies_not a D c v both.0 both.1),
)

-- a legal assignment lies within the base
pub legal_base : (P : Network) (a : List ℕ) → IsLegalAssignment P a → LiesIn a (in_base P)
legal_base P a legal c l = legal.based c (omega (arith, legal.each_cell))

-- ---- values without support

-- an assignment has support for each of its values
pub legal_supported : (P : Network) → IsProblem P → (D : Test) (a : List ℕ) → IsLegalAssignment P a → LiesIn a D → (c d : ℕ) → IsSupported P D c (slice_index a c) d
legal_supported P p D a legal lies c d n e =
    (slice_index a n, has_Contains (supports_of P (slice_index a c) d) (slice_index a n) (legal.beside c d n e), lies n (omega (arith, p.indexed.in_cells c d n e, legal.each_cell)))

-- so none has a value without support
pub lies_supported : (P : Network) → IsProblem P → (D : Test) (a : List ℕ) → IsLegalAssignment P a → LiesIn a D → (c v d : ℕ) → (IsSupported P D c v d → ⊥)
    → LiesIn a (with_literal D (Not v c))
lies_supported P p D a legal lies c v d bare =
    lies_not a D c v lies (λ is. bare (subst (λ (w : ℕ). IsSupported P D c w d) is (legal_supported P p D a legal lies c d)))

-- and no consistent domains have it
pub within_supported : (P : Network) (D E : Test) → Within E D → IsArcConsistent P E → (c v d : ℕ) → (IsSupported P D c v d → ⊥) → Within E (with_literal D (Not v c))
within_supported P D E within consistent c v d bare x w t =
    and_from (D x w) (leaves (Not v c) x w) (within x w t)
    (leaves_other c v x w (λ is same.
    let here : E c v ≡ true = ap (λ y. E y v) (sym is) ∙ ap (E x) (sym same) ∙ t in
    bare (λ n e. let s = consistent c v d here n e in (s.0, s.1, within n s.0 s.2))))

-- a value that stands, and at a neighbour none that may stand beside it
pub record IsBare (P : Network) (D : Test) (c v d n : ℕ) : Type 0 where
  pub stands : IsTrue (D c v)
  pub beside : neighbour P c d ≡ Some n
  pub none : (w : ℕ) → IsTrue (D n w) → IsFalse (ok P d v w)

-- such a value has no support
pub bare_unsupported : (P : Network) (D : Test) (c v d n : ℕ) → IsBare P D c v d n → IsSupported P D c v d → ⊥
bare_unsupported P D c v d n bare supported =
    let s = supported n bare.beside in
    both_ways (ok P d v s.0) (bare.none s.0 s.2) (Contains_has (supports_of P v d) s.0 s.1)

-- without a support in a direction a value is bare there
side_bare : (P : Network) (D : Test) (c v d : ℕ) (o : Option ℕ) → D c v ≡ true → neighbour P c d ≡ o → side_holds P D v d o ≡ false → (n : ℕ) × IsBare P D c v d n
side_bare P D c v d None t is e = cc
side_bare P D c v d (Some n) t is e = (
  n,
  record {
    stands = t;
    beside = is;
    none = λ w s. false_from_ne_true (ok P d v w) (λ h. false≢true (sym e ∙ Contains_any (D n) (supports_of P v d) w (has_Contains (supports_of P v d) w h) s));
  },
)

-- whether a value is missing or has support
abbrev is_kept : Network → Test → ℕ → ℕ → Bool
is_kept P D c v = is_supported P D c v || not (D c v)

-- whether each value of a cell is
abbrev is_row_kept : Network → Test → ℕ → Bool
is_row_kept P D c = list_all (is_kept P D c) (range_with_len 0 (values P))

-- one that is there has support
kept_from : (a b : Bool) → (a || not b) ≡ true → b ≡ true → a ≡ true
kept_from a b e t = grind arith

-- one that isn't kept is there and has none
not_kept : (a b : Bool) → (a || not b) ≡ false → (a ≡ false) × (b ≡ true)
not_kept true b e = cc
not_kept false true e = (refl, refl)
not_kept false false e = cc

-- domains have such a value, or they are consistent
pub bare_or_consistent : (P : Network) → IsProblem P → (D : Test) → Within D (in_base P)
    → ((c : ℕ) × (v : ℕ) × (d : ℕ) × (n : ℕ) × IsBare P D c v d n) ⊎ IsArcConsistent P D
bare_or_consistent P p D within = elim (cases_Bool (list_all (is_row_kept P D) (range_with_len 0 P.cells))) [
  | inl all ↦ inr (fixed_consistent P D (λ c v t.
      let inside = base_inside P p c v (within c v t) in
      let row = all_pass (is_row_kept P D) (range_with_len 0 P.cells) c all (range_Contains P.cells c inside.0) in
      let here = all_pass (is_kept P D c) (range_with_len 0 (values P)) v row (range_Contains (values P) v inside.1) in
      and_from (D c v) (is_supported P D c v) t (kept_from (is_supported P D c v) (D c v) here t)))
  | inr some ↦
      let c = one_fails (is_row_kept P D) (range_with_len 0 P.cells) some in
      let v = one_fails (is_kept P D c.0) (range_with_len 0 (values P)) c.2 in
      let both = not_kept (is_supported P D c.0 v.0) (D c.0 v.0) v.2 in
      let d = one_fails (λ d. side_holds P D v.0 d (neighbour P c.0 d)) (range_with_len 0 P.dirs) both.0 in
      let bare = side_bare P D c.0 v.0 d.0 (neighbour P c.0 d.0) both.1 refl d.2 in
      inl (c.0, v.0, d.0, bare.0, bare.1)
]

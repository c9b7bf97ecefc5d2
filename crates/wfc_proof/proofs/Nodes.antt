-- A node is accepted exactly where it is right.
use Rattle.std.proofs.Common.{◌≡◌, ℕ, ◌<◌, Bool, true, false, cond, List, [], ◌∷◌, refl, sym, ◌∙◌, ap, Option, Some, None}
use Rattle.std.specs.Prelude.{Contains, ◌&&◌, ◌||◌, not, ◌==◌, nat_lt}
use Rattle.std.specs.List.{find, list_all, range_with_len}
use Rattle.std.specs.Option.{option_map, option_or}
use Rattle.std.proofs.lemmas.Bool.{and_from, false≢true, ltb-true, lt-ltb, eqb-true, eqb-false}
use Rattle.wfc_problem.specs.Domains.{Test, Within, IsEmptyAt}
use Rattle.wfc_problem.specs.Network.{Network, IsProblem, values, neighbour, supports_of, ok, in_base}
use Rattle.wfc_lists.proofs.Lists.{one_fails, all_pass, Contains_first, Contains_later, has_Contains, Contains_has}
use Rattle.wfc_lists.proofs.Positions.{find_fails}
use Rattle.wfc_lists.proofs.Ranges.{range_Contains}
use Rattle.wfc_problem.proofs.CallerLemmas.{neighbour_dir, base_inside}
use Rattle.wfc_proof.specs.Checker.{reject_unless, beside_fault, node_fault}
use Rattle.wfc_proof.specs.Proof.{IsRemoval, IsSplit}
use Rattle.wfc_proof.specs.Proof.Node.{empties, removes, splits}
use Rattle.wfc_proof.specs.declared.Reject.{Reject}
use Rattle.wfc_proof.specs.declared.Reject.TheVariants.{NotStanding, IndexRange, OnlyValue}

-- ---- checks in their order

-- a check that gives no refusal is passed
unless_none : (b : Bool) (r : Reject) → reject_unless b r ≡ None → b ≡ true
unless_none true r e = refl
unless_none false r e = cc

-- and the other way
none_unless : (b : Bool) (r : Reject) → b ≡ true → reject_unless b r ≡ None
none_unless true r e = refl
none_unless false r e = cc

-- where the first of two gives a refusal or else the second, none means neither
or_none : (a b : Option Reject) → option_or a b ≡ None → (a ≡ None) × (b ≡ None)
or_none None b e = (refl, e)
or_none (Some r) b e = cc

-- and the other way
none_or : (a b : Option Reject) → a ≡ None → b ≡ None → option_or a b ≡ None
none_or None b e f = f
none_or (Some r) b e f = cc

-- what is renamed is there or not
mapped_none : (f : ℕ → Reject) (o : Option ℕ) → option_map f o ≡ None → o ≡ None
mapped_none f None e = refl
mapped_none f (Some x) e = cc

none_mapped : (f : ℕ → Reject) (o : Option ℕ) → o ≡ None → option_map f o ≡ None
none_mapped f None e = refl
none_mapped f (Some x) e = cc

-- none is found behind one that fails
none_found : (b : Bool) (x : ℕ) (o : Option ℕ) → b ≡ false → o ≡ None → cond b (Some x) o ≡ None
none_found true x o e f = cc
none_found false x o e f = f

-- where each fails none is found
find_none : (p : ℕ → Bool) (xs : List ℕ) → ((v : ℕ) → Contains xs v → p v ≡ false) → find p xs ≡ None
find_none p [] each = refl
find_none p (x ∷ xs) each =
    none_found (p x) x (find p xs) (each x (Contains_first x xs)) (find_none p xs (λ v has. each v (Contains_later x xs v has)))

-- what isn't true is false
pub not_true : (b : Bool) → (b ≡ true → ⊥) → b ≡ false
not_true true h = absurd (h refl)
not_true false h = refl

-- ---- removals

-- an accepted removal has a neighbour, of which no standing value may stand beside it
beside_is : (P : Network) (D : Test) (c v d : ℕ) (o : Option ℕ) → neighbour P c d ≡ o → D c v ≡ true → beside_fault D (supports_of P v d) o ≡ None → IsRemoval P D c v d
beside_is P D c v d None is stands e = cc
beside_is P D c v d (Some n) is stands e = record {
  stands = stands;
  next = n;
  beside = is;
  none = λ w t. not_true (ok P d v w) (λ h.
      false≢true (sym (find_fails (D n) (supports_of P v d) w (mapped_none _ (find (D n) (supports_of P v d)) e) (has_Contains (supports_of P v d) w h)) ∙ t));
}

pub accepted_removal : (P : Network) (D : Test) (c v d : ℕ) → node_fault P D (removes c v d) ≡ None → IsRemoval P D c v d
accepted_removal P D c v d e =
    let more = (or_none _ _ e).1 in
    let parts = or_none _ _ more in
    beside_is P D c v d (neighbour P c d) refl (unless_none (D c v) NotStanding parts.0) parts.1

-- where no standing value supports it, none is named
is_beside : (P : Network) (D : Test) (c v d : ℕ) → (h : IsRemoval P D c v d) → (o : Option ℕ) → neighbour P c d ≡ o → beside_fault D (supports_of P v d) o ≡ None
is_beside P D c v d h None is = let e = h.beside in cc
is_beside P D c v d h (Some n) is =
    let same : h.next ≡ n = (let e = h.beside in cc) in
    none_mapped _ (find (D n) (supports_of P v d)) (find_none (D n) (supports_of P v d) (λ w has. not_true (D n w) (λ t.
    false≢true (sym (h.none w (ap (λ m. D m w) same ∙ t)) ∙ Contains_has (supports_of P v d) w has))))

pub removal_accepted : (P : Network) → IsProblem P → (D : Test) → Within D (in_base P) → (c v d : ℕ) → IsRemoval P D c v d → node_fault P D (removes c v d) ≡ None
removal_accepted P p D within c v d h =
    let inside = base_inside P p c v (within c v h.stands) in
    let range : (nat_lt c P.cells && (nat_lt v (values P) && nat_lt d P.dirs)) ≡ true =
    and_from _ _ (lt-ltb c P.cells inside.0) (and_from _ _ (lt-ltb v (values P) inside.1) (lt-ltb d P.dirs (neighbour_dir P c d h.next h.beside))) in
    none_or _ _ (none_unless _ IndexRange range) (none_or _ _ (none_unless (D c v) NotStanding h.stands) (is_beside P D c v d h (neighbour P c d) refl))

-- ---- splits

-- what neither is the value nor is missing
pub neither : (a b : Bool) → (a || not b) ≡ false → (a ≡ false) × (b ≡ true)
neither true b e = cc
neither false true e = (refl, refl)
neither false false e = cc

pub from_neither : (a b : Bool) → (a || not b) ≡ true → a ≡ false → b ≡ true → ⊥
from_neither true b e f g = false≢true (sym f)
from_neither false true e f g = false≢true e
from_neither false false e f g = false≢true g

not_parts : (b : Bool) → not b ≡ true → b ≡ false
not_parts true e = cc
not_parts false e = refl

from_not : (b : Bool) → b ≡ false → not b ≡ true
from_not true e = cc
from_not false e = refl

pub accepted_split : (P : Network) (D : Test) (c v : ℕ) → node_fault P D (splits c v) ≡ None → IsSplit D c v
accepted_split P D c v e =
    let more = (or_none _ _ e).1 in
    let parts = or_none _ _ more in
    let fails = one_fails (λ w. w == v || not (D c w)) (range_with_len 0 (values P)) (not_parts _ (unless_none _ OnlyValue parts.1)) in
    let both = neither (fails.0 == v) (D c fails.0) fails.2 in
    record {
      stands = unless_none (D c v) NotStanding parts.0;
      other = fails.0;
      also = both.1;
      differs = eqb-false fails.0 v both.0;
    }

pub split_accepted : (P : Network) → IsProblem P → (D : Test) → Within D (in_base P) → (c v : ℕ) → IsSplit D c v → node_fault P D (splits c v) ≡ None
split_accepted P p D within c v h =
    let inside = base_inside P p c v (within c v h.stands) in
    let other_in = base_inside P p c h.other (within c h.other h.also) in
    let test : ℕ → Bool = λ w. w == v || not (D c w) in
    let values_all : List ℕ = range_with_len 0 (values P) in
    let range : (nat_lt c P.cells && nat_lt v (values P)) ≡ true = and_from _ _ (lt-ltb c P.cells inside.0) (lt-ltb v (values P) inside.1) in
    let some : list_all test values_all ≡ false = not_true (list_all test values_all) (λ all.
    from_neither (h.other == v) (D c h.other) (all_pass test values_all h.other all (range_Contains (values P) h.other other_in.1))
    (not_true (h.other == v) (λ same. h.differs (eqb-true h.other v same))) h.also) in
    none_or _ _ (none_unless _ IndexRange range) (none_or _ _ (none_unless (D c v) NotStanding h.stands) (none_unless _ OnlyValue (from_not _ some)))

-- ---- empty cells

pub accepted_empty : (P : Network) → IsProblem P → (D : Test) → Within D (in_base P) → (c : ℕ) → node_fault P D (empties c) ≡ None → (c < P.cells) × IsEmptyAt D c
accepted_empty P p D within c e =
    let parts = or_none _ _ e in
    let none = mapped_none _ (find (D c) (range_with_len 0 (values P))) parts.1 in (
      ltb-true c P.cells (unless_none _ IndexRange parts.0),
      (λ v. not_true (D c v) (λ t.
          false≢true (sym (find_fails (D c) (range_with_len 0 (values P)) v none (range_Contains (values P) v (base_inside P p c v (within c v t)).1)) ∙ t))),
    )

pub empty_accepted : (P : Network) (D : Test) (c : ℕ) → c < P.cells → IsEmptyAt D c → node_fault P D (empties c) ≡ None
empty_accepted P D c l e =
    none_or _ _ (none_unless _ IndexRange (lt-ltb c P.cells l)) (none_mapped _ (find (D c) (range_with_len 0 (values P))) (find_none (D c) (range_with_len 0 (values P)) (λ v has. e v)))

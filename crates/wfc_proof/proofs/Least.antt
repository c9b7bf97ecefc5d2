-- A value that a refusal names is the least.
use Rattle.std.proofs.Common.{◌≡◌, ℕ, suc, ◌<◌, Bool, true, false, cond, List, [], ◌∷◌, get_or, refl, sym, ◌∙◌, ap, arith, inl, inr, Option, Some, None}
use Rattle.std.specs.Prelude.{Contains, IsTrue, IsFalse, nat_lt}
use Rattle.std.specs.List.{find, AllPairs, range_with_len}
use Rattle.std.specs.Option.{option_map, option_or}
use Rattle.std.proofs.lemmas.Bool.{false≢true}
use Rattle.std.proofs.lemmas.List.FromFn.{get_or-range_with_len, length-range_with_len}
use Rattle.std.proofs.lemmas.List.Kept.{AllPairs-from_increasing}
use Rattle.wfc_problem.specs.Domains.{Test}
use Rattle.wfc_problem.specs.Network.{Network, IsProblem, values, neighbour, supports_of, ok}
use Rattle.wfc_lists.proofs.Lists.{Contains_cases, has_Contains, Contains_has}
use Rattle.wfc_lists.proofs.Positions.{find_passes}
use Rattle.wfc_lists.proofs.Ranges.{range_Contains, Contains_range}
use Rattle.wfc_proof.proofs.Nodes.{not_true}
use Rattle.wfc_proof.specs.Checker.{reject_unless, beside_fault, node_fault}
use Rattle.wfc_proof.specs.Proof.Node.{empties, removes}
use Rattle.wfc_proof.specs.declared.Reject.{Reject}
use Rattle.wfc_proof.specs.declared.Reject.TheVariants.{NotStanding, HasSupport, NotEmpty, IndexRange}

-- what is found at the front or behind it is below each other that passes
least_if : (p : ℕ → Bool) (b : Bool) (x : ℕ) (xs : List ℕ) (o : Option ℕ) (w u : ℕ) → p x ≡ b → AllPairs (λ i j. i < j) (x ∷ xs)
    → (o ≡ Some w → Contains xs u → p u ≡ false) → cond b (Some x) o ≡ Some w → Contains (x ∷ xs) u → u < w → p u ≡ false
least_if p true x xs o w u is rise rest e has lt =
    let same : x ≡ w = cc in
    absurd (elim (Contains_cases x xs u has) [
      | inl f ↦ omega (arith, same, f, lt)
      | inr r ↦ let above : x < get_or xs r.0 u = rise 0 (suc r.0) u (omega arith) (omega (arith, r.1)) in omega (arith, same, lt, above, r.2)
    ])
least_if p false x xs o w u is rise rest e has lt = elim (Contains_cases x xs u has) [ inl f ↦ sym (ap p f) ∙ is | inr r ↦ rest e r ]

find_least : (p : ℕ → Bool) (xs : List ℕ) (w u : ℕ) → AllPairs (λ i j. i < j) xs → find p xs ≡ Some w → Contains xs u → u < w → p u ≡ false
find_least p [] w u rise e has lt = cc
find_least p (x ∷ xs) w u rise e has lt =
    least_if p (p x) x xs (find p xs) w u refl rise
    (λ f r. find_least p xs w u (λ i j d l h. rise (suc i) (suc j) d (omega (arith, l)) (omega (arith, h))) f r lt) e has lt

-- the numbers below n rise
range_rises : (n : ℕ) → AllPairs (λ i j. i < j) (range_with_len 0 n)
range_rises n i j d l h =
    omega (arith, l, length-range_with_len 0 n, get_or-range_with_len 0 n i d (omega (arith, l, h, length-range_with_len 0 n)), get_or-range_with_len 0 n j d (omega (arith, h, length-range_with_len 0 n)))

-- a refusal of a later check
past : (b : Bool) (r q : Reject) (o : Option Reject) → (r ≡ q → ⊥) → option_or (reject_unless b r) o ≡ Some q → o ≡ Some q
past true r q o ne e = e
past false r q o ne e = let same : r ≡ q = cc in absurd (ne same)

-- the value that is named
support_named : (o : Option ℕ) (w : ℕ) → option_map (λ x. HasSupport x) o ≡ Some (HasSupport w) → o ≡ Some w
support_named None w e = cc
support_named (Some x) w e = cc

value_named : (o : Option ℕ) (w : ℕ) → option_map (λ x. NotEmpty x) o ≡ Some (NotEmpty w) → o ≡ Some w
value_named None w e = cc
value_named (Some x) w e = cc

-- of the neighbour
beside_least : (P : Network) → IsProblem P → (D : Test) (c v d w : ℕ) (o : Option ℕ) → neighbour P c d ≡ o → beside_fault D (supports_of P v d) o ≡ Some (HasSupport w)
    → (n : ℕ) × (neighbour P c d ≡ Some n) × IsTrue (D n w) × IsTrue (ok P d v w) × ((u : ℕ) → u < w → IsTrue (D n u) → IsFalse (ok P d v u))
beside_least P p D c v d w None is e = cc
beside_least P p D c v d w (Some n) is e =
    let found = support_named (find (D n) (supports_of P v d)) w e in
    let at = find_passes (D n) (supports_of P v d) w found in
    let rise = AllPairs-from_increasing (supports_of P v d) (p.indexed.rising v d) in (
      n,
      is,
      at.0,
      Contains_has (supports_of P v d) w at.1,
      (λ u lt t. not_true (ok P d v u) (λ h.
          false≢true (sym (find_least (D n) (supports_of P v d) w u rise found (has_Contains (supports_of P v d) u h) lt) ∙ t))),
    )

-- the support that a refused removal names is the least that stands
pub support_least : (P : Network) → IsProblem P → (D : Test) (c v d w : ℕ) → node_fault P D (removes c v d) ≡ Some (HasSupport w)
    → (n : ℕ) × (neighbour P c d ≡ Some n) × IsTrue (D n w) × IsTrue (ok P d v w) × ((u : ℕ) → u < w → IsTrue (D n u) → IsFalse (ok P d v u))
support_least P p D c v d w e =
    beside_least P p D c v d w (neighbour P c d) refl
    (past (D c v) NotStanding (HasSupport w) _ (λ f. cc) (past _ IndexRange (HasSupport w) _ (λ f. cc) e))

-- and the value of a cell that isn't empty
pub value_least : (P : Network) (D : Test) (c w : ℕ) → node_fault P D (empties c) ≡ Some (NotEmpty w) → IsTrue (D c w) × ((u : ℕ) → u < w → IsFalse (D c u))
value_least P D c w e =
    let found : find (D c) (range_with_len 0 (values P)) ≡ Some w =
    value_named (find (D c) (range_with_len 0 (values P))) w (past (nat_lt c P.cells) IndexRange (NotEmpty w) _ (λ f. cc) e) in
    let at : (D c w ≡ true) × Contains (range_with_len 0 (values P)) w = find_passes (D c) (range_with_len 0 (values P)) w found in (
      at.0,
      (λ u lt. find_least (D c) (range_with_len 0 (values P)) w u (range_rises (values P)) found
          (range_Contains (values P) u (omega (arith, lt, Contains_range (values P) w at.1))) lt),
    )

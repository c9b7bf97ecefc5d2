-- A proof that closes domains leaves no legal assignment in them.
use Rattle.std.proofs.Common.{◌≡◌, ℕ, List, sym, ◌∙◌, ap, arith, inl, inr}
use Rattle.std.specs.Prelude.{slice_index}
use Rattle.std.proofs.lemmas.Bool.{and_from, cases_eq, false≢true}
use Rattle.std.proofs.lemmas.Bool.Decides.{nat_tests}
use Rattle.wfc_problem.specs.Assignment.{IsLegalAssignment, LiesIn}
use Rattle.wfc_problem.specs.Domains.{Test, with_literal}
use Rattle.wfc_problem.specs.Network.{Network, IsProblem, in_base}
use Rattle.wfc_problem.specs.declared.Literal.TheVariants.{Is, Not}
use Rattle.wfc_proof.specs.Proof.{Proof, Closes, IsRemoval}
use Rattle.wfc_proof.specs.Proof.Proof.{empty, remove, split, left_off}

-- an assignment that has the value lies in the domains cut to it
lies_is : (a : List ℕ) (D : Test) (c v : ℕ) → LiesIn a D → slice_index a c ≡ v → LiesIn a (with_literal D (Is v c))
lies_is a D c v lies is x l =
    and_from _ _ (lies x l) (let at : x ≡ c → slice_index a x ≡ v = λ f. ap (slice_index a) f ∙ is in grind (arith, nat_tests))

-- and one that has another lies in those without it
lies_not : (a : List ℕ) (D : Test) (c v : ℕ) → LiesIn a D → (slice_index a c ≡ v → ⊥) → LiesIn a (with_literal D (Not v c))
lies_not a D c v lies ne x l =
    and_from _ _ (lies x l) (let at : x ≡ c → slice_index a x ≡ v → ⊥ = λ f g. ne (sym (ap (slice_index a) f) ∙ g) in grind (arith, nat_tests))

-- what is removed for want of support is in no legal assignment
removed_not : (P : Network) → IsProblem P → (a : List ℕ) → IsLegalAssignment P a → (D : Test) (c v d : ℕ) → LiesIn a D → IsRemoval P D c v d → slice_index a c ≡ v → ⊥
removed_not P p a legal D c v d lies h is =
    let stands = lies h.next (omega (arith, p.indexed.in_cells c d h.next h.beside, legal.each_cell)) in
    let beside = legal.beside c d h.next h.beside in
    let none = h.none (slice_index a h.next) stands in
    false≢true (sym none ∙ rw is at beside)

pub closes_none : (P : Network) → IsProblem P → (a : List ℕ) → IsLegalAssignment P a → (D : Test) (proof : Proof) → Closes P D proof → LiesIn a D → ⊥
closes_none P p a legal D (empty c) (l, e) lies = false≢true (sym (e (slice_index a c)) ∙ lies c (omega (arith, legal.each_cell)))
closes_none P p a legal D (remove c v d rest) (h, closes) lies =
    closes_none P p a legal (with_literal D (Not v c)) rest closes (lies_not a D c v lies (removed_not P p a legal D c v d lies h))
closes_none P p a legal D (split c v left right) (h, first, second) lies = elim (cases_eq (slice_index a c) v) [
  | inl is ↦ closes_none P p a legal (with_literal D (Is v c)) left first (lies_is a D c v lies is)
  | inr ne ↦ closes_none P p a legal (with_literal D (Not v c)) right second (lies_not a D c v lies ne)
]
closes_none P p a legal D left_off closes lies = closes

-- so where a proof closes the base domains there is none
pub closed_none : (P : Network) → IsProblem P → (proof : Proof) → Closes P (in_base P) proof → (a : List ℕ) → IsLegalAssignment P a → ⊥
closed_none P p proof closes a legal =
    closes_none P p a legal (in_base P) proof closes (λ c l. legal.based c (omega (arith, legal.each_cell)))

-- Branches that wait are at most as many as pairs, since each split takes a pair from both of its branches.
use Rattle.std.proofs.Common.{◌≡◌, ℕ, ◌+◌, ◌≤◌, true, List, [], ◌∷◌, length, sym, ◌∙◌, subst, arith}
use Rattle.std.specs.Prelude.{Ok, ⊤}
use Rattle.std.proofs.lemmas.Bool.{and_parts}
use Rattle.std.proofs.lemmas.Bool.Decides.{nat_tests}
use Rattle.wfc_problem.specs.Domains.{Test, Within, leaves, with_literal}
use Rattle.wfc_problem.specs.Network.{Network, IsProblem, in_base}
use Rattle.wfc_problem.specs.Rounds.{pairs, depth_of}
use Rattle.wfc_problem.specs.declared.Literal.TheVariants.{Is, Not}
use Rattle.wfc_problem.proofs.CallerLemmas.{base_inside, cut_within, size_at_without, pairs_less}
use Rattle.wfc_proof.specs.Checker.{after_close, node_steps, line_steps}
use Rattle.wfc_proof.specs.Checker.Point.{going}
use Rattle.wfc_proof.specs.Lines.{nodes_of_lines}
use Rattle.wfc_proof.specs.Proof.{IsSplit, Node}
use Rattle.wfc_proof.specs.Proof.Node.{empties, removes, splits}
use Rattle.wfc_proof.specs.declared.Line.{Line}
use Rattle.wfc_proof.proofs.Forests.{Inside, step_cases}
use Rattle.wfc_proof.proofs.Nodes.{accepted_removal, accepted_split}
use Rattle.wfc_proof.proofs.Told.{lines_nodes}

-- the pairs of each of these domains and the domains behind it are at most n
abbrev pub Fits : Network → ℕ → List Test → Type 0
Fits P n [] = ⊤
Fits P n (D ∷ Ds) = (pairs P D + length Ds ≤ n) × Fits P n Ds

-- what a choice leaves at its cell is its value, and what is ruled out isn't left
left_is : (c v w : ℕ) → leaves (Is v c) c w ≡ true → w ≡ v
left_is c v w t = grind (arith, nat_tests)

left_not : (c v w : ℕ) → leaves (Not v c) c w ≡ true → w ≡ v → ⊥
left_not c v w t e = grind (arith, nat_tests)

-- ruling out a value that stands takes a pair away
pub not_less : (P : Network) → IsProblem P → (D : Test) → Within D (in_base P) → (c v : ℕ) → D c v ≡ true → pairs P (with_literal D (Not v c)) + 1 ≤ pairs P D
not_less P p D within c v t =
    let inside = base_inside P p c v (within c v t) in
    let less = size_at_without P p (with_literal D (Not v c)) D within c v t
    (λ w s. let parts = and_parts (D c w) (leaves (Not v c) c w) s in (parts.0, left_not c v w parts.1)) in
    let fewer = pairs_less P (with_literal D (Not v c)) D c (cut_within D D (Not v c) (λ x y s. s)) inside.0 (omega (arith, less)) in
    omega (arith, fewer)

-- and so does choosing one beside another
pub is_less : (P : Network) → IsProblem P → (D : Test) → Within D (in_base P) → (c v : ℕ) → IsSplit D c v → pairs P (with_literal D (Is v c)) + 1 ≤ pairs P D
is_less P p D within c v h =
    let inside = base_inside P p c v (within c v h.stands) in
    let less = size_at_without P p (with_literal D (Is v c)) D within c h.other h.also
    (λ w s. let parts = and_parts (D c w) (leaves (Is v c) c w) s in (parts.0, (λ e. h.differs (sym e ∙ left_is c v w parts.1)))) in
    let fewer = pairs_less P (with_literal D (Is v c)) D c (cut_within D D (Is v c) (λ x y s. s)) inside.0 (omega (arith, less)) in
    omega (arith, fewer)

-- accepted nodes keep all within the base, and few enough
pub steps_fit : (P : Network) → IsProblem P → (n : ℕ) (Ds : List Test) → Inside P Ds → Fits P n Ds → (ns : List Node) (E : Test) (more : List Test)
    → node_steps P (after_close Ds) ns ≡ Ok (going E more) → Inside P (E ∷ more) × Fits P n (E ∷ more)
steps_fit P p n [] inside fits [] E more e = cc
steps_fit P p n [] inside fits (x ∷ ns) E more e = cc
steps_fit P p n (D ∷ Ds) inside fits [] E more e =
    let first : D ≡ E = cc in
    let rest : Ds ≡ more = cc in
    subst (λ (F : Test). Inside P (F ∷ more) × Fits P n (F ∷ more)) first
    (subst (λ (Fs : List Test). Inside P (D ∷ Fs) × Fits P n (D ∷ Fs)) rest (inside, fits))
steps_fit P p n (D ∷ Ds) inside fits (empties c ∷ ns) E more e =
    steps_fit P p n Ds inside.1 fits.1 ns E more (step_cases P D Ds (empties c) ns (going E more) e).1
steps_fit P p n (D ∷ Ds) inside fits (removes c v d ∷ ns) E more e =
    let s = step_cases P D Ds (removes c v d) ns (going E more) e in
    let h = accepted_removal P D c v d s.0 in
    steps_fit P p n (with_literal D (Not v c) ∷ Ds) (cut_within D (in_base P) (Not v c) inside.0, inside.1)
    (omega (arith, fits.0, not_less P p D inside.0 c v h.stands), fits.1) ns E more s.1
steps_fit P p n (D ∷ Ds) inside fits (splits c v ∷ ns) E more e =
    let s = step_cases P D Ds (splits c v) ns (going E more) e in
    let h = accepted_split P D c v s.0 in
    let first : pairs P (with_literal D (Is v c)) + length (with_literal D (Not v c) ∷ Ds) ≤ n = omega (arith, fits.0, is_less P p D inside.0 c v h) in
    let second : pairs P (with_literal D (Not v c)) + length Ds ≤ n = omega (arith, fits.0, not_less P p D inside.0 c v h.stands) in
    steps_fit P p n (with_literal D (Is v c) ∷ with_literal D (Not v c) ∷ Ds)
    (cut_within D (in_base P) (Is v c) inside.0, (cut_within D (in_base P) (Not v c) inside.0, inside.1)) (first, (second, fits.1)) ns E more s.1

-- so fewer branches wait than the problem has pairs
pub waiting_few : (P : Network) → IsProblem P → (lines : List Line) (E : Test) (waiting : List Test) → line_steps P (going (in_base P) []) lines ≡ Ok (going E waiting)
    → Within E (in_base P) × (pairs P E + length waiting ≤ depth_of P)
waiting_few P p lines E waiting e =
    let told = lines_nodes P (going (in_base P) []) lines (going E waiting) (λ f. cc) e in
    let r = steps_fit P p (depth_of P) (in_base P ∷ []) ((λ c v t. t), tt) (omega arith, tt) (nodes_of_lines lines) E waiting told.1 in
    (r.0.0, r.1.0)

-- Each literal of a run takes a pair away, so there are at most as many as pairs.
use Rattle.std.proofs.Common.{◌≡◌, ℕ, ◌+◌, ◌<◌, ◌≤◌, List, [], ◌∷◌, ◌++◌, length, refl, ◌∙◌, ap, subst, arith, inl, inr}
use Rattle.wfc_problem.specs.Domains.{Test}
use Rattle.wfc_problem.specs.Network.{Network, IsProblem}
use Rattle.wfc_problem.specs.Rounds.{greatest, pairs, depth_of}
use Rattle.wfc_problem.specs.declared.Literal.{Literal}
use Rattle.wfc_problem.specs.declared.Literal.TheVariants.{Is, Not}
use Rattle.wfc_problem.proofs.CallerLemmas.{greatest_below, choice_one, ruled_out_less, pairs_base, pairs_less}
use Rattle.wfc_search.specs.Between.{Cuts, IsGrown}
use Rattle.wfc_search.proofs.Literals.{push_split, longer}

-- a literal that cuts takes a pair away
pub cut_falls : (P : Network) → IsProblem P → (ls : List Literal) (l : Literal) → Cuts P (greatest P ls) l → pairs P (greatest P (ls ++ l ∷ [])) < pairs P (greatest P ls)
cut_falls P p ls (Is v c) cuts =
    pairs_less P (greatest P (ls ++ Is v c ∷ [])) (greatest P ls) c (greatest_below P p ls (Is v c)) cuts.0 (omega (arith, choice_one P p ls c v, cuts.2))
cut_falls P p ls (Not v c) cuts =
    pairs_less P (greatest P (ls ++ Not v c ∷ [])) (greatest P ls) c (greatest_below P p ls (Not v c)) cuts.0 (omega (arith, ruled_out_less P p ls c v cuts.1))

-- ---- grown literals

-- each literal of a grown list takes a pair away
few : (P : Network) (G : List Literal → Test) → ((ls : List Literal) (l : Literal) → Cuts P (G ls) l → pairs P (G (ls ++ l ∷ [])) < pairs P (G ls))
    → (ls : List Literal) → ((before after : List Literal) (l : Literal) → ls ≡ before ++ l ∷ after → Cuts P (G before) l)
    → length ls + pairs P (G ls) ≤ pairs P (G [])
few P G falls [] grown = omega arith
few P G falls (l ∷ ls) grown =
    let first = falls [] l (grown [] ls l refl) in
    let rest = few P (λ later. G (l ∷ later)) (λ before m cuts. falls (l ∷ before) m cuts) ls
    (λ before after m e. grown (l ∷ before) after m (ap (λ (xs : List Literal). l ∷ xs) e)) in
    omega arith

-- there are no more of them than pairs of a cell and a base value
pub grown_few : (P : Network) → IsProblem P → (ls : List Literal) → IsGrown P ls → length ls ≤ depth_of P
grown_few P p ls grown = omega (arith, few P (greatest P) (cut_falls P p) ls grown, pairs_base P p)

-- no literals are grown
pub grown_none : (P : Network) → IsGrown P []
grown_none P [] after l e = cc
grown_none P (b ∷ before) after l e = cc

-- one more that cuts
pub grown_push : (P : Network) (ls : List Literal) (l : Literal) → IsGrown P ls → Cuts P (greatest P ls) l → IsGrown P (ls ++ l ∷ [])
grown_push P ls l grown cuts before after m e = elim (push_split ls l before m after e) [
  | inl h ↦
      subst (λ (b : List Literal). Cuts P (greatest P b) m) h.0 (subst (λ (x : Literal). Cuts P (greatest P ls) x) h.1 cuts)
  | inr r ↦ grown before r.0 m r.1
]

-- what rules out a choice in its stead
pub grown_retract : (P : Network) (ls before after : List Literal) (c v : ℕ) → IsGrown P ls → ls ≡ before ++ Is v c ∷ after → IsGrown P (before ++ Not v c ∷ [])
grown_retract P ls before after c v grown e =
    let cuts = grown before after (Is v c) e in
    grown_push P before (Not v c)
    (λ b a l f. grown b (a ++ Is v c ∷ after) l (e ∙ longer before b l a (Is v c ∷ after) f))
    (cuts.0, cuts.1)

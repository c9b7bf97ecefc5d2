-- What is ruled out has no legal assignment, so at the end there is none.
use Rattle.std.proofs.Common.{◌≡◌, ℕ, true, List, [], ◌∷◌, ◌++◌, refl, sym, ◌∙◌, subst, arith, inl, inr, None, append_assoc, append-nil}
use Rattle.std.proofs.lemmas.Bool.{and_from}
use Rattle.wfc_problem.specs.Assignment.{IsLegalAssignment, LiesIn}
use Rattle.wfc_problem.specs.Domains.{Test, base_with}
use Rattle.wfc_problem.specs.Network.{Network, IsProblem}
use Rattle.wfc_problem.specs.Rounds.{greatest}
use Rattle.wfc_problem.specs.declared.Literal.{Literal}
use Rattle.wfc_problem.specs.declared.Literal.TheVariants.{Is, Not}
use Rattle.wfc_problem.proofs.CallerLemmas.{is_dead_none, lies_either, base_with_more}
use Rattle.wfc_search.specs.Between.{IsReasoned, HasNoneWithin}
use Rattle.wfc_search.specs.Run.{last_choice}
use Rattle.wfc_problem.specs.Sizes.{is_dead}
use Rattle.wfc_search.proofs.Literals.{push_split, longer, none_first}

-- no literals rule nothing out
pub reasoned_none : (P : Network) → IsReasoned P []
reasoned_none P [] after c v e = cc
reasoned_none P (b ∷ before) after c v e = cc

-- a choice rules nothing out
pub reasoned_choice : (P : Network) (ls : List Literal) (c v : ℕ) → IsReasoned P ls → IsReasoned P (ls ++ Is v c ∷ [])
reasoned_choice P ls c v reasoned before after x y e = elim (push_split ls (Is v c) before (Not y x) after e) [
  | inl h ↦ let f = h.1 in cc
  | inr r ↦ reasoned before r.0 x y r.1
]

-- what is ruled out with a reason
reasoned_not : (P : Network) (ls : List Literal) (c v : ℕ) → IsReasoned P ls → HasNoneWithin P (ls ++ Is v c ∷ []) → IsReasoned P (ls ++ Not v c ∷ [])
reasoned_not P ls c v reasoned none before after x y e = elim (push_split ls (Not v c) before (Not y x) after e) [
  | inl h ↦
      let at_c : c ≡ x = (let f = h.1 in cc) in
      let at_v : v ≡ y = (let f = h.1 in cc) in
      subst (λ (b : List Literal). HasNoneWithin P (b ++ Is y x ∷ [])) h.0
      (subst (λ (w : ℕ). HasNoneWithin P (ls ++ Is w x ∷ [])) at_v (subst (λ (d : ℕ). HasNoneWithin P (ls ++ Is v d ∷ [])) at_c none))
  | inr r ↦ reasoned before r.0 x y r.1
]

-- a legal assignment meets what is ruled out behind literals that it meets
meets : (P : Network) (a : List ℕ) → IsLegalAssignment P a → (before after : List Literal) → last_choice after ≡ None → IsReasoned P (before ++ after)
    → LiesIn a (base_with P before) → LiesIn a (base_with P (before ++ after))
meets P a legal before [] none reasoned lies = subst (λ (ls : List Literal). LiesIn a (base_with P ls)) (sym (append-nil before)) lies
meets P a legal before (l ∷ after) none reasoned lies =
    let first = none_first l after none in
    let Q : Literal → Type 0 = λ m. LiesIn a (base_with P (before ++ m ∷ after)) in
    let here : IsReasoned P (before ++ Not first.1 first.0 ∷ after) = subst (λ (m : Literal). IsReasoned P (before ++ m ∷ after)) first.2 reasoned in
    let joined : (before ++ Not first.1 first.0 ∷ []) ++ after ≡ before ++ Not first.1 first.0 ∷ after = append_assoc before (Not first.1 first.0 ∷ []) after in
    subst Q (sym first.2) (elim (lies_either a (base_with P before) first.0 first.1 lies) [
      | inl is ↦ absurd (here before after first.0 first.1 refl a legal (subst (λ (D : Test). LiesIn a D) (sym (base_with_more P before (Is first.1 first.0))) is))
      | inr is ↦
          subst (λ (ls : List Literal). LiesIn a (base_with P ls)) joined
          (meets P a legal (before ++ Not first.1 first.0 ∷ []) after first.3 (subst (λ (ls : List Literal). IsReasoned P ls) (sym joined) here)
          (subst (λ (D : Test). LiesIn a D) (sym (base_with_more P before (Not first.1 first.0))) is))
    ])

-- dead domains have no legal assignment
dead_has_none : (P : Network) → IsProblem P → (ls : List Literal) → is_dead P (greatest P ls) ≡ true → HasNoneWithin P ls
dead_has_none P p ls dead a legal lies = is_dead_none P p ls dead a legal lies

-- where the domains are dead the last choice has no legal assignment
pub reasoned_retract : (P : Network) → IsProblem P → (ls before after : List Literal) (c v : ℕ) → IsReasoned P ls → is_dead P (greatest P ls) ≡ true
    → ls ≡ before ++ Is v c ∷ after → last_choice after ≡ None → IsReasoned P (before ++ Not v c ∷ [])
reasoned_retract P p ls before after c v reasoned dead e none =
    let joined : (before ++ Is v c ∷ []) ++ after ≡ ls = append_assoc before (Is v c ∷ []) after ∙ sym e in
    reasoned_not P before c v (λ b a x y f. reasoned b (a ++ Is v c ∷ after) x y (e ∙ longer before b (Not y x) a (Is v c ∷ after) f))
    (λ a legal lies. dead_has_none P p ls dead a legal
    (subst (λ (xs : List Literal). LiesIn a (base_with P xs)) joined
    (meets P a legal (before ++ Is v c ∷ []) after none (subst (λ (xs : List Literal). IsReasoned P xs) (sym joined) reasoned) lies)))

-- and where there is no choice there is none at all
pub reasoned_end : (P : Network) → IsProblem P → (ls : List Literal) → IsReasoned P ls → is_dead P (greatest P ls) ≡ true → last_choice ls ≡ None
    → (a : List ℕ) → IsLegalAssignment P a → ⊥
reasoned_end P p ls reasoned dead none a legal =
    dead_has_none P p ls dead a legal
    (meets P a legal [] ls none reasoned (λ c l. and_from _ _ (legal.based c (omega (arith, legal.each_cell))) refl))

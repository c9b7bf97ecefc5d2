-- What a literal more cuts.
use Rattle.std.proofs.Common.{◌≡◌, ◌≢◌, ℕ, Bool, true, false, List, [], ◌∷◌, ◌++◌, refl, sym, ◌∙◌, ap, arith, inl, inr}
use Rattle.std.specs.Prelude.{not, ◌&&◌, ◌||◌, ◌==◌, IsTrue}
use Rattle.std.proofs.lemmas.Bool.{cases_eq, and_from, and_left, and_right, or_left, or_right, not_from_true, not_from_false, eq-eqb, ne_eqb}
use Rattle.std.proofs.lemmas.List.Folds.{list_all-append}
use Rattle.wfc_problem.specs.Network.{Network}
use Rattle.wfc_problem.specs.Domains.{Test, Within, base_with, leaves, leaves_all}
use Rattle.wfc_problem.specs.declared.Literal.{Literal}
use Rattle.wfc_problem.specs.declared.Literal.TheVariants.{Is, Not}
use Rattle.wfc_domains.proofs.Problems.{base_with-push}

-- what one more literal leaves
leaves-push : (literals : List Literal) (l : Literal) (c v : ℕ) → leaves_all (literals ++ l ∷ []) c v ≡ (leaves_all literals c v && leaves l c v)
leaves-push literals l c v = list_all-append (λ l'. leaves l' c v) literals (l ∷ []) ∙ ap (λ b. leaves_all literals c v && b) (one (leaves l c v))
  where
    one : (b : Bool) → (b && true) ≡ b
    one b = grind arith

-- with its value alone at its cell, domains are cut by `Is`
pub cut_is : (P : Network) (literals : List Literal) (cell value : ℕ) (E : Test) → Within E (base_with P literals) → ((other : ℕ) → IsTrue (E cell other) → other ≡ value) → Within E (base_with P (literals ++ Is value cell ∷ []))
cut_is P literals cell value E h alone c v t =
    base_with-push P literals (Is value cell) c v ∙ and_from _ _ (h c v t) (elim (cases_eq c cell) [
      | inl e ↦ or_right (not (c == cell)) (v == value) (eq-eqb v value (alone v (ap (λ x. E x v) (sym e) ∙ t)))
      | inr ne ↦ or_left (not (c == cell)) (v == value) (not_from_false (c == cell) (ne_eqb c cell ne))
    ])

-- and without it by `Not`
pub cut_not : (P : Network) (literals : List Literal) (cell value : ℕ) (E : Test) → Within E (base_with P literals) → E cell value ≡ false → Within E (base_with P (literals ++ Not value cell ∷ []))
cut_not P literals cell value E h gone c v t =
    base_with-push P literals (Not value cell) c v ∙ and_from _ _ (h c v t) (not_from_false (c == cell && v == value) (elim (cases_eq c cell) [
      | inl e ↦ elim (cases_eq v value) [
        | inl f ↦ let z : true ≡ false = sym t ∙ ap (λ x. E x v) e ∙ ap (E cell) f ∙ gone in cc
        | inr ne ↦ and_right (c == cell) (v == value) (ne_eqb v value ne)
      ]
      | inr ne ↦ and_left (c == cell) (v == value) (ne_eqb c cell ne)
    ]))

-- `Is` cuts each other value of its cell
pub off_is : (literals : List Literal) (cell value other : ℕ) → other ≢ value → leaves_all (literals ++ Is value cell ∷ []) cell other ≡ false
off_is literals cell value other ne =
    leaves-push literals (Is value cell) cell other ∙ and_right (leaves_all literals cell other) _ (or_off (not (cell == cell)) (other == value) (not_from_true _ (eq-eqb cell cell refl)) (ne_eqb other value ne))
  where
    or_off : (a b : Bool) → a ≡ false → b ≡ false → (a || b) ≡ false
    or_off a b e f = grind arith

-- `Not` cuts its value
pub off_not : (literals : List Literal) (cell value : ℕ) → leaves_all (literals ++ Not value cell ∷ []) cell value ≡ false
off_not literals cell value =
    leaves-push literals (Not value cell) cell value ∙ and_right (leaves_all literals cell value) _ (not_from_true _ (and_from _ _ (eq-eqb cell cell refl) (eq-eqb value value refl)))

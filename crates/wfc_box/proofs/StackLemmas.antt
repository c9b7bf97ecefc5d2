-- Stacked pairs as a test, and their table.
use Rattle.std.proofs.Common.{◌≡◌, ◌≢◌, ℕ, ◌+◌, ◌*◌, ◌/◌, ◌%◌, ◌<◌, ◌≤◌, Bool, true, false, ◌&&◌, ◌⊎◌, inl, inr, List, [], ◌∷◌, ◌++◌, length, get_or, set, refl, sym, subst, ap, ◌∙◌, arith, get_or-set_same, get_or-set_other, length-set}
use Rattle.std.specs.Prelude.{Contains, ◌==◌, ◌||◌, replicate}
use Rattle.std.proofs.lemmas.Bool.{and_parts, and_from, cases_eq, eq-eqb, eqb-true, false_from_ne_true}
use Rattle.std.proofs.lemmas.List.{length-replicate, get_or-replicate}
use Rattle.std.proofs.lemmas.List.Folds.{list_any-append}
use Rattle.std.proofs.Math.Bool.{or-false, or-true}
use Rattle.std.proofs.lemmas.Nat.{mul-add-lt, mod-mul-add, div-mul-add}
use Rattle.wfc_lists.proofs.Lists.{Contains_any, any_Contains}
use Rattle.wfc_box.specs.Stacks.{IsStacked, is_stacked}
use Rattle.wfc_box.specs.StackTable.{AreVariantPairs, AreStackFlags}

-- ---- the test

pub stacked_passes : (stacked : List (ℕ × ℕ)) (l u : ℕ) → IsStacked stacked l u → is_stacked stacked l u ≡ true
stacked_passes stacked l u has = Contains_any (λ (p : ℕ × ℕ). p.0 == l && p.1 == u) stacked (l, u) has (and_from (l == l) (u == u) (eq-eqb l l refl) (eq-eqb u u refl))

pub passes_stacked : (stacked : List (ℕ × ℕ)) (l u : ℕ) → is_stacked stacked l u ≡ true → IsStacked stacked l u
passes_stacked stacked l u test =
    let found = any_Contains (λ (p : ℕ × ℕ). p.0 == l && p.1 == u) stacked test in
    let parts = and_parts (found.0.0 == l) (found.0.1 == u) found.2 in
    subst (λ j. Contains stacked (l, j)) (eqb-true found.0.1 u parts.1)
    (subst (λ j. Contains stacked (j, found.0.1)) (eqb-true found.0.0 l parts.0) found.1)

-- a number that is no variant's stands on nothing, and nothing stands on it
pub stacked_outside : (side : ℕ) (stacked : List (ℕ × ℕ)) (l u : ℕ) → AreVariantPairs side stacked → (side ≤ l) ⊎ (side ≤ u) → is_stacked stacked l u ≡ false
stacked_outside side stacked l u within past =
    false_from_ne_true (is_stacked stacked l u) (λ test.
    let has = passes_stacked stacked l u test in
    let both : (l < side) × (u < side) = subst (λ (p : ℕ × ℕ). (p.0 < side) × (p.1 < side)) has.2 (within has.0 (l, u) has.1) in
    let low = both.0 in
    let high = both.1 in
    elim past [ inl ge ↦ absurd (omega arith) | inr ge ↦ absurd (omega arith) ])

-- ---- the table

-- no pair has no flag
pub flags_none : (side : ℕ) (flags : List Bool) → flags ≡ replicate (side * side) false → AreStackFlags side [] flags
flags_none side flags is = record {
  as_long = ap length is ∙ length-replicate (side * side) false;
  flagged = λ l u in_l in_u. ap (λ (fs : List Bool). get_or fs (l * side + u) false) is
      ∙ get_or-replicate (side * side) (l * side + u) false false (omega (arith, mul-add-lt l side u side in_l in_u));
}

-- one pair more, whose flag is set
pub flags_more : (side : ℕ) (pairs : List (ℕ × ℕ)) (flags : List Bool) (l u : ℕ) → l < side → u < side → AreStackFlags side pairs flags
    → AreStackFlags side (pairs ++ (l, u) ∷ []) (set flags (l * side + u) true)
flags_more side pairs flags l u in_l in_u are = record { as_long = length-set flags (l * side + u) true ∙ are.as_long; flagged = flagged }
  where
    more : (a b : ℕ) → is_stacked (pairs ++ (l, u) ∷ []) a b ≡ (is_stacked pairs a b || (l == a && u == b))
    more a b =
        list_any-append (λ (p : ℕ × ℕ). p.0 == a && p.1 == b) pairs ((l, u) ∷ [])
        ∙ ap (λ t. is_stacked pairs a b || t) (or-false (l == a && u == b))

    differ : (a b : ℕ) → a * side + b ≢ l * side + u → (l == a && u == b) ≡ false
    differ a b ne =
        false_from_ne_true (l == a && u == b) (λ t.
        let parts = and_parts (l == a) (u == b) t in
        ne (ap (λ k. k * side + b) (sym (eqb-true l a parts.0)) ∙ ap (λ k. l * side + k) (sym (eqb-true u b parts.1))))

    flagged : (a b : ℕ) → a < side → b < side → get_or (set flags (l * side + u) true) (a * side + b) false ≡ is_stacked (pairs ++ (l, u) ∷ []) a b
    flagged a b in_a in_b = elim (cases_eq (a * side + b) (l * side + u)) [
      | inl e ↦
          let same_l : a ≡ l = sym (div-mul-add a side b in_b) ∙ ap (λ k. k / side) e ∙ div-mul-add l side u in_u in
          let same_u : b ≡ u = sym (mod-mul-add a side b in_b) ∙ ap (λ k. k % side) e ∙ mod-mul-add l side u in_u in
          ap (λ k. get_or (set flags (l * side + u) true) k false) e
          ∙ get_or-set_same flags (l * side + u) true false (omega (arith, are.as_long, mul-add-lt l side u side in_l in_u))
          ∙ sym (more a b ∙ ap (λ t. is_stacked pairs a b || t) (and_from (l == a) (u == b) (eq-eqb l a (sym same_l)) (eq-eqb u b (sym same_u))) ∙ or-true (is_stacked pairs a b))
      | inr ne ↦
          get_or-set_other flags (l * side + u) (a * side + b) true false ne
          ∙ are.flagged a b in_a in_b
          ∙ sym (more a b ∙ ap (λ t. is_stacked pairs a b || t) (differ a b ne) ∙ or-false (is_stacked pairs a b))
    ]

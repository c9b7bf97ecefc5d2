-- Agreement in a direction, as a test, as an overlap and everywhere.
use Rattle.std.proofs.Common.{◌≡◌, ℕ, zero, suc, ◌+◌, ◌-◌, ◌*◌, ◌/◌, ◌%◌, ◌<◌, ◌≤◌, Bool, true, false, not, ◌&&◌, ◌||◌, eqb, ltb, leb, List, refl, sym, ap, ◌∙◌, arith, subst, eq-eqb, ◌⊎◌, inl, inr}
use Rattle.std.specs.List.{list_all, range_with_len}
use Rattle.std.proofs.lemmas.Bool.{false≢true, and_parts, and_from, eqb-true, leb-true, ltb-true, le-leb, lt-ltb}
use Rattle.std.proofs.lemmas.Nat.{mod-mul-add, div-mul-add}
use Rattle.wfc_model.specs.Image.{cell_at}
use Rattle.wfc_model.proofs.SquareLemmas.{column_of_place, row_of_place, place_in_square}
use Rattle.wfc_model.specs.Direction.{left_by, down_by, right_by, up_by, IsStep}
use Rattle.wfc_pattern.specs.Agreement.{Agrees, agrees_at, agrees}

-- a test of each number of a range
all_each : (p : ℕ → Bool) (a n : ℕ) → list_all p (range_with_len a n) ≡ true → (k : ℕ) → a ≤ k → k < a + n → p k ≡ true
all_each p a zero all k low high = absurd (omega arith)
all_each p a (suc n) all k low high =
    let parts = and_parts (p a) (list_all p (range_with_len (a + 1) n)) all in
    elim (first_or_later a k low) [ inl first ↦ subst (λ m. p m ≡ true) first parts.0 | inr later ↦ all_each p (a + 1) n parts.1 k later (omega arith) ]
  where
    first_or_later : (a k : ℕ) → a ≤ k → (a ≡ k) ⊎ (a + 1 ≤ k)
    first_or_later a k low = grind arith

each_all : (p : ℕ → Bool) (a n : ℕ) → ((k : ℕ) → a ≤ k → k < a + n → p k ≡ true) → list_all p (range_with_len a n) ≡ true
each_all p a zero each = refl
each_all p a (suc n) each = and_from (p a) (list_all p (range_with_len (a + 1) n)) (each a (omega arith) (omega arith)) (each_all p (a + 1) n (λ k low high. each k (omega arith) (omega arith)))

module _ (n : ℕ) (p q : List ℕ) (direction : ℕ) where
  abbrev back_across : ℕ → ℕ
  back_across i = i + left_by direction - right_by direction

  abbrev back_down : ℕ → ℕ
  back_down j = j + up_by direction - down_by direction

  abbrev is_inside : ℕ → ℕ → Bool
  is_inside i j = leb (right_by direction) (i + left_by direction) && leb (down_by direction) (j + up_by direction) && ltb (back_across i) n && ltb (back_down j) n

  -- the test at one place says what agreement says there
  at_each : (i j : ℕ) → agrees_at n p q direction i j ≡ true → (a b : ℕ) → a < n → b < n → IsStep direction a b i j → cell_at n p i j ≡ cell_at n q a b
  at_each i j test a b column row step =
      let a_is : back_across i ≡ a = omega (arith, step.across) in
      let b_is : back_down j ≡ b = omega (arith, step.down) in
      let inside : is_inside i j ≡ true =
      and_from _ _ (and_from _ _ (and_from _ _ (le-leb (right_by direction) (i + left_by direction) (omega (arith, step.across))) (le-leb (down_by direction) (j + up_by direction) (omega (arith, step.down))))
      (lt-ltb (back_across i) n (omega arith))) (lt-ltb (back_down j) n (omega arith)) in
      let same : eqb (cell_at n p i j) (cell_at n q (back_across i) (back_down j)) ≡ true =
      sym (ap (λ t. not t || eqb (cell_at n p i j) (cell_at n q (back_across i) (back_down j))) inside) ∙ test in
      eqb-true (cell_at n p i j) (cell_at n q (back_across i) (back_down j)) same ∙ ap (λ k. cell_at n q k (back_down j)) a_is ∙ ap (cell_at n q a) b_is

  each_at : (i j : ℕ) → ((a b : ℕ) → a < n → b < n → IsStep direction a b i j → cell_at n p i j ≡ cell_at n q a b) → agrees_at n p q direction i j ≡ true
  each_at i j agree = by (is_inside i j) refl
    where
      by : (t : Bool) → is_inside i j ≡ t → agrees_at n p q direction i j ≡ true
      by false e = ap (λ t. not t || eqb (cell_at n p i j) (cell_at n q (back_across i) (back_down j))) e
      by true e =
          let front = and_parts _ _ e in
          let middle = and_parts _ _ front.0 in
          let first = and_parts _ _ middle.0 in
          let across = leb-true (right_by direction) (i + left_by direction) first.0 in
          let down = leb-true (down_by direction) (j + up_by direction) first.1 in
          ap (λ t. not t || eqb (cell_at n p i j) (cell_at n q (back_across i) (back_down j))) e
          ∙ eq-eqb (cell_at n p i j) (cell_at n q (back_across i) (back_down j))
          (agree (back_across i) (back_down j) (ltb-true (back_across i) n middle.1) (ltb-true (back_down j) n front.1) (record { across = omega arith; down = omega arith }))

  pub everywhere : agrees n p q direction ≡ true → Agrees n p q direction
  everywhere test i j a b column row a_in b_in step =
      let place = place_in_square n i j column row in
      let here = all_each (λ k. agrees_at n p q direction (k % n) (k / n)) 0 (n * n) test (j * n + i) (omega arith) (omega arith) in
      let there : agrees_at n p q direction i j ≡ true = subst (λ k. agrees_at n p q direction i k ≡ true) (div-mul-add j n i column) (subst (λ k. agrees_at n p q direction k ((j * n + i) / n) ≡ true) (mod-mul-add j n i column) here) in
      at_each i j there a b a_in b_in step

  pub tested : Agrees n p q direction → agrees n p q direction ≡ true
  tested agree =
      each_all (λ k. agrees_at n p q direction (k % n) (k / n)) 0 (n * n)
      (λ k low high. each_at (k % n) (k / n) (λ a b. agree (k % n) (k / n) a b (column_of_place n k (omega arith)) (row_of_place n k (omega arith))))

-- two tests that say the same are one
pub same_test : (n : ℕ) (p q : List ℕ) (direction : ℕ) (b : Bool) → (b ≡ true → Agrees n p q direction) → (Agrees n p q direction → b ≡ true) → b ≡ agrees n p q direction
same_test n p q direction true says if_so = sym (tested n p q direction (says refl))
same_test n p q direction false says if_so = by (agrees n p q direction) refl
  where
    by : (t : Bool) → agrees n p q direction ≡ t → false ≡ agrees n p q direction
    by true e = absurd (false≢true (if_so (everywhere n p q direction e)))
    by false e = sym e

abbrev SaysAgreement : Bool → ℕ → List ℕ → List ℕ → ℕ → Type 0
SaysAgreement b n p q direction = (b ≡ true → Agrees n p q direction) × (Agrees n p q direction → b ≡ true)

pub says_agreement : (b : Bool) (n m : ℕ) (p v q w : List ℕ) (direction : ℕ) → n ≡ m → v ≡ p → w ≡ q → SaysAgreement b n p q direction → SaysAgreement b m v w direction
says_agreement b n m p v q w direction side first second says =
    subst (λ k. SaysAgreement b k v w direction) side (subst (λ u. SaysAgreement b n u w direction) (sym first) (subst (λ u. SaysAgreement b n p u direction) (sym second) says))

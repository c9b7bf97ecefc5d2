-- How many elements of a list pass a test, and how that changes with the test.
use Rattle.std.proofs.Common.{◌≡◌, ◌≢◌, ℕ, zero, suc, ◌+◌, ◌<◌, ◌≤◌, Bool, true, false, cond, List, [], ◌∷◌, length, get_or, map, refl, sym, ◌∙◌, ap, subst, arith, inl, inr}
use Rattle.std.specs.Prelude.{count_by, Contains}
use Rattle.std.specs.List.{sum_by}
use Rattle.std.specs.List.Sorted.{IsStrictlyIncreasing}
use Rattle.std.proofs.lemmas.List.Sums.{sum_by-cons, sum_by-le-sum_by, get_or-le-sum_by, count_by-le-length}
use Rattle.std.proofs.lemmas.List.Kept.{AllPairs-from_increasing}
use Rattle.std.proofs.lemmas.List.{get_or_default}
use Rattle.std.proofs.lemmas.Bool.{cases_Bool}
use Rattle.std.proofs.lemmas.Bool.Decides.{nat_tests}
use Rattle.wfc_lists.specs.Counts.{one_if, but}
use Rattle.wfc_lists.proofs.Lists.{Contains_cases}
use Rattle.wfc_lists.proofs.Rising.{tail_rises}

-- one more in front
pub count_by-cons : {X : Type 0} (p : X → Bool) (x : X) (xs : List X) → count_by p (x ∷ xs) ≡ one_if (p x) + count_by p xs
count_by-cons p x xs = sum_by-cons (λ y. cond (p y) 1 0) x xs

one_if-le : (a b : Bool) → (a ≡ true → b ≡ true) → one_if a ≤ one_if b
one_if-le a b h = grind arith

-- a test that passes more counts more
pub count_by-le : {X : Type 0} (p q : X → Bool) (xs : List X) → ((x : X) → p x ≡ true → q x ≡ true) → count_by p xs ≤ count_by q xs
count_by-le p q xs h = sum_by-le-sum_by (λ x. cond (p x) 1 0) (λ x. cond (q x) 1 0) xs (λ x. one_if-le (p x) (q x) (h x))

-- what passes is counted
pub count_by_pos : {X : Type 0} (p : X → Bool) (xs : List X) (w : X) → Contains xs w → p w ≡ true → 0 < count_by p xs
count_by_pos p xs w c h =
    let le = get_or-le-sum_by (λ x. cond (p x) 1 0) xs c.0 w c.1 in
    let one : one_if (p (get_or xs c.0 w)) ≡ 1 = ap (λ x. one_if (p x)) c.2 ∙ ap one_if h in
    omega arith

-- what is counted passes
pub count_by_found : {X : Type 0} (p : X → Bool) (xs : List X) → 0 < count_by p xs → (w : X) × Contains xs w × (p w ≡ true)
count_by_found p [] h = absurd (omega arith)
count_by_found {X} p (x ∷ xs) h =
    let e = count_by-cons p x xs in
    let P : Bool → Type 0 = λ b. p x ≡ b → (w : X) × Contains (x ∷ xs) w × (p w ≡ true) in
    elim (p x) as P [
      | true ↦ λ t. (x, (0, omega arith, refl), t)
      | false ↦ λ f.
          let r = count_by_found p xs (let z : one_if (p x) ≡ 0 = ap one_if f in omega arith) in
          (r.0, (suc r.1.0, omega (arith, r.1.1), r.1.2), r.2)
    ] refl

-- tests that agree count alike
pub count_by_agree : {X : Type 0} (p q : X → Bool) (xs : List X) → ((x : X) → p x ≡ q x) → count_by p xs ≡ count_by q xs
count_by_agree p q [] h = refl
count_by_agree p q (x ∷ xs) h =
    count_by-cons p x xs ∙ ap (λ b. one_if b + count_by p xs) (h x) ∙ ap (λ n. one_if (q x) + n) (count_by_agree p q xs h) ∙ sym (count_by-cons q x xs)

-- a test of what the elements are mapped to
pub count_by-map : {X Y : Type 0} (q : Y → Bool) (f : X → Y) (xs : List X) → count_by q (map f xs) ≡ count_by (λ x. q (f x)) xs
count_by-map q f [] = refl
count_by-map q f (x ∷ xs) = count_by-cons q (f x) (map f xs) ∙ ap (λ n. one_if (q (f x)) + n) (count_by-map q f xs) ∙ sym (count_by-cons (λ y. q (f y)) x xs)

-- ---- all

-- of one more, where the first passes and so does each of the others
pass_at : {X : Type 0} (p : X → Bool) (x : X) (xs : List X) (k : ℕ) (d : X) → p x ≡ true → ((j : ℕ) → j < length xs → p (get_or xs j d) ≡ true) → k < length (x ∷ xs) → p (get_or (x ∷ xs) k d) ≡ true
pass_at p x xs zero d t rest l = t
pass_at p x xs (suc k) d t rest l = rest k (omega arith)

-- where as many pass as there are, each does
pub count_by_whole : {X : Type 0} (p : X → Bool) (xs : List X) → count_by p xs ≡ length xs → (k : ℕ) (d : X) → k < length xs → p (get_or xs k d) ≡ true
count_by_whole p [] e k d l = absurd (omega arith)
count_by_whole p (x ∷ xs) e k d l = elim (cases_Bool (p x)) [
  | inl t ↦
      let one : one_if (p x) ≡ 1 = ap one_if t in
      let whole : count_by p xs ≡ length xs = omega (arith, count_by-cons p x xs) in
      pass_at p x xs k d t (λ j h. count_by_whole p xs whole j d h) l
  | inr f ↦
      let none : one_if (p x) ≡ 0 = ap one_if f in
      absurd (omega (arith, count_by-cons p x xs, count_by-le-length p xs))
]

-- and the other way
pub count_by_all : {X : Type 0} (p : X → Bool) (xs : List X) → ((k : ℕ) (d : X) → k < length xs → p (get_or xs k d) ≡ true) → count_by p xs ≡ length xs
count_by_all p [] each = refl
count_by_all p (x ∷ xs) each =
    let one : one_if (p x) ≡ 1 = ap one_if (each 0 x (omega arith)) in
    let rest = count_by_all p xs (λ k d l. each (suc k) d (omega arith)) in
    omega (arith, count_by-cons p x xs)

-- ---- one number less

-- at another number the test is as before
pub but_other : (p : ℕ → Bool) (a x : ℕ) → x ≢ a → but p a x ≡ p x
but_other p a x h = grind (arith, nat_tests)

-- at the number it fails
pub but_same : (p : ℕ → Bool) (a : ℕ) → but p a a ≡ false
but_same p a = grind (arith, nat_tests)

-- one less is counted as before in a list that lacks the number
pub count_by_but_absent : (p : ℕ → Bool) (a : ℕ) (xs : List ℕ) → ((k : ℕ) → k < length xs → get_or xs k 0 ≢ a) → count_by (but p a) xs ≡ count_by p xs
count_by_but_absent p a [] h = refl
count_by_but_absent p a (x ∷ xs) h =
    count_by-cons (but p a) x xs
    ∙ ap (λ b. one_if b + count_by (but p a) xs) (but_other p a x (h 0 (omega arith)))
    ∙ ap (λ n. one_if (p x) + n) (count_by_but_absent p a xs (λ k l. h (suc k) (omega arith)))
    ∙ sym (count_by-cons p x xs)

-- and is one less in a rising list that has it
pub count_by_but_present : (p : ℕ → Bool) (a : ℕ) (xs : List ℕ) (k : ℕ) → IsStrictlyIncreasing xs → k < length xs → get_or xs k 0 ≡ a → p a ≡ true → count_by (but p a) xs + 1 ≡ count_by p xs
count_by_but_present p a [] k up l e h = absurd (omega arith)
count_by_but_present p a (x ∷ xs) zero up l e h =
    let pairs = AllPairs-from_increasing (x ∷ xs) up in
    let rest = count_by_but_absent p a xs (λ j m. let lt = pairs 0 (suc j) 0 (omega arith) (omega arith) in omega arith) in
    let here : one_if (p x) ≡ 1 = ap (λ y. one_if (p y)) e ∙ ap one_if h in
    let gone : one_if (but p a x) ≡ 0 = ap (λ y. one_if (but p a y)) e ∙ ap one_if (but_same p a) in
    omega (arith, count_by-cons (but p a) x xs, count_by-cons p x xs)
count_by_but_present p a (x ∷ xs) (suc k) up l e h =
    let pairs = AllPairs-from_increasing (x ∷ xs) up in
    let lt = pairs 0 (suc k) 0 (omega arith) l in
    let ne : x ≢ a = omega arith in
    let same : one_if (but p a x) ≡ one_if (p x) = ap one_if (but_other p a x ne) in
    let rest = count_by_but_present p a xs k (tail_rises x xs up) (omega arith) e h in
    omega (arith, count_by-cons (but p a) x xs, count_by-cons p x xs)

-- the same, for a number that the list contains
pub count_by_but : (p : ℕ → Bool) (a : ℕ) (xs : List ℕ) → IsStrictlyIncreasing xs → Contains xs a → p a ≡ true → count_by (but p a) xs + 1 ≡ count_by p xs
count_by_but p a xs up c h = count_by_but_present p a xs c.0 up c.1 (get_or_default xs c.0 0 a c.1 ∙ c.2) h

-- and for one that it doesn't contain
pub count_by_but_not : (p : ℕ → Bool) (a : ℕ) (xs : List ℕ) → (Contains xs a → ⊥) → count_by (but p a) xs ≡ count_by p xs
count_by_but_not p a xs lacks = count_by_but_absent p a xs (λ k l e. lacks (k, l, get_or_default xs k a 0 l ∙ e))

-- ---- sums

-- terms that are no larger, and one that is less, have a smaller sum
pub sum_by_less : {X : Type 0} (f d : X → ℕ) (c : X) (xs : List X) → ((x : X) → f x ≤ d x) → Contains xs c → f c < d c → sum_by f xs < sum_by d xs
sum_by_less f d c [] le has less = absurd (omega (arith, has.1))
sum_by_less f d c (x ∷ xs) le has less = elim (Contains_cases x xs c has) [
  | inl e ↦
      let here : f x < d x = subst (λ y. f y < d y) (sym e) less in
      let rest = sum_by-le-sum_by f d xs le in
      omega (arith, sum_by-cons f x xs, sum_by-cons d x xs)
  | inr r ↦
      let here = le x in
      let rest = sum_by_less f d c xs le r less in
      omega (arith, sum_by-cons f x xs, sum_by-cons d x xs)
]

-- Where an element first passes a test, that it does so nowhere, and where an element itself stands.
use Rattle.std.proofs.Common.{◌≡◌, ◌≢◌, ℕ, zero, suc, ◌+◌, ◌<◌, ◌≤◌, Bool, true, false, not, cond, ltb, List, [], ◌∷◌, ◌++◌, length, get_or, slice_get, map, position, Option, None, Some, Contains, refl, sym, subst, ap, ◌∙◌, arith, inl, inr, length-append, ◌||◌, if◌then◌else◌}
use Rattle.std.specs.List.{find, list_any, position_or_len, range_with_len, IsDistinct}
use Rattle.std.proofs.lemmas.Bool.{cases_lt, cond-true, false≢true, lt-ltb, le-ltb}
use Rattle.std.proofs.lemmas.List.{length-map}
use Rattle.std.proofs.lemmas.List.Quantifiers.{position-Some}
use Rattle.std.proofs.lemmas.List.Sums.{fails_before_first, passes_at_first, position_or_len_is}
use Rattle.std.proofs.lemmas.Map.Keys.{apart_from_distinct}
use Rattle.std.proofs.lemmas.Option.{slice_get_read}
use Rattle.wfc_lists.specs.WithoutRepeats.{with_new}
use Rattle.wfc_lists.proofs.Lists.{Contains_cases, Contains_later}
use Rattle.wfc_lists.proofs.WithoutRepeats.{flips}

-- ---- the first index

-- where it is known
pub position_at : {X : Type 0} (p : X → Bool) (xs : List X) (i : ℕ) (d : X) → i < length xs → p (get_or xs i d) ≡ true → ((k : ℕ) → k < i → p (get_or xs k d) ≡ false) → position p xs ≡ Some i
position_at p xs i d within passes before =
    let at : position_or_len p xs ≡ i = position_or_len_is p xs i d (omega arith) before (λ _. passes) in
    ap (λ n. cond (ltb n (length xs)) (Some n) None) at ∙ ap (λ b. cond b (Some i) None) (lt-ltb i (length xs) within)

-- where nothing passes, there is none
pub position_none : {X : Type 0} (p : X → Bool) (xs : List X) (d : X) → ((k : ℕ) → k < length xs → p (get_or xs k d) ≡ false) → position p xs ≡ None
position_none p xs d fails =
    let at : position_or_len p xs ≡ length xs = position_or_len_is p xs (length xs) d (omega arith) fails (λ past. absurd (omega arith)) in
    ap (λ n. cond (ltb n (length xs)) (Some n) None) at ∙ ap (λ b. cond b (Some (length xs)) None) (le-ltb (length xs) (length xs) (omega arith))

-- where there is none, nothing passes
pub position_fails : {X : Type 0} (p : X → Bool) (xs : List X) → position p xs ≡ None → (k : ℕ) (d : X) → k < length xs → p (get_or xs k d) ≡ false
position_fails p xs none k d l = elim (cases_lt (position_or_len p xs) (length xs)) [
  | inl m ↦
      let clash = sym (cond-true _ (Some (position_or_len p xs)) None (lt-ltb _ _ m)) ∙ none in
      cc
  | inr m ↦ fails_before_first p xs k d (omega arith)
]

-- a test of what the elements are mapped to
pub position-map : {X Y : Type 0} (p : Y → Bool) (f : X → Y) (xs : List X) → position p (map f xs) ≡ position (λ x. p (f x)) xs
position-map p f xs =
    ap (λ n. cond (ltb n (length (map f xs))) (Some n) None) (position_or_len-map p f xs)
    ∙ ap (λ m. cond (ltb (position_or_len (λ x. p (f x)) xs) m) (Some (position_or_len (λ x. p (f x)) xs)) None) (length-map xs f)
  where
    position_or_len-map : {X Y : Type 0} (p : Y → Bool) (f : X → Y) (xs : List X) → position_or_len p (map f xs) ≡ position_or_len (λ x. p (f x)) xs
    position_or_len-map p f [] = refl
    position_or_len-map p f (x ∷ xs) = ap (λ n. cond (not (p (f x))) (1 + n) 0) (position_or_len-map p f xs)

-- ---- the place of an element

-- what isn't there stands behind the last
pub place_absent : {X : Type 0} (p : X → Bool) (ks : List X) → list_any p ks ≡ false → position_or_len p ks ≡ length ks
place_absent p [] new = refl
place_absent p (k ∷ ks) new = by (p k) refl (place_absent p ks)
  where
    by : (b : Bool) → p k ≡ b → (list_any p ks ≡ false → position_or_len p ks ≡ length ks) → position_or_len p (k ∷ ks) ≡ length (k ∷ ks)
    by true e rest = absurd (false≢true (sym new ∙ ap (λ t. t || list_any p ks) e))
    by false e rest = ap (λ t. cond (not t) (1 + position_or_len p ks) 0) e ∙ omega (arith, rest (sym (ap (λ t. t || list_any p ks) e) ∙ new))

-- an element whose place is below a limit keeps the list within it
pub length_inserted : {X : Type 0} (same : X → X → Bool) (x : X) (ks : List X) (m : ℕ) → length ks ≤ m → position_or_len (same x) ks < m → length (with_new same ks x) ≤ m
length_inserted same x ks m short within = by (list_any (same x) ks) refl
  where
    by : (b : Bool) → list_any (same x) ks ≡ b → length (with_new same ks x) ≤ m
    by true e = subst (λ t. length (if t then ks else ks ++ x ∷ []) ≤ m) (sym e) short
    by false e = subst (λ t. length (if t then ks else ks ++ x ∷ []) ≤ m) (sym e) (omega (arith, place_absent (same x) ks e, length-append ks (x ∷ [])))

-- where the test says whether two are one
module _ {X : Type 0} (same : X → X → Bool) (sound : (x y : X) → same x y ≡ true → x ≡ y) (whole : (x : X) → same x x ≡ true) where
  -- what stands at the place of x is x
  pub stands_at : (x : X) (ks : List X) (n : ℕ) → position (same x) ks ≡ Some n → slice_get ks n ≡ Some x
  stands_at x ks n found =
      let first = position-Some (same x) ks n x found in
      slice_get_read ks (length ks) n x refl first.0 (sound x (get_or ks n x) first.1)

  -- and so x is in the list
  pub there_at : (x : X) (ks : List X) (n : ℕ) → position (same x) ks ≡ Some n → Contains ks x
  there_at x ks n found =
      let first = position-Some (same x) ks n x found in
      (n, first.0, sym (sound x (get_or ks n x) first.1))

  -- where no two are one, each stands at its own place
  pub own_place : (ks : List X) (n : ℕ) (d : X) → IsDistinct same ks → n < length ks → position (same (get_or ks n d)) ks ≡ Some n
  own_place ks n d apart within =
      position_at (same (get_or ks n d)) ks n d within (whole (get_or ks n d))
      (λ k before. flips same sound whole (get_or ks k d) (get_or ks n d) (apart_from_distinct same ks k n d apart before within))

  -- an element of the list has a place in it
  pub place_inside : (x : X) (ks : List X) → Contains ks x → position_or_len (same x) ks < length ks
  place_inside x ks within = elim (cases_lt (position_or_len (same x) ks) (length ks)) [
    | inl inside ↦ inside
    | inr past ↦
        let fails = fails_before_first (same x) ks within.0 x (omega (arith, within.1)) in
        absurd (false≢true (sym fails ∙ ap (same x) within.2 ∙ whole x))
  ]

  -- and stands there
  pub place_own : (x : X) (ks : List X) → Contains ks x → slice_get ks (position_or_len (same x) ks) ≡ Some x
  place_own x ks within =
      let inside = place_inside x ks within in
      slice_get_read ks (length ks) (position_or_len (same x) ks) x refl inside (sound x (get_or ks (position_or_len (same x) ks) x) (passes_at_first (same x) ks x inside))

-- ---- the first element

-- what is found first, or behind it
found_if : {X : Type 0} (p : X → Bool) (b : Bool) (x : X) (xs : List X) (o : Option X) (v : X) → p x ≡ b → (o ≡ Some v → (p v ≡ true) × Contains xs v)
    → cond b (Some x) o ≡ Some v → (p v ≡ true) × Contains (x ∷ xs) v
found_if p true x xs o v e rest is =
    let same : x ≡ v = cc in
    (sym (ap p same) ∙ e, (0, omega arith, same))
found_if p false x xs o v e rest is = let t = rest is in (t.0, Contains_later x xs v t.1)

-- what is found passes, and is a member
pub find_passes : {X : Type 0} (p : X → Bool) (xs : List X) (v : X) → find p xs ≡ Some v → (p v ≡ true) × Contains xs v
find_passes p [] v is = cc
find_passes p (x ∷ xs) v is = found_if p (p x) x xs (find p xs) v refl (find_passes p xs v) is

-- where none is found the first fails, and none is found behind it
none_if : {X : Type 0} (p : X → Bool) (b : Bool) (x : X) (o : Option X) → p x ≡ b → cond b (Some x) o ≡ None → (p x ≡ false) × (o ≡ None)
none_if p true x o e is = cc
none_if p false x o e is = (e, is)

-- where none is found, each member fails
pub find_fails : {X : Type 0} (p : X → Bool) (xs : List X) (v : X) → find p xs ≡ None → Contains xs v → p v ≡ false
find_fails p [] v is c = absurd (omega (arith, c.1))
find_fails p (x ∷ xs) v is c =
    let n = none_if p (p x) x (find p xs) refl is in
    elim (Contains_cases x xs v c) [ inl e ↦ sym (ap p e) ∙ n.0 | inr r ↦ find_fails p xs v n.1 r ]

-- where each member fails, none is found
pub find_none : {X : Type 0} (p : X → Bool) (xs : List X) → ((v : X) → Contains xs v → p v ≡ false) → find p xs ≡ None
find_none p [] each = refl
find_none p (x ∷ xs) each =
    ap (λ b. cond b (Some x) (find p xs)) (each x (0, omega arith, refl)) ∙ find_none p xs (λ v c. each v (Contains_later x xs v c))

-- what is found from a number on is not above another that passes
before_if : (b : Bool) (low c other : ℕ) (o : Option ℕ) → (b ≡ false → low ≢ other) → (o ≡ Some c → low + 1 ≤ other → c ≤ other) → low ≤ other
    → cond b (Some low) o ≡ Some c → c ≤ other
before_if true low c other o here rest few is = let same : low ≡ c = cc in omega arith
before_if false low c other o here rest few is = let ne = here refl in rest is (omega arith)

-- the first of a range that passes is not above another that does
pub find_before : (p : ℕ → Bool) (low n c other : ℕ) → find p (range_with_len low n) ≡ Some c → low ≤ other → other < low + n → p other ≡ true → c ≤ other
find_before p low zero c other is few less t = absurd (omega arith)
find_before p low (suc n) c other is few less t =
    before_if (p low) low c other (find p (range_with_len (low + 1) n)) (λ f e. false≢true (sym f ∙ ap p e ∙ t))
    (λ found up. find_before p (low + 1) n c other found up (omega arith) t) few is

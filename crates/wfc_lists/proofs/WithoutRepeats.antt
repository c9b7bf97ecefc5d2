-- A list without its later repeats: its elements, that no two are one, one more element at a time, and where its elements stand in it.
use Rattle.std.proofs.Common.{◌≡◌, ℕ, ◌+◌, ◌<◌, ◌≤◌, Bool, true, false, not, cond, ◌||◌, List, [], ◌∷◌, ◌++◌, length, get_or, take, drop, filter, refl, sym, subst, ap, ◌∙◌, arith, append_assoc, length-append, if◌then◌else◌, inl, inr}
use Rattle.std.specs.List.{All, Contains, list_any, position_or_len, IsDistinct}
use Rattle.std.proofs.lemmas.Bool.{false≢true, or_left, not-true}
use Rattle.std.proofs.lemmas.List.{append-nil, take-append-drop, drop_more}
use Rattle.std.proofs.lemmas.List.Elements.{All-weaker, All-contains, All-contains_itself, recursion_from_All, filter-append, filter_passes}
use Rattle.std.proofs.lemmas.List.Folds.{list_any-append}
use Rattle.std.proofs.lemmas.List.Sums.{length-filter, count_by-le-length}
use Rattle.wfc_lists.specs.WithoutRepeats.{without_repeats, with_new}
use Rattle.wfc_lists.proofs.Lists.{Contains_cases, Contains_later, Contains-filter, filter-Contains, each_kept}

-- ---- elements

-- an element of the list without its repeats is one of the list
pub without_repeats-Contains : {X : Type 0} (same : X → X → Bool) (xs : List X) (x : X) → Contains (without_repeats same xs) x → Contains xs x
without_repeats-Contains same [] x within = within
without_repeats-Contains same (w ∷ ws) x within = elim (Contains_cases w (filter (λ y. not (same w y)) (without_repeats same ws)) x within) [
  | inl first ↦ (0, omega arith, first)
  | inr later ↦ Contains_later w ws x (without_repeats-Contains same ws x (filter-Contains (λ y. not (same w y)) (without_repeats same ws) x later).1)
]

-- what holds of each element holds of each that is left
pub All-without_repeats : {X : Type 0} (same : X → X → Bool) (P : X → Type 0) (xs : List X) → All P xs → All P (without_repeats same xs)
All-without_repeats same P xs all =
    All-weaker (Contains xs) P (λ x within. All-contains P xs x all within) (without_repeats same xs)
    (All-weaker (Contains (without_repeats same xs)) (Contains xs) (without_repeats-Contains same xs) (without_repeats same xs) (All-contains_itself (without_repeats same xs)))

-- it is no longer
pub length-without_repeats : {X : Type 0} (same : X → X → Bool) (xs : List X) → length (without_repeats same xs) ≤ length xs
length-without_repeats same [] = omega arith
length-without_repeats same (w ∷ ws) =
    omega (arith, length-without_repeats same ws, length-filter (λ y. not (same w y)) (without_repeats same ws), count_by-le-length (λ y. not (same w y)) (without_repeats same ws))

-- and has an element where the list has one
pub some_unrepeated : {X : Type 0} (same : X → X → Bool) (xs : List X) → 0 < length xs → 0 < length (without_repeats same xs)
some_unrepeated same [] some = some
some_unrepeated same (w ∷ ws) some = omega arith

-- a filter leaves apart what is
IsDistinct-filter : {X : Type 0} (same : X → X → Bool) (p : X → Bool) (xs : List X) → IsDistinct same xs → IsDistinct same (filter p xs)
unfolding IsDistinct
IsDistinct-filter same p [] apart = tt
IsDistinct-filter same p (x ∷ xs) apart = by (p x) refl (IsDistinct-filter same p xs apart.1)
  where
    by : (b : Bool) → p x ≡ b → IsDistinct same (filter p xs) → IsDistinct same (filter p (x ∷ xs))
    by true keeps rest = subst (λ b. IsDistinct same (cond b (x ∷ filter p xs) (filter p xs))) (sym keeps) (each_kept (λ v. same x v ≡ false) p xs apart.0, rest)
    by false drops rest = subst (λ b. IsDistinct same (cond b (x ∷ filter p xs) (filter p xs))) (sym drops) rest

-- no two that are left are one
pub IsDistinct-without_repeats : {X : Type 0} (same : X → X → Bool) (xs : List X) → IsDistinct same (without_repeats same xs)
unfolding IsDistinct
IsDistinct-without_repeats same [] = tt
IsDistinct-without_repeats {X = X} same (w ∷ ws) =
    let p : X → Bool = λ v. not (same w v) in
    let rest = without_repeats same ws in (
      recursion_from_All (λ v. same w v ≡ false) (filter p rest) (All-weaker (λ v. p v ≡ true) (λ v. same w v ≡ false) (λ v kept. not-true (same w v) kept) (filter p rest) (filter_passes p rest)),
      IsDistinct-filter same p rest (IsDistinct-without_repeats same ws),
    )

-- ---- one more element

-- where the test says whether two are one
module _ {X : Type 0} (same : X → X → Bool) (sound : (x y : X) → same x y ≡ true → x ≡ y) (whole : (x : X) → same x x ≡ true) where
  -- what isn't x, for x that isn't it
  pub flips : (x y : X) → same x y ≡ false → same y x ≡ false
  flips x y apart = by (same y x) refl
    where
      by : (b : Bool) → same y x ≡ b → same y x ≡ false
      by true e = absurd (false≢true (sym apart ∙ subst (λ v. same v y ≡ true) (sound y x e) (whole y)))
      by false e = e

  -- an element of the list is one of the list without its repeats
  pub Contains-without_repeats : (xs : List X) (x : X) → Contains xs x → Contains (without_repeats same xs) x
  Contains-without_repeats [] x within = within
  Contains-without_repeats (w ∷ ws) x within = elim (Contains_cases w ws x within) [
    | inl first ↦ (0, omega arith, first)
    | inr later ↦ by (same w x) refl (Contains-without_repeats ws x later)
  ]
    where
      by : (b : Bool) → same w x ≡ b → Contains (without_repeats same ws) x → Contains (without_repeats same (w ∷ ws)) x
      by true test there = (0, omega arith, sound w x test)
      by false test there = Contains_later w (filter (λ y. not (same w y)) (without_repeats same ws)) x (Contains-filter (λ y. not (same w y)) (without_repeats same ws) x there (ap not test))

  -- what is left out for being w is no x that isn't w
  pub list_any-filter : (x w : X) → same x w ≡ false → (ks : List X) → list_any (same x) (filter (λ y. not (same w y)) ks) ≡ list_any (same x) ks
  list_any-filter x w apart [] = refl
  list_any-filter x w apart (k ∷ ks) = by (same w k) refl (list_any-filter x w apart ks)
    where
      by : (b : Bool) → same w k ≡ b → list_any (same x) (filter (λ y. not (same w y)) ks) ≡ list_any (same x) ks → list_any (same x) (filter (λ y. not (same w y)) (k ∷ ks)) ≡ list_any (same x) (k ∷ ks)
      by true e rest =
          ap (λ c. list_any (same x) (cond (not c) (k ∷ filter (λ y. not (same w y)) ks) (filter (λ y. not (same w y)) ks))) e
          ∙ rest
          ∙ sym (ap (λ c. c || list_any (same x) ks) (subst (λ v. same x v ≡ false) (sound w k e) apart))
      by false e rest =
          ap (λ c. list_any (same x) (cond (not c) (k ∷ filter (λ y. not (same w y)) ks) (filter (λ y. not (same w y)) ks))) e
          ∙ ap (λ c. same x k || c) rest

  -- one more element goes last, if it is new
  pub unrepeated_push : (xs : List X) (x : X) → without_repeats same (xs ++ x ∷ []) ≡ with_new same (without_repeats same xs) x
  unrepeated_push [] x = refl
  unrepeated_push (w ∷ ws) x = by (same x w) refl (list_any (same x) (without_repeats same ws)) refl (unrepeated_push ws x)
    where
      others : List X → List X
      others ks = filter (λ y. not (same w y)) ks

      -- what the test of the whole palette computes to
      in_all : (d : Bool) → (same x w || list_any (same x) (others (without_repeats same ws))) ≡ d → with_new same (without_repeats same (w ∷ ws)) x ≡ cond d (w ∷ others (without_repeats same ws)) ((w ∷ others (without_repeats same ws)) ++ x ∷ [])
      in_all d test = ap (λ t. cond t (w ∷ others (without_repeats same ws)) ((w ∷ others (without_repeats same ws)) ++ x ∷ [])) test

      last : (b : Bool) → same w x ≡ b → others (x ∷ []) ≡ cond (not b) (x ∷ []) []
      last b e = ap (λ t. cond (not t) (x ∷ []) []) e

      grown : (c : Bool) → list_any (same x) (without_repeats same ws) ≡ c → without_repeats same (ws ++ x ∷ []) ≡ with_new same (without_repeats same ws) x → without_repeats same (ws ++ x ∷ []) ≡ cond c (without_repeats same ws) (without_repeats same ws ++ x ∷ [])
      grown c there step = step ∙ ap (λ t. cond t (without_repeats same ws) (without_repeats same ws ++ x ∷ [])) there

      by : (b : Bool) → same x w ≡ b → (c : Bool) → list_any (same x) (without_repeats same ws) ≡ c → without_repeats same (ws ++ x ∷ []) ≡ with_new same (without_repeats same ws) x
          → without_repeats same ((w ∷ ws) ++ x ∷ []) ≡ with_new same (without_repeats same (w ∷ ws)) x
      by true e true there step = ap (λ ks. w ∷ others ks) (grown true there step) ∙ sym (in_all true (or_left (same x w) _ e))
      by true e false new step =
          let is_w : same w x ≡ true = subst (λ v. same w v ≡ true) (sym (sound x w e)) (whole w) in
          ap (λ ks. w ∷ others ks) (grown false new step)
          ∙ ap (λ ks. w ∷ ks) (filter-append (λ y. not (same w y)) (without_repeats same ws) (x ∷ []) ∙ ap (λ ks. others (without_repeats same ws) ++ ks) (last true is_w) ∙ append-nil (others (without_repeats same ws)))
          ∙ sym (in_all true (or_left (same x w) _ e))
      by false e true there step =
          ap (λ ks. w ∷ others ks) (grown true there step)
          ∙ sym (in_all true (ap (λ t. t || list_any (same x) (others (without_repeats same ws))) e ∙ list_any-filter x w e (without_repeats same ws) ∙ there))
      by false e false new step =
          ap (λ ks. w ∷ others ks) (grown false new step)
          ∙ ap (λ ks. w ∷ ks) (filter-append (λ y. not (same w y)) (without_repeats same ws) (x ∷ []) ∙ ap (λ ks. others (without_repeats same ws) ++ ks) (last false (flips x w e)))
          ∙ sym (in_all false (ap (λ t. t || list_any (same x) (others (without_repeats same ws))) e ∙ list_any-filter x w e (without_repeats same ws) ∙ new))

  -- where x is there, its place stays when more elements are added
  place_kept : (x y : X) (ks : List X) → list_any (same x) ks ≡ true → position_or_len (same x) (ks ++ y ∷ []) ≡ position_or_len (same x) ks
  place_kept x y [] there = absurd (false≢true there)
  place_kept x y (k ∷ ks) there = by (same x k) refl (place_kept x y ks)
    where
      by : (b : Bool) → same x k ≡ b → (list_any (same x) ks ≡ true → position_or_len (same x) (ks ++ y ∷ []) ≡ position_or_len (same x) ks) → position_or_len (same x) (k ∷ ks ++ y ∷ []) ≡ position_or_len (same x) (k ∷ ks)
      by true e rest = ap (λ t. cond (not t) (1 + position_or_len (same x) (ks ++ y ∷ [])) 0) e ∙ sym (ap (λ t. cond (not t) (1 + position_or_len (same x) ks) 0) e)
      by false e rest =
          ap (λ t. cond (not t) (1 + position_or_len (same x) (ks ++ y ∷ [])) 0) e
          ∙ ap (λ n. 1 + n) (rest (sym (ap (λ t. t || list_any (same x) ks) e) ∙ there))
          ∙ sym (ap (λ t. cond (not t) (1 + position_or_len (same x) ks) 0) e)

  place_inserted : (x y : X) (ks : List X) → list_any (same x) ks ≡ true → position_or_len (same x) (with_new same ks y) ≡ position_or_len (same x) ks
  place_inserted x y ks there = by (list_any (same y) ks) refl
    where
      by : (b : Bool) → list_any (same y) ks ≡ b → position_or_len (same x) (with_new same ks y) ≡ position_or_len (same x) ks
      by true e = ap (λ t. position_or_len (same x) (if t then ks else ks ++ y ∷ [])) e
      by false e = ap (λ t. position_or_len (same x) (if t then ks else ks ++ y ∷ [])) e ∙ place_kept x y ks there

  there_inserted : (x y : X) (ks : List X) → list_any (same x) ks ≡ true → list_any (same x) (with_new same ks y) ≡ true
  there_inserted x y ks there = by (list_any (same y) ks) refl
    where
      by : (b : Bool) → list_any (same y) ks ≡ b → list_any (same x) (with_new same ks y) ≡ true
      by true e = ap (λ t. list_any (same x) (if t then ks else ks ++ y ∷ [])) e ∙ there
      by false e = ap (λ t. list_any (same x) (if t then ks else ks ++ y ∷ [])) e ∙ list_any-append (same x) ks (y ∷ []) ∙ or_left (list_any (same x) ks) _ there

  -- a new element takes the place behind the last
  place_new : (x : X) (ks : List X) → list_any (same x) ks ≡ false → position_or_len (same x) (ks ++ x ∷ []) ≡ position_or_len (same x) ks
  place_new x [] new = ap (λ t. cond (not t) 1 0) (whole x)
  place_new x (k ∷ ks) new = by (same x k) refl (place_new x ks)
    where
      by : (b : Bool) → same x k ≡ b → (list_any (same x) ks ≡ false → position_or_len (same x) (ks ++ x ∷ []) ≡ position_or_len (same x) ks) → position_or_len (same x) (k ∷ ks ++ x ∷ []) ≡ position_or_len (same x) (k ∷ ks)
      by true e rest = ap (λ t. cond (not t) (1 + position_or_len (same x) (ks ++ x ∷ [])) 0) e ∙ sym (ap (λ t. cond (not t) (1 + position_or_len (same x) ks) 0) e)
      by false e rest =
          ap (λ t. cond (not t) (1 + position_or_len (same x) (ks ++ x ∷ [])) 0) e
          ∙ ap (λ n. 1 + n) (rest (sym (ap (λ t. t || list_any (same x) ks) e) ∙ new))
          ∙ sym (ap (λ t. cond (not t) (1 + position_or_len (same x) ks) 0) e)

  place_own : (x : X) (ks : List X) → position_or_len (same x) (with_new same ks x) ≡ position_or_len (same x) ks
  place_own x ks = by (list_any (same x) ks) refl
    where
      by : (b : Bool) → list_any (same x) ks ≡ b → position_or_len (same x) (with_new same ks x) ≡ position_or_len (same x) ks
      by true e = ap (λ t. position_or_len (same x) (if t then ks else ks ++ x ∷ [])) e
      by false e = ap (λ t. position_or_len (same x) (if t then ks else ks ++ x ∷ [])) e ∙ place_new x ks e

  there_own : (x : X) (ks : List X) → list_any (same x) (with_new same ks x) ≡ true
  there_own x ks = by (list_any (same x) ks) refl
    where
      by : (b : Bool) → list_any (same x) ks ≡ b → list_any (same x) (with_new same ks x) ≡ true
      by true e = ap (λ t. list_any (same x) (if t then ks else ks ++ x ∷ [])) e ∙ e
      by false e =
          ap (λ t. list_any (same x) (if t then ks else ks ++ x ∷ [])) e
          ∙ list_any-append (same x) ks (x ∷ [])
          ∙ ap (λ t. t || (same x x || false)) e
          ∙ ap (λ t. t || false) (whole x)

  -- whatever follows, what stood in front keeps its place
  place_stays : (x : X) (xs ys : List X) → list_any (same x) (without_repeats same xs) ≡ true → position_or_len (same x) (without_repeats same (xs ++ ys)) ≡ position_or_len (same x) (without_repeats same xs)
  place_stays x xs [] there = ap (λ zs. position_or_len (same x) (without_repeats same zs)) (append-nil xs)
  place_stays x xs (y ∷ ys) there =
      ap (λ zs. position_or_len (same x) (without_repeats same zs)) (sym (append_assoc xs (y ∷ []) ys))
      ∙ place_stays x (xs ++ y ∷ []) ys (ap (list_any (same x)) (unrepeated_push xs y) ∙ there_inserted x y (without_repeats same xs) there)
      ∙ ap (position_or_len (same x)) (unrepeated_push xs y)
      ∙ place_inserted x y (without_repeats same xs) there

  -- the place that an element takes is the one that it has in the end
  pub place_in_all : (xs : List X) (i : ℕ) (x : X) → i < length xs → x ≡ get_or xs i x → position_or_len (same x) (without_repeats same xs) ≡ position_or_len (same x) (without_repeats same (take i xs))
  place_in_all xs i x within read =
      let front : take i xs ++ x ∷ drop (i + 1) xs ≡ xs = ap (λ v. take i xs ++ v ∷ drop (i + 1) xs) read ∙ ap (λ ys. take i xs ++ ys) (sym (drop_more xs i x within)) ∙ take-append-drop i xs in
      ap (λ zs. position_or_len (same x) (without_repeats same zs)) (sym front ∙ sym (append_assoc (take i xs) (x ∷ []) (drop (i + 1) xs)))
      ∙ place_stays x (take i xs ++ x ∷ []) (drop (i + 1) xs) (ap (list_any (same x)) (unrepeated_push (take i xs) x) ∙ there_own x (without_repeats same (take i xs)))
      ∙ ap (position_or_len (same x)) (unrepeated_push (take i xs) x)
      ∙ place_own x (without_repeats same (take i xs))

  -- with one more element it is as long, or one longer
  pub length_grown : (xs : List X) (x : X) → length (without_repeats same xs) ≤ length (without_repeats same (xs ++ x ∷ []))
  length_grown xs x = subst (λ ks. length (without_repeats same xs) ≤ length ks) (sym (unrepeated_push xs x)) (by (list_any (same x) (without_repeats same xs)))
    where
      by : (b : Bool) → length (without_repeats same xs) ≤ length (if b then without_repeats same xs else without_repeats same xs ++ x ∷ [])
      by true = omega arith
      by false = omega (arith, length-append (without_repeats same xs) (x ∷ []))

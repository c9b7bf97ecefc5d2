-- Members of a list, what a filter keeps, what holds of all or of one, and lists that are joined.
use Rattle.std.proofs.Common.{◌≡◌, ℕ, zero, suc, ◌<◌, Bool, true, false, cond, List, [], ◌∷◌, ◌++◌, length, get_or, map, filter, refl, sym, ◌∙◌, ap, subst, arith, inl, inr, ◌⊎◌, if◌then◌else◌}
use Rattle.std.specs.Prelude.{Contains, ◌||◌, not, ◌==◌}
use Rattle.std.specs.List.{list_all, list_any, flat_map, AllByRecursion}
use Rattle.std.proofs.lemmas.Bool.{and_cases, and_parts, and_from, eqb-true, eq-eqb, false≢true}
use Rattle.std.proofs.lemmas.List.{get_or_default, map-append}
use Rattle.std.proofs.lemmas.List.Folds.{Any-from_list_any, list_any_at}

-- ---- members

-- a member is the first or one behind it
pub Contains_cases : {X : Type 0} (x : X) (xs : List X) (v : X) → Contains (x ∷ xs) v → (x ≡ v) ⊎ Contains xs v
Contains_cases x xs v (zero, l, e) = inl e
Contains_cases x xs v (suc k, l, e) = inr (k, omega arith, e)

-- a member stands behind one more
pub Contains_later : {X : Type 0} (x : X) (xs : List X) (v : X) → Contains xs v → Contains (x ∷ xs) v
Contains_later x xs v c = (suc c.0, omega (arith, c.1), c.2)

-- the first is a member
pub Contains_first : {X : Type 0} (x : X) (xs : List X) → Contains (x ∷ xs) x
Contains_first x xs = (0, omega arith, refl)

-- a list without elements has no member
pub Contains_none : {X : Type 0} (v : X) → Contains [] v → ⊥
Contains_none v c = absurd (omega (arith, c.1))

-- a member behind one more, if that is there
Contains_if : {X : Type 0} (b : Bool) (x : X) (ys : List X) (v : X) → Contains ys v → Contains (cond b (x ∷ ys) ys) v
Contains_if true x ys v c = Contains_later x ys v c
Contains_if false x ys v c = c

-- a member that passes is kept
pub Contains-filter : {X : Type 0} (p : X → Bool) (xs : List X) (v : X) → Contains xs v → p v ≡ true → Contains (filter p xs) v
Contains-filter p [] v c h = absurd (omega (arith, c.1))
Contains-filter p (x ∷ xs) v c h = elim (Contains_cases x xs v c) [
  | inl e ↦ subst (λ b. Contains (cond b (x ∷ filter p xs) (filter p xs)) v) (sym (ap p e ∙ h)) (0, omega arith, e)
  | inr r ↦ Contains_if (p x) x (filter p xs) v (Contains-filter p xs v r h)
]

-- what is kept behind one more, if that is kept
kept_if : {X : Type 0} (p : X → Bool) (b : Bool) (x : X) (xs ys : List X) (v : X) → p x ≡ b → (Contains ys v → (p v ≡ true) × Contains xs v)
    → Contains (cond b (x ∷ ys) ys) v → (p v ≡ true) × Contains (x ∷ xs) v
kept_if p true x xs ys v e rest c = elim (Contains_cases x ys v c) [
  | inl same ↦ (sym (ap p same) ∙ e, (0, omega arith, same))
  | inr r ↦ let t = rest r in (t.0, Contains_later x xs v t.1)
]
kept_if p false x xs ys v e rest c = let t = rest c in (t.0, Contains_later x xs v t.1)

-- what is kept passes, and is a member
pub filter-Contains : {X : Type 0} (p : X → Bool) (xs : List X) (v : X) → Contains (filter p xs) v → (p v ≡ true) × Contains xs v
filter-Contains p [] v c = absurd (omega (arith, c.1))
filter-Contains p (x ∷ xs) v c = kept_if p (p x) x xs (filter p xs) v refl (filter-Contains p xs v) c

-- ---- all and one

-- where not all pass, one fails
pub one_fails : {X : Type 0} (p : X → Bool) (xs : List X) → list_all p xs ≡ false → (v : X) × Contains xs v × (p v ≡ false)
one_fails p [] is = cc
one_fails p (x ∷ xs) is = elim (and_cases (p x) (list_all p xs) is) [
  | inl e ↦ (x, (0, omega arith, refl), e)
  | inr r ↦ let t = one_fails p xs r in (t.0, Contains_later x xs t.0 t.1, t.2)
]

-- where all pass, each member does
pub all_pass : {X : Type 0} (p : X → Bool) (xs : List X) (v : X) → list_all p xs ≡ true → Contains xs v → p v ≡ true
all_pass p [] v all has = absurd (omega (arith, has.1))
all_pass p (x ∷ xs) v all has =
    let parts = and_parts (p x) (list_all p xs) all in
    elim (Contains_cases x xs v has) [ inl e ↦ sym (ap p e) ∙ parts.0 | inr r ↦ all_pass p xs v parts.1 r ]

-- where each member passes, all do
pub pass_all : {X : Type 0} (p : X → Bool) (xs : List X) → ((v : X) → Contains xs v → p v ≡ true) → list_all p xs ≡ true
pass_all p [] each = refl
pass_all p (x ∷ xs) each = and_from (p x) (list_all p xs) (each x (Contains_first x xs)) (pass_all p xs (λ v has. each v (Contains_later x xs v has)))

-- where a member passes, one does
pub Contains_any : {X : Type 0} (p : X → Bool) (xs : List X) (w : X) → Contains xs w → p w ≡ true → list_any p xs ≡ true
Contains_any p xs w k t = list_any_at p xs k.0 w k.1 (ap p k.2 ∙ t)

-- where one passes, it is a member
pub any_Contains : {X : Type 0} (p : X → Bool) (xs : List X) → list_any p xs ≡ true → (w : X) × Contains xs w × (p w ≡ true)
any_Contains p xs t =
    let a = Any-from_list_any p xs t in
    (a.1, (a.0, a.2, a.3), a.4)

-- a list in which a number is found has it
pub has_Contains : (xs : List ℕ) (w : ℕ) → list_any (λ x. x == w) xs ≡ true → Contains xs w
has_Contains xs w t =
    let a = Any-from_list_any (λ x. x == w) xs t in
    (a.0, a.2, get_or_default xs a.0 w a.1 a.2 ∙ a.3 ∙ eqb-true a.1 w a.4)

-- and the other way
pub Contains_has : (xs : List ℕ) (w : ℕ) → Contains xs w → list_any (λ x. x == w) xs ≡ true
Contains_has xs w c = list_any_at (λ x. x == w) xs c.0 w c.1 (eq-eqb _ w c.2)

-- an implication as a test
pub or_implies : (a b : Bool) → (a ≡ true → b ≡ true) → (not a || b) ≡ true
or_implies true b h = h refl
or_implies false b h = refl

-- ---- what holds of each element, by recursion

-- what holds of each of both parts holds of each of the whole
pub each-append : {X : Type 0} (P : X → Type 0) (xs ys : List X) → AllByRecursion P xs → AllByRecursion P ys → AllByRecursion P (xs ++ ys)
each-append P [] ys all more = more
each-append P (x ∷ xs) ys all more = (all.0, each-append P xs ys all.1 more)

-- and of each of the front
pub each_front : {X : Type 0} (P : X → Type 0) (xs ys : List X) → AllByRecursion P (xs ++ ys) → AllByRecursion P xs
each_front P [] ys all = tt
each_front P (x ∷ xs) ys all = (all.0, each_front P xs ys all.1)

-- and of each of the back
pub each_back : {X : Type 0} (P : X → Type 0) (xs ys : List X) → AllByRecursion P (xs ++ ys) → AllByRecursion P ys
each_back P [] ys all = all
each_back P (x ∷ xs) ys all = each_back P xs ys all.1

-- what holds of each of several lists holds of each of them joined
pub each_in_lists : {X Y : Type 0} (P : X → Type 0) (g : Y → List X) (ys : List Y) → AllByRecursion (λ y. AllByRecursion P (g y)) ys → AllByRecursion P (flat_map g ys)
each_in_lists P g [] each = tt
each_in_lists P g (y ∷ ys) each = each-append P (g y) (flat_map g ys) each.0 (each_in_lists P g ys each.1)

-- and the other way
pub lists_each : {X Y : Type 0} (P : X → Type 0) (g : Y → List X) (ys : List Y) → AllByRecursion P (flat_map g ys) → AllByRecursion (λ y. AllByRecursion P (g y)) ys
lists_each P g [] all = tt
lists_each P g (y ∷ ys) all = (each_front P (g y) (flat_map g ys) all, lists_each P g ys (each_back P (g y) (flat_map g ys) all))

-- what holds of each holds of each that a filter keeps
pub each_kept : {X : Type 0} (P : X → Type 0) (p : X → Bool) (xs : List X) → AllByRecursion P xs → AllByRecursion P (filter p xs)
each_kept P p [] all = tt
each_kept P p (x ∷ xs) all = by (p x) refl (each_kept P p xs all.1)
  where
    by : (b : Bool) → p x ≡ b → AllByRecursion P (filter p xs) → AllByRecursion P (filter p (x ∷ xs))
    by true keeps rest = subst (λ b. AllByRecursion P (cond b (x ∷ filter p xs) (filter p xs))) (sym keeps) (all.0, rest)
    by false drops rest = subst (λ b. AllByRecursion P (cond b (x ∷ filter p xs) (filter p xs))) (sym drops) rest

-- ---- lists that are sieved and mapped

-- what holds of what each that passes is mapped to holds of all
pub sieved_all : {X Y : Type 0} (P : Y → Type 0) (f : X → Y) (p : X → Bool) (xs : List X) → ((k : ℕ) (d : X) → k < length xs → p (get_or xs k d) ≡ true → P (f (get_or xs k d))) → AllByRecursion P (map f (filter p xs))
sieved_all P f p [] holds = tt
sieved_all {X = X} P f p (x ∷ xs) holds = by (p x) refl (sieved_all P f p xs (λ k d inside passes. holds (suc k) d (omega arith) passes))
  where
    by : (b : Bool) → p x ≡ b → AllByRecursion P (map f (filter p xs)) → AllByRecursion P (map f (if b then x ∷ filter p xs else filter p xs))
    by true is later = (holds 0 x (omega arith) is, later)
    by false is later = later

-- it holds of the first, if that passes, and of those behind it
sieved_parts : {X Y : Type 0} (P : Y → Type 0) (f : X → Y) (p : X → Bool) (x : X) (xs : List X) → AllByRecursion P (map f (filter p (x ∷ xs))) → (p x ≡ true → P (f x)) × AllByRecursion P (map f (filter p xs))
sieved_parts P f p x xs all = by (p x) refl all
  where
    by : (b : Bool) → p x ≡ b → AllByRecursion P (map f (if b then x ∷ filter p xs else filter p xs)) → (p x ≡ true → P (f x)) × AllByRecursion P (map f (filter p xs))
    by true is all = (λ _. all.0, all.1)
    by false is all = (λ yes. absurd (false≢true (sym is ∙ yes)), all)

-- and the other way
pub sieved_each : {X Y : Type 0} (P : Y → Type 0) (f : X → Y) (p : X → Bool) (xs : List X) → AllByRecursion P (map f (filter p xs)) → (k : ℕ) (d : X) → k < length xs → p (get_or xs k d) ≡ true → P (f (get_or xs k d))
sieved_each P f p [] all k d inside passes = absurd (omega arith)
sieved_each {X = X} P f p (x ∷ xs) all zero d inside passes = (sieved_parts P f p x xs all).0 passes
sieved_each {X = X} P f p (x ∷ xs) all (suc k) d inside passes = sieved_each P f p xs (sieved_parts P f p x xs all).1 k d (omega arith) passes

-- ---- lists that are joined

-- what each element of joined lists is mapped to
pub map_lists : {X Y Z : Type 0} (g : Y → Z) (F : X → List Y) (xs : List X) → map g (flat_map F xs) ≡ flat_map (λ x. map g (F x)) xs
map_lists g F [] = refl
map_lists g F (x ∷ xs) = map-append g (F x) (flat_map F xs) ∙ ap (λ ys. map g (F x) ++ ys) (map_lists g F xs)

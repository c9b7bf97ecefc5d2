-- Ranges of numbers: their members, what holds of what they are mapped to, and one number more.
use Rattle.std.proofs.Common.{◌≡◌, ℕ, zero, suc, ◌+◌, ◌<◌, ◌≤◌, List, [], ◌∷◌, ◌++◌, get_or, map, sym, ◌∙◌, ap, subst, arith, inl, inr, ◌⊎◌, add-one, append-nil, append_assoc, zero-add}
use Rattle.std.specs.Prelude.{Contains}
use Rattle.std.specs.List.{flat_map, range_with_len, AllByRecursion}
use Rattle.std.proofs.lemmas.Grind.{flat_map-append}
use Rattle.std.proofs.lemmas.List.FromFn.{get_or-range_with_len, length-range_with_len}
use Rattle.wfc_lists.proofs.Lists.{each-append, each_front, each_back}

-- number k of those below n is k
pub range_at : (n k : ℕ) → k < n → get_or (range_with_len 0 n) k 0 ≡ k
range_at n k l = get_or-range_with_len 0 n k 0 l ∙ (let z : 0 + k ≡ k = omega arith in z)

-- a number below n is one of them
pub range_Contains : (n v : ℕ) → v < n → Contains (range_with_len 0 n) v
range_Contains n v l =
    (v, omega (arith, length-range_with_len 0 n), get_or-range_with_len 0 n v v l ∙ (let z : 0 + v ≡ v = omega arith in z))

-- and they are no others
pub Contains_range : (n v : ℕ) → Contains (range_with_len 0 n) v → v < n
Contains_range n v c =
    let l : c.0 < n = omega (arith, c.1, length-range_with_len 0 n) in
    omega (arith, c.2, get_or-range_with_len 0 n c.0 v l)

-- what holds of each number of a range holds of each that it is mapped to
pub each_in_row : {X : Type 0} (P : X → Type 0) (f : ℕ → X) (a n : ℕ) → ((j : ℕ) → a ≤ j → j < a + n → P (f j)) → AllByRecursion P (map f (range_with_len a n))
each_in_row P f a zero holds = tt
each_in_row P f a (suc n) holds = (holds a (omega arith) (omega arith), each_in_row P f (a + 1) n (λ j low high. holds j (omega arith) (omega arith)))

-- and the other way
pub row_each : {X : Type 0} (P : X → Type 0) (f : ℕ → X) (a n : ℕ) → AllByRecursion P (map f (range_with_len a n)) → (j : ℕ) → a ≤ j → j < a + n → P (f j)
row_each P f a zero all j low high = absurd (omega arith)
row_each P f a (suc n) all j low high =
    elim (first_or_later a j low) [ inl same ↦ subst P (ap f (sym same)) all.0 | inr later ↦ row_each P f (a + 1) n all.1 j later (omega arith) ]
  where
    first_or_later : (a j : ℕ) → a ≤ j → (j ≡ a) ⊎ (a + 1 ≤ j)
    first_or_later a j low = grind arith

-- what holds of each entry of each row holds of each of the rows joined
pub each_in_rows : {X : Type 0} (P : X → Type 0) (g : ℕ → List X) (a n : ℕ) → ((j : ℕ) → a ≤ j → j < a + n → AllByRecursion P (g j)) → AllByRecursion P (flat_map g (range_with_len a n))
each_in_rows P g a zero holds = tt
each_in_rows P g a (suc n) holds = each-append P (g a) (flat_map g (range_with_len (a + 1) n)) (holds a (omega arith) (omega arith)) (each_in_rows P g (a + 1) n (λ j low high. holds j (omega arith) (omega arith)))

-- and the other way
pub rows_each : {X : Type 0} (P : X → Type 0) (g : ℕ → List X) (a n : ℕ) → AllByRecursion P (flat_map g (range_with_len a n)) → (j : ℕ) → a ≤ j → j < a + n → AllByRecursion P (g j)
rows_each P g a zero all j low high = absurd (omega arith)
rows_each P g a (suc n) all j low high =
    elim (first_or_later a j low) [
      | inl same ↦ subst (λ ys. AllByRecursion P ys) (ap g (sym same)) (each_front P (g a) (flat_map g (range_with_len (a + 1) n)) all)
      | inr later ↦ rows_each P g (a + 1) n (each_back P (g a) (flat_map g (range_with_len (a + 1) n)) all) j later (omega arith)
    ]
  where
    first_or_later : (a j : ℕ) → a ≤ j → (j ≡ a) ⊎ (a + 1 ≤ j)
    first_or_later a j low = grind arith

-- a range one longer has its end behind it
pub range_more : (a n : ℕ) → range_with_len a (suc n) ≡ range_with_len a n ++ (a + n) ∷ []
range_more a zero = let e : a ≡ a + 0 = omega arith in ap (λ x. x ∷ []) e
range_more a (suc n) =
    let e : a + 1 + n ≡ a + suc n = omega arith in
    ap (λ xs. a ∷ xs) (range_more (a + 1) n ∙ ap (λ x. range_with_len (a + 1) n ++ x ∷ []) e)

-- the lists of its numbers have that of the end behind them
pub lists_more : {X : Type 0} (F : ℕ → List X) (n : ℕ) → flat_map F (range_with_len 0 (n + 1)) ≡ flat_map F (range_with_len 0 n) ++ F n
lists_more F n =
    ap (λ k. flat_map F (range_with_len 0 k)) (add-one n) ∙ ap (flat_map F) (range_more 0 n) ∙ flat_map-append F (range_with_len 0 n) ((0 + n) ∷ [])
    ∙ ap (λ k. flat_map F (range_with_len 0 n) ++ flat_map F (k ∷ [])) (zero-add n) ∙ ap (λ ys. flat_map F (range_with_len 0 n) ++ ys) (append-nil (F n))

-- so they have, behind other lists
pub lists_behind : {X : Type 0} (F : ℕ → List X) (n : ℕ) (old now next : List X) → now ≡ old ++ flat_map F (range_with_len 0 n) → next ≡ now ++ F n → next ≡ old ++ flat_map F (range_with_len 0 (n + 1))
lists_behind F n old now next so_far pushed =
    pushed ∙ ap (λ ys. ys ++ F n) so_far ∙ append_assoc old (flat_map F (range_with_len 0 n)) (F n) ∙ ap (λ ys. old ++ ys) (sym (lists_more F n))

-- The numbers below a count, and lists over them as the count grows by one.
use Rattle.std.proofs.Common.{◌≡◌, ℕ, ◌+◌, Bool, cond, List, [], ◌∷◌, ◌++◌, map, filter, refl, sym, ap, ◌∙◌, arith, append-nil, zero-add}
use Rattle.std.specs.List.{flat_map, range_with_len}
use Rattle.std.specs.List.Sorted.{IsStrictlyIncreasing}
use Rattle.std.proofs.lemmas.Grind.{flat_map-append}
use Rattle.std.proofs.lemmas.List.{map-id}
use Rattle.wfc_lists.proofs.Ranges.{lists_more}
use Rattle.std.proofs.lemmas.List.FromFn.{map-range_with_len_more, filter_of_map_range_with_len_more, length-range_with_len, get_or-range_with_len}

-- they rise
pub range_rises : (n : ℕ) → IsStrictlyIncreasing (range_with_len 0 n)
range_rises n k inside =
    let long = length-range_with_len 0 n in
    omega (arith, get_or-range_with_len 0 n k 0 (omega arith), get_or-range_with_len 0 n (k + 1) 0 (omega arith))

-- one number more
pub one_more : (n : ℕ) → range_with_len 0 (n + 1) ≡ range_with_len 0 n ++ n ∷ []
one_more n = sym (map-id (range_with_len 0 (n + 1))) ∙ map-range_with_len_more (λ k. k) 0 n n (zero-add n) ∙ ap (λ ns. ns ++ n ∷ []) (map-id (range_with_len 0 n))

-- the lists of one element more
flat_map-push : {X Y : Type 0} (F : X → List Y) (xs : List X) (x : X) → flat_map F (xs ++ x ∷ []) ≡ flat_map F xs ++ F x
flat_map-push F xs x = flat_map-append F xs (x ∷ []) ∙ ap (λ ys. flat_map F xs ++ ys) (append-nil (F x))

-- the lists of one element more of a row
pub row_more : {X Y : Type 0} (F : X → List Y) (g : ℕ → X) (n : ℕ) → flat_map F (map g (range_with_len 0 (n + 1))) ≡ flat_map F (map g (range_with_len 0 n)) ++ F (g n)
row_more F g n = ap (flat_map F) (map-range_with_len_more g 0 n n (zero-add n)) ∙ flat_map-push F (map g (range_with_len 0 n)) (g n)

-- the lists of one row more
pub rows_more : {X Y : Type 0} (F : X → List Y) (G : ℕ → List X) (n : ℕ) → flat_map F (flat_map G (range_with_len 0 (n + 1))) ≡ flat_map F (flat_map G (range_with_len 0 n)) ++ flat_map F (G n)
rows_more F G n = ap (flat_map F) (lists_more G n) ∙ flat_map-append F (flat_map G (range_with_len 0 n)) (G n)

-- what passes of one number more
pub kept_more : (p : ℕ → Bool) (n : ℕ) → filter p (range_with_len 0 (n + 1)) ≡ filter p (range_with_len 0 n) ++ cond (p n) (n ∷ []) []
kept_more p n = ap (filter p) (sym (map-id (range_with_len 0 (n + 1)))) ∙ filter_of_map_range_with_len_more p (λ k. k) 0 n n (zero-add n) ∙ ap (λ ns. filter p ns ++ cond (p n) (n ∷ []) []) (map-id (range_with_len 0 n))

-- two tests that say the same keep the same
pub kept_same : {X : Type 0} (p q : X → Bool) → ((x : X) → p x ≡ q x) → (xs : List X) → filter p xs ≡ filter q xs
kept_same p q same [] = refl
kept_same p q same (x ∷ xs) = ap (λ b. cond b (x ∷ filter p xs) (filter p xs)) (same x) ∙ ap (λ rest. cond (q x) (x ∷ rest) rest) (kept_same p q same xs)

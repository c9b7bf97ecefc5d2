-- Masks: the cells of places, and that masks are masks.
use Rattle.std.proofs.Common.{◌≡◌, ◌≢◌, ℕ, suc, ◌*◌, ◌<◌, ◌≤◌, Bool, true, false, inl, inr, List, [], ◌∷◌, length, get_or, filter, position, None, Some, Ok, Err, refl, sym, subst, ◌∙◌, arith}
use Rattle.std.specs.Prelude.{Contains, All, ◌==◌, nat_eq, slice_index}
use Rattle.std.specs.List.{range_with_len}
use Rattle.std.specs.List.Sorted.{IsStrictlyIncreasing, IsBinarySearchResult}
use Rattle.std.specs.Ordering.{nat_cmp}
use Rattle.std.proofs.lemmas.Bool.{cases_lt, eqb-true, eq-eqb, false_from_ne_true}
use Rattle.std.proofs.lemmas.List.{get_or_default}
use Rattle.std.proofs.lemmas.List.Elements.{All-filter}
use Rattle.std.proofs.lemmas.List.FromFn.{length-range_with_len, get_or-range_with_len}
use Rattle.std.proofs.lemmas.List.Kept.{AllPairs-from_increasing, IsStrictlyIncreasing-filter}
use Rattle.std.proofs.lemmas.List.Quantifiers.{position-Some}
use Rattle.std.proofs.lemmas.List.Sorted.{searched}
use Rattle.std.proofs.Math.Nat.{mul-le-mul_right, mul-pos}
use Rattle.wfc_lists.proofs.Growing.{range_rises}
use Rattle.wfc_lists.proofs.Positions.{position_at, position_none}
use Rattle.wfc_lists.proofs.Rising.{rising_le}
use Rattle.wfc_tiled.specs.Mask.{MaskView, IsMask, plain_mask, places_of}

-- ---- where a number stands in a rising list

pub found : (xs : List ℕ) (n i : ℕ) → IsStrictlyIncreasing xs → i < length xs → get_or xs i 0 ≡ n → position (nat_eq n) xs ≡ Some i
found xs n i up inside is =
    position_at (nat_eq n) xs i 0 inside (eq-eqb n (get_or xs i 0) (sym is))
    (λ k before. false_from_ne_true (nat_eq n (get_or xs k 0)) (λ t.
    let same = eqb-true n (get_or xs k 0) t in
    let less = AllPairs-from_increasing xs up k i 0 before inside in
    absurd (omega arith)))

pub missed : (xs : List ℕ) (n : ℕ) → ((k : ℕ) → k < length xs → get_or xs k 0 ≢ n) → position (nat_eq n) xs ≡ None
missed xs n none =
    position_none (nat_eq n) xs 0 (λ k inside. false_from_ne_true (nat_eq n (get_or xs k 0)) (λ t. none k inside (sym (eqb-true n (get_or xs k 0) t))))

-- what stands at the place that was found
pub stands : (xs : List ℕ) (n i : ℕ) → position (nat_eq n) xs ≡ Some i → (i < length xs) × (get_or xs i 0 ≡ n)
stands xs n i at =
    let first = position-Some (nat_eq n) xs i 0 at in
    (first.0, sym (eqb-true n (get_or xs i 0) first.1))

-- a member is found
pub member : (xs : List ℕ) (n : ℕ) → IsStrictlyIncreasing xs → Contains xs n → (i : ℕ) × (position (nat_eq n) xs ≡ Some i)
member xs n up c = (c.0, found xs n c.0 up c.1 (get_or_default xs c.0 0 n c.1 ∙ c.2))

-- what is found is a member
pub there : (xs : List ℕ) (n i : ℕ) → position (nat_eq n) xs ≡ Some i → Contains xs n
there xs n i at = let s = stands xs n i at in (i, s.0, get_or_default xs i n 0 s.0 ∙ s.1)

-- a binary search answers where it stands
pub found_by : (xs : List ℕ) (n i : ℕ) → IsStrictlyIncreasing xs → IsBinarySearchResult (λ y. nat_cmp y n) xs (Ok i) → Some i ≡ position (nat_eq n) xs
found_by xs n i up s = let f = searched xs n (Ok i) s (rising_le xs up) in sym (found xs n i up f.0 f.1)

pub missed_by : (xs : List ℕ) (n i : ℕ) → IsStrictlyIncreasing xs → IsBinarySearchResult (λ y. nat_cmp y n) xs (Err i) → None ≡ position (nat_eq n) xs
missed_by xs n i up s =
    let f = searched xs n (Err i) s (rising_le xs up) in
    sym (missed xs n (λ k inside same. elim (cases_lt k i) [
      | inl l ↦ let less = f.1 k l in absurd (omega arith)
      | inr l ↦ let more = f.2 k l inside in absurd (omega arith)
    ]))

-- ---- masks

-- a map has at most so many places
pub area : (w h : ℕ) → w ≤ 4096 → h ≤ 4096 → w * h ≤ 16777216
area w h wide high =
    let a : w * h ≤ 4096 * h = mul-le-mul_right h wide in
    omega arith

pub few : (mask : MaskView) → IsMask mask → length mask.places ≤ 16777216
few mask is = omega (arith, is.few_places, area mask.width mask.height is.width_limit is.height_limit)

-- the numbers below n, rising
pub below : (n : ℕ) → All (λ k. k < n) (range_with_len 0 n)
below n k d inside = omega (arith, get_or-range_with_len 0 n k d (omega (arith, length-range_with_len 0 n)), length-range_with_len 0 n)

-- the mask without holes is one
pub plain_is : (w h : ℕ) → 0 < w → 0 < h → w ≤ 4096 → h ≤ 4096 → IsMask (plain_mask w h)
plain_is w h some_w some_h wide high = record {
  some_column = some_w;
  some_row = some_h;
  width_limit = wide;
  height_limit = high;
  some_place = omega (arith, length-range_with_len 0 (w * h), mul-pos some_w some_h);
  few_places = omega (arith, length-range_with_len 0 (w * h));
  inside = below (w * h);
  rising = range_rises (w * h);
}

kept_le : (p : ℕ → Bool) (b : Bool) (x : ℕ) (xs : List ℕ) → p x ≡ b → length (filter p xs) ≤ length xs → length (filter p (x ∷ xs)) ≤ suc (length xs)
kept_le p true x xs is rest = rw is (omega arith)
kept_le p false x xs is rest = rw is (omega arith)

length-kept : (p : ℕ → Bool) (xs : List ℕ) → length (filter p xs) ≤ length xs
length-kept p [] = omega arith
length-kept p (x ∷ xs) = kept_le p (p x) x xs refl (length-kept p xs)

-- the places of a grid with these sides, if there is one, are a mask's
pub kept_is : (w h : ℕ) (bytes : List ℕ) → 0 < w → 0 < h → w ≤ 4096 → h ≤ 4096 → length bytes ≡ w * h → 0 < length (places_of bytes)
    → IsMask (record { width = w; height = h; places = places_of bytes })
kept_is w h bytes some_w some_h wide high long some = record {
  some_column = some_w;
  some_row = some_h;
  width_limit = wide;
  height_limit = high;
  some_place = some;
  few_places = omega (arith, length-kept (λ n. slice_index bytes n == 46) (range_with_len 0 (length bytes)), length-range_with_len 0 (length bytes), long);
  inside = subst (λ n. All (λ k. k < n) (places_of bytes)) long (All-filter (λ n. slice_index bytes n == 46) (λ k. k < length bytes) (range_with_len 0 (length bytes)) (below (length bytes)));
  rising = IsStrictlyIncreasing-filter (λ n. slice_index bytes n == 46) (range_with_len 0 (length bytes)) (range_rises (length bytes));
}

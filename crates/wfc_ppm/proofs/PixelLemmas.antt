-- Pixels and samples of bytes, one by one.
use Rattle.std.proofs.Common.{◌≡◌, ℕ, ◌+◌, ◌*◌, ◌/◌, ◌<◌, ◌≤◌, List, [], ◌∷◌, ◌++◌, length, drop, get_or, refl, ap, ◌∙◌, append-nil, append_assoc, arith, zero, suc, sym, length-drop, true, false, nat_lt, Some, None, below_more}
use Rattle.std.proofs.lemmas.Bool.Decides.{nat_tests}
use Rattle.wfc_lists.proofs.Positions.{position_at, position_none}
use Rattle.std.proofs.lemmas.List.{drop_more}
use Rattle.std.specs.List.{position}
use Rattle.wfc_picture.specs.declared.symbol.Colour.{Colour}
use Rattle.wfc_ppm.specs.Fault.{pairs_of}
use Rattle.wfc_ppm.specs.Reading.{colours_of}

-- three bytes on
pub three_more : (xs : List ℕ) (i j : ℕ) → j ≡ i + 1 → 3 * i + 3 ≤ length xs → drop (3 * i) xs ≡ get_or xs (3 * i) 0 ∷ get_or xs (3 * i + 1) 0 ∷ get_or xs (3 * i + 2) 0 ∷ drop (3 * j) xs
three_more xs i j next inside =
    let e : 3 * i + 2 + 1 ≡ 3 * j = omega arith in
    let d : 3 * i + 1 + 1 ≡ 3 * i + 2 = omega arith in
    drop_more xs (3 * i) 0 (omega arith)
    ∙ ap (λ t. get_or xs (3 * i) 0 ∷ t) (drop_more xs (3 * i + 1) 0 (omega arith) ∙ ap (λ k. get_or xs (3 * i + 1) 0 ∷ drop k xs) d
    ∙ ap (λ t. get_or xs (3 * i + 1) 0 ∷ t) (drop_more xs (3 * i + 2) 0 (omega arith) ∙ ap (λ k. get_or xs (3 * i + 2) 0 ∷ drop k xs) e))

-- one pixel on
pub colours-step : (xs : List ℕ) (i j : ℕ) → j ≡ i + 1 → 3 * i + 3 ≤ length xs → colours_of (drop (3 * i) xs) ≡ record { r = get_or xs (3 * i) 0; g = get_or xs (3 * i + 1) 0; b = get_or xs (3 * i + 2) 0 } ∷ colours_of (drop (3 * j) xs)
colours-step xs i j next inside = ap colours_of (three_more xs i j next inside)

-- fewer than three samples make no pixel
pub colours-short : (xs : List ℕ) → length xs < 3 → colours_of xs ≡ []
colours-short [] few = refl
colours-short (a ∷ []) few = refl
colours-short (a ∷ b ∷ []) few = refl
colours-short (a ∷ b ∷ c ∷ xs) few = absurd (omega arith)

-- a pixel more before those that are left
pub pixel_more : (pixels made all : List Colour) (rest later : List Colour) (pixel : Colour) → pixels ++ rest ≡ all → rest ≡ pixel ∷ later → made ≡ pixels ++ pixel ∷ [] → made ++ later ≡ all
pixel_more pixels made all rest later pixel so_far next is = ap (λ m. m ++ later) is ∙ append_assoc pixels (pixel ∷ []) later ∙ ap (λ t. pixels ++ t) (sym next) ∙ so_far

-- six bytes on
pub six_more : (xs : List ℕ) (i j : ℕ) → j ≡ i + 1 → 6 * i + 6 ≤ length xs → drop (6 * i) xs ≡ get_or xs (6 * i) 0 ∷ get_or xs (6 * i + 1) 0 ∷ get_or xs (6 * i + 2) 0 ∷ get_or xs (6 * i + 3) 0 ∷ get_or xs (6 * i + 4) 0 ∷ get_or xs (6 * i + 5) 0 ∷ drop (6 * j) xs
six_more xs i j next inside =
    let front : drop (6 * i) xs ≡ get_or xs (3 * (2 * i)) 0 ∷ get_or xs (3 * (2 * i) + 1) 0 ∷ get_or xs (3 * (2 * i) + 2) 0 ∷ drop (3 * (2 * i + 1)) xs = (ap (λ k. drop k xs) (omega arith)) ∙ three_more xs (2 * i) (2 * i + 1) refl (omega arith) in
    let back : drop (3 * (2 * i + 1)) xs ≡ get_or xs (3 * (2 * i + 1)) 0 ∷ get_or xs (3 * (2 * i + 1) + 1) 0 ∷ get_or xs (3 * (2 * i + 1) + 2) 0 ∷ drop (3 * (2 * j)) xs = three_more xs (2 * i + 1) (2 * j) (omega arith) (omega arith) in
    let a : 3 * (2 * i) ≡ 6 * i = omega arith in
    let b : 3 * (2 * i) + 1 ≡ 6 * i + 1 = omega arith in
    let c : 3 * (2 * i) + 2 ≡ 6 * i + 2 = omega arith in
    let d : 3 * (2 * i + 1) ≡ 6 * i + 3 = omega arith in
    let e : 3 * (2 * i + 1) + 1 ≡ 6 * i + 4 = omega arith in
    let f : 3 * (2 * i + 1) + 2 ≡ 6 * i + 5 = omega arith in
    let g : 3 * (2 * j) ≡ 6 * j = omega arith in
    front
    ∙ ap (λ t. get_or xs (3 * (2 * i)) 0 ∷ get_or xs (3 * (2 * i) + 1) 0 ∷ get_or xs (3 * (2 * i) + 2) 0 ∷ t) back
    ∙ (λ k. get_or xs (a k) 0 ∷ get_or xs (b k) 0 ∷ get_or xs (c k) 0 ∷ get_or xs (d k) 0 ∷ get_or xs (e k) 0 ∷ get_or xs (f k) 0 ∷ drop (g k) xs)

pub wide-step : (xs : List ℕ) (i j : ℕ) → j ≡ i + 1 → 6 * i + 6 ≤ length xs → colours_of (pairs_of (drop (6 * i) xs)) ≡ record { r = get_or xs (6 * i) 0 * 256 + get_or xs (6 * i + 1) 0; g = get_or xs (6 * i + 2) 0 * 256 + get_or xs (6 * i + 3) 0; b = get_or xs (6 * i + 4) 0 * 256 + get_or xs (6 * i + 5) 0 } ∷ colours_of (pairs_of (drop (6 * j) xs))
wide-step xs i j next inside = ap (λ t. colours_of (pairs_of t)) (six_more xs i j next inside)

-- fewer than six bytes make no pixel of samples of two bytes
pub wide-short : (xs : List ℕ) → length xs < 6 → colours_of (pairs_of xs) ≡ []
wide-short [] few = refl
wide-short (a ∷ []) few = refl
wide-short (a ∷ b ∷ []) few = refl
wide-short (a ∷ b ∷ c ∷ []) few = refl
wide-short (a ∷ b ∷ c ∷ d ∷ []) few = refl
wide-short (a ∷ b ∷ c ∷ d ∷ e ∷ []) few = refl
wide-short (a ∷ b ∷ c ∷ d ∷ e ∷ f ∷ xs) few = absurd (omega arith)

-- the sample of a pair of bytes
pub pair-at : (xs : List ℕ) (k : ℕ) → k < length xs / 2 → get_or (pairs_of xs) k 0 ≡ get_or xs (2 * k) 0 * 256 + get_or xs (2 * k + 1) 0
pair-at [] k inside = absurd (omega arith)
pair-at (a ∷ []) k inside = absurd (omega arith)
pair-at (a ∷ b ∷ xs) zero inside = refl
pair-at (a ∷ b ∷ xs) (suc k) inside =
    let at : 2 * suc k ≡ suc (suc (2 * k)) = omega arith in
    let on : 2 * suc k + 1 ≡ suc (suc (2 * k + 1)) = omega arith in
    pair-at xs k (omega arith) ∙ (λ i. get_or (a ∷ b ∷ xs) (sym at i) 0 * 256 + get_or (a ∷ b ∷ xs) (sym on i) 0)

-- how many pairs there are
pub length-pairs_of : (xs : List ℕ) → length (pairs_of xs) ≡ length xs / 2
length-pairs_of [] = refl
length-pairs_of (a ∷ []) = refl
length-pairs_of (a ∷ b ∷ xs) = omega (arith, length-pairs_of xs)

-- ---- the loops over bytes

pub narrow-next : (xs : List ℕ) (i : ℕ) (pixel : Colour) → 3 * i + 3 ≤ length xs → pixel.r ≡ get_or xs (3 * i) 0 → pixel.g ≡ get_or xs (3 * i + 1) 0 → pixel.b ≡ get_or xs (3 * i + 2) 0 → colours_of (drop (3 * i) xs) ≡ pixel ∷ colours_of (drop (3 * (i + 1)) xs)
narrow-next xs i pixel inside r g b = colours-step xs i (i + 1) refl inside ∙ (λ k. record { r = sym r k; g = sym g k; b = sym b k } ∷ colours_of (drop (3 * (i + 1)) xs))

pub wide-next : (xs : List ℕ) (i : ℕ) (pixel : Colour) → 6 * i + 6 ≤ length xs → pixel.r ≡ get_or xs (6 * i) 0 * 256 + get_or xs (6 * i + 1) 0 → pixel.g ≡ get_or xs (6 * i + 2) 0 * 256 + get_or xs (6 * i + 3) 0 → pixel.b ≡ get_or xs (6 * i + 4) 0 * 256 + get_or xs (6 * i + 5) 0 → colours_of (pairs_of (drop (6 * i) xs)) ≡ pixel ∷ colours_of (pairs_of (drop (6 * (i + 1)) xs))
wide-next xs i pixel inside r g b = wide-step xs i (i + 1) refl inside ∙ (λ k. record { r = sym r k; g = sym g k; b = sym b k } ∷ colours_of (pairs_of (drop (6 * (i + 1)) xs)))

pub narrow-all : (xs : List ℕ) (i : ℕ) (pixels : List Colour) → length xs < 3 * i + 3 → pixels ++ colours_of (drop (3 * i) xs) ≡ colours_of xs → pixels ≡ colours_of xs
narrow-all xs i pixels short so_far = sym (ap (λ t. pixels ++ t) (colours-short (drop (3 * i) xs) (omega (arith, length-drop (3 * i) xs))) ∙ append-nil pixels) ∙ so_far

pub wide-all : (xs : List ℕ) (i : ℕ) (pixels : List Colour) → length xs < 6 * i + 6 → pixels ++ colours_of (pairs_of (drop (6 * i) xs)) ≡ colours_of (pairs_of xs) → pixels ≡ colours_of (pairs_of xs)
wide-all xs i pixels short so_far = sym (ap (λ t. pixels ++ t) (wide-short (drop (6 * i) xs) (omega (arith, length-drop (6 * i) xs))) ∙ append-nil pixels) ∙ so_far

above : (a b : ℕ) → a < b → nat_lt a b ≡ true
above a b less = grind (arith, nat_tests)

not_above : (a b : ℕ) → b ≤ a → nat_lt a b ≡ false
not_above a b more = grind (arith, nat_tests)

pub pair-here : (xs : List ℕ) (maxval i s : ℕ) → i < length xs / 2 → s ≡ get_or xs (2 * i) 0 * 256 + get_or xs (2 * i + 1) 0 → maxval < s → ((k : ℕ) → k < i → nat_lt maxval (get_or (pairs_of xs) k 0) ≡ false) → Some i ≡ position (nat_lt maxval) (pairs_of xs)
pair-here xs maxval i s inside is more before =
    sym (position_at (nat_lt maxval) (pairs_of xs) i 0 (omega (arith, length-pairs_of xs)) (above maxval (get_or (pairs_of xs) i 0) (omega (arith, pair-at xs i inside))) before)

pub pair-more : (xs : List ℕ) (maxval i s : ℕ) → i < length xs / 2 → s ≡ get_or xs (2 * i) 0 * 256 + get_or xs (2 * i + 1) 0 → s ≤ maxval → ((k : ℕ) → k < i → nat_lt maxval (get_or (pairs_of xs) k 0) ≡ false) → (k : ℕ) → k < i + 1 → nat_lt maxval (get_or (pairs_of xs) k 0) ≡ false
pair-more xs maxval i s inside is small before = below_more _ _ before (not_above maxval (get_or (pairs_of xs) i 0) (omega (arith, pair-at xs i inside)))

pub pairs-none : (xs : List ℕ) (maxval i : ℕ) → length xs / 2 ≤ i → ((k : ℕ) → k < i → nat_lt maxval (get_or (pairs_of xs) k 0) ≡ false) → None ≡ position (nat_lt maxval) (pairs_of xs)
pairs-none xs maxval i past before = sym (position_none (nat_lt maxval) (pairs_of xs) 0 (λ k inside. before k (omega (arith, length-pairs_of xs))))

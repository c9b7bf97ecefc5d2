-- Texts that are written of one number after another.
use Rattle.std.proofs.Common.{◌≡◌, ℕ, zero, suc, ◌+◌, ◌-◌, ◌<◌, Bool, true, List, [], ◌∷◌, ◌++◌, length, take, get_or, filter, decimal, refl, ap, sym, ◌∙◌, append_assoc, append-nil, add-one, zero-add, arith}
use Rattle.std.proofs.lemmas.List.{length-take}
use Rattle.std.proofs.lemmas.Grind.{flat_map-append}
use Rattle.std.proofs.lemmas.List.{take_more}
use Rattle.std.proofs.lemmas.List.Elements.{filter-append}
use Rattle.std.specs.List.{flat_map, range_with_len}
use Rattle.wfc_lists.proofs.Ranges.{range_more}
use Rattle.wfc_render.specs.Numbers.{blank_numbers, spaced_numbers}

-- the numbers below one more
pub range_next : (n : ℕ) → range_with_len 0 (n + 1) ≡ range_with_len 0 n ++ n ∷ []
range_next n = ap (range_with_len 0) (add-one n) ∙ range_more 0 n ∙ ap (λ k. range_with_len 0 n ++ k ∷ []) (zero-add n)

-- one number more
pub flat_map-next : (f : ℕ → List ℕ) (n : ℕ) → flat_map f (range_with_len 0 (n + 1)) ≡ flat_map f (range_with_len 0 n) ++ f n
flat_map-next f n = ap (flat_map f) (range_next n) ∙ flat_map-append f (range_with_len 0 n) (n ∷ []) ∙ ap (λ t. flat_map f (range_with_len 0 n) ++ t) (append-nil (f n))

-- the numbers from one on, cut in two
range_cut : (a k n : ℕ) → range_with_len a (k + n) ≡ range_with_len a k ++ range_with_len (a + k) n
range_cut a zero n = let first : zero + n ≡ n = omega arith in let same : a + zero ≡ a = omega arith in ap (range_with_len a) first ∙ ap (λ b. range_with_len b n) (sym same)
range_cut a (suc k) n =
    let first : suc k + n ≡ suc (k + n) = omega arith in
    let same : a + 1 + k ≡ a + suc k = omega arith in
    ap (range_with_len a) first ∙ ap (λ xs. a ∷ xs) (range_cut (a + 1) k n ∙ ap (λ b. range_with_len (a + 1) k ++ range_with_len b n) same)

-- the texts of the numbers below one, of that one, and of those behind it
pub flat_map-around : (f : ℕ → List ℕ) (k n : ℕ) → k < n → flat_map f (range_with_len 0 n) ≡ flat_map f (range_with_len 0 k) ++ (f k ++ flat_map f (range_with_len (k + 1) (n - (k + 1))))
flat_map-around f k n below =
    let cut : n ≡ k + suc (n - (k + 1)) = omega arith in
    let from : 0 + k ≡ k = omega arith in
    ap (λ m. flat_map f (range_with_len 0 m)) cut
    ∙ ap (flat_map f) (range_cut 0 k (suc (n - (k + 1))))
    ∙ ap (λ b. flat_map f (range_with_len 0 k ++ range_with_len b (suc (n - (k + 1))))) from
    ∙ flat_map-append f (range_with_len 0 k) (range_with_len k (suc (n - (k + 1))))

blank_numbers-append : (xs ys : List ℕ) → blank_numbers (xs ++ ys) ≡ blank_numbers xs ++ blank_numbers ys
blank_numbers-append xs ys = flat_map-append (λ k. 0x20 ∷ decimal k) xs ys

-- the numbers that pass, one after another
pub blank_numbers-each : (p : ℕ → Bool) (xs : List ℕ) → flat_map (λ x. blank_numbers (filter p (x ∷ []))) xs ≡ blank_numbers (filter p xs)
blank_numbers-each p [] = refl
blank_numbers-each p (x ∷ xs) =
    ap (λ t. blank_numbers (filter p (x ∷ [])) ++ t) (blank_numbers-each p xs)
    ∙ sym (blank_numbers-append (filter p (x ∷ [])) (filter p xs))
    ∙ ap blank_numbers (sym (filter-append p (x ∷ []) xs))

-- one number more of a list
pub blank_numbers-next : (xs : List ℕ) (i : ℕ) → i < length xs → blank_numbers (take (i + 1) xs) ≡ blank_numbers (take i xs) ++ 0x20 ∷ decimal (get_or xs i 0)
blank_numbers-next xs i inside =
    ap blank_numbers (take_more xs i 0 inside)
    ∙ blank_numbers-append (take i xs) (get_or xs i 0 ∷ [])
    ∙ ap (λ ys. blank_numbers (take i xs) ++ ys) (append-nil (0x20 ∷ decimal (get_or xs i 0)))

spaced_numbers-push : (numbers : List ℕ) (n : ℕ) → 0 < length numbers → spaced_numbers (numbers ++ n ∷ []) ≡ spaced_numbers numbers ++ 0x20 ∷ decimal n
spaced_numbers-push [] n some = absurd (omega arith)
spaced_numbers-push (m ∷ numbers) n some =
    ap (λ t. decimal m ++ t) (blank_numbers-append numbers (n ∷ []) ∙ ap (λ t. blank_numbers numbers ++ t) (append-nil (0x20 ∷ decimal n)))
    ∙ sym (append_assoc (decimal m) (blank_numbers numbers) (0x20 ∷ decimal n))

-- and of one that is spaced
pub spaced_numbers-next : (xs : List ℕ) (i : ℕ) → 0 < i → i < length xs → spaced_numbers (take (i + 1) xs) ≡ spaced_numbers (take i xs) ++ 0x20 ∷ decimal (get_or xs i 0)
spaced_numbers-next xs i some inside =
    ap spaced_numbers (take_more xs i 0 inside)
    ∙ spaced_numbers-push (take i xs) (get_or xs i 0) (omega (arith, length-take i xs))

-- of a value that passes its number is written
pub blank_numbers-one : (p : ℕ → Bool) (n : ℕ) → p n ≡ true → blank_numbers (filter p (n ∷ [])) ≡ 0x20 ∷ decimal n
blank_numbers-one p n passes =
    let one : filter p (n ∷ []) ≡ n ∷ [] = rw passes refl in
    ap blank_numbers one ∙ append-nil (0x20 ∷ decimal n)

-- behind a text and the texts of the numbers below one, that of the one is written
pub written_next : (f : ℕ → List ℕ) (k : ℕ) (start text new : List ℕ) → text ≡ start ++ flat_map f (range_with_len 0 k) → new ≡ text ++ f k → new ≡ start ++ flat_map f (range_with_len 0 (k + 1))
written_next f k start text new before one =
    one ∙ ap (λ t. t ++ f k) before
    ∙ append_assoc start (flat_map f (range_with_len 0 k)) (f k)
    ∙ ap (λ t. start ++ t) (sym (flat_map-next f k))

-- Digits, one by one.
use Rattle.std.proofs.Common.{◌≡◌, ℕ, ◌+◌, ◌*◌, ◌^◌, ◌<◌, ◌≤◌, List, length, get_or, take, Ok, zero, suc, [], ◌∷◌, ◌++◌, replicate, refl, ap, ◌∙◌, length-append, arith, decimal, true}
use Rattle.std.proofs.lemmas.Int.Digits.{digits_value_more}
use Rattle.std.proofs.lemmas.Str.Parse.{digits_value-take-le, digit_at}
use Rattle.std.proofs.lemmas.Fmt.{decimal_is_IsNumeral}
use Rattle.std.proofs.lemmas.List.{get_or_default, length-replicate, get_or-replicate}
use Rattle.std.proofs.lemmas.List.Elements.{All-append}
use Rattle.std.specs.Int.{IsInRange}
use Rattle.std.proofs.lemmas.Bool.Decides.{nat_tests}
use Rattle.std.specs.Char.{digit_value, is_ascii_digit}
use Rattle.std.specs.List.{AllPass}
use Rattle.std.specs.Str.Parse.{digits_value, AllDigits}
use Rattle.wfc_text.specs.Number.{number_of, within, unless_at}
use Rattle.wfc_text.proofs.PassLemmas.{none_found}

-- where the first digits write too much, all of them do
pub too_much : (ds : List ℕ) (i n bound : ℕ) → i < length ds → n ≡ digits_value 10 (take i ds) → (n * 10 + digit_value (get_or ds i 0) < bound → ⊥) → digits_value 10 ds < bound → ⊥
too_much ds i n bound inside is above below =
    above (omega (arith, digits_value_more 10 ds i inside, digits_value-take-le 10 ds (i + 1) (omega arith)))

-- a number within the range is answered
within-in : (n least most : ℕ) → least ≤ n → n ≤ most → within n least most ≡ Ok n
within-in n least most low high = grind (arith, nat_tests)

-- digits alone write their value
pub number_of-digits : (text : List ℕ) (least most : ℕ) → 0 < length text → AllPass is_ascii_digit text → least ≤ digits_value 10 text → digits_value 10 text ≤ most → number_of text least most ≡ Ok (digits_value 10 text)
number_of-digits [] least most some digits low high = absurd (omega arith)
number_of-digits (b ∷ bs) least most some digits low high = ap (λ at. unless_at at (within (digits_value 10 (b ∷ bs)) least most)) (none_found is_ascii_digit (b ∷ bs) digits) ∙ within-in _ least most low high

-- a byte in the digits' range passes the test
in_digits : (b : ℕ) → IsInRange 48 57 b → is_ascii_digit b ≡ true
in_digits b range = grind (arith, nat_tests)

-- bytes in the digits' range pass the test of a digit
digits_pass : (text : List ℕ) → AllDigits 10 text → AllPass is_ascii_digit text
digits_pass text digits k d inside = let range = digit_at text k digits inside in rw (get_or_default text k d 0 inside) (in_digits _ range)

-- zeros before a number change nothing
zeros_value : (zeros : ℕ) (text : List ℕ) → digits_value 10 (replicate zeros 48 ++ text) ≡ digits_value 10 text
zeros_value zero text = refl
zeros_value (suc zeros) text = zeros_value zeros text

zeros_pass : (zeros : ℕ) → AllPass is_ascii_digit (replicate zeros 48)
zeros_pass zeros k d inside = let below : k < zeros = omega (arith, length-replicate {A = ℕ} zeros 48) in rw (get_or-replicate zeros k 48 d below) refl

-- a number in decimal, with zeros before it, is read
pub number_of-decimal : (zeros n least most : ℕ) → n < 2 ^ 64 → least ≤ n → n ≤ most → number_of (replicate zeros 48 ++ decimal n) least most ≡ Ok n
number_of-decimal zeros n least most fits low high =
    let own = decimal_is_IsNumeral n fits in
    let value : digits_value 10 (replicate zeros 48 ++ decimal n) ≡ n = zeros_value zeros (decimal n) ∙ own.1 in
    number_of-digits (replicate zeros 48 ++ decimal n) least most (omega (arith, length-append (replicate zeros 48) (decimal n), own.0.0))
    (All-append (λ b. is_ascii_digit b ≡ true) (replicate zeros 48) (decimal n) (zeros_pass zeros) (digits_pass (decimal n) own.0.1)) (omega (arith, value)) (omega (arith, value))
    ∙ ap Ok value

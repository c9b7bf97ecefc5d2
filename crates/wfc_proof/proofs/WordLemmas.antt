-- Words between blanks, and the numbers that are their decimal text.
use Rattle.std.proofs.Common.{◌≡◌, ℕ, zero, suc, ◌+◌, ◌^◌, ◌<◌, ◌≤◌, Bool, true, false, ◌&&◌, cond, nat_le, List, [], ◌∷◌, length, get_or, take, drop, position, decimal, Option, None, Some, Result, Ok, Err, refl, sym, ap, ◌∙◌, subst, arith}
use Rattle.std.specs.Char.{is_ascii_digit, digit_value}
use Rattle.std.specs.Int.{IsInRange}
use Rattle.std.specs.List.{All, AllPass, slice_split, position_or_len}
use Rattle.std.specs.Result.{result_ok}
use Rattle.std.specs.Str.{bytes_eq}
use Rattle.std.specs.Str.Parse.{AllDigits, digits_value}
use Rattle.std.proofs.lemmas.Bool.{and_parts, and_from, ne_eqb, false≢true}
use Rattle.std.proofs.lemmas.Bool.Decides.{nat_tests}
use Rattle.std.proofs.lemmas.Fmt.{decimal_is_IsNumeral, decimal_digit, first_decimal, decimal-digits_value}
use Rattle.std.proofs.lemmas.List.{get_or_default}
use Rattle.std.proofs.lemmas.List.Quantifiers.{position-Some}
use Rattle.std.proofs.lemmas.List.Splits.{slice_split_none, slice_split_first, slice_split_at}
use Rattle.std.proofs.lemmas.List.Sums.{position_or_len_is}
use Rattle.std.proofs.lemmas.Slice.Eq.{bytes_eq-Decides}
use Rattle.std.proofs.lemmas.Str.Parse.{IsNumeralModel, digit_at}
use Rattle.wfc_lists.proofs.Positions.{position_fails}
use Rattle.wfc_text.specs.Number.{is_other, number_of, within, unless_at}
use Rattle.wfc_text.specs.declared.numeral.NumberFault.{NumberFault}
use Rattle.wfc_text.proofs.NumberLemmas.{number_of-decimal}
use Rattle.wfc_text.proofs.PassLemmas.{all_pass}
use Rattle.wfc_proof.specs.Words.{is_blank_byte, spaced_words, with_spaces, decimal_within, has_zero_first}

-- ---- words

-- the first word ends at the first blank
pub first_word : (line : List ℕ) (k : ℕ) → position is_blank_byte line ≡ Some k → spaced_words line ≡ take k line ∷ spaced_words (drop (k + 1) line)
first_word line k found =
    let at = position-Some is_blank_byte line k 0 found in
    let place : position_or_len is_blank_byte line ≡ k = position_or_len_is is_blank_byte line k 0 (omega (arith, at.0)) at.2 (λ _. at.1) in
    subst (λ n. slice_split is_blank_byte line ≡ take n line ∷ slice_split is_blank_byte (drop (n + 1) line)) place (slice_split_first is_blank_byte line 0 (omega (arith, at.0, place)))

-- where there is no blank, the line is one word
pub only_word : (line : List ℕ) → position is_blank_byte line ≡ None → spaced_words line ≡ line ∷ []
only_word line none = slice_split_none is_blank_byte line (λ k d inside. position_fails is_blank_byte line none k d inside)

-- words without blanks
abbrev pub AreSpaceless : List (List ℕ) → Type 0
AreSpaceless [] = Unit {0}
AreSpaceless (word ∷ words) = All (λ b. is_blank_byte b ≡ false) word × AreSpaceless words

-- words without blanks, joined by blanks, are the words of the line
pub spaced_back : (word : List ℕ) (words : List (List ℕ)) → AreSpaceless (word ∷ words) → spaced_words (with_spaces (word ∷ words)) ≡ word ∷ words
spaced_back word [] spaceless = slice_split_none is_blank_byte word spaceless.0
spaced_back word (next ∷ words) spaceless =
    slice_split_at is_blank_byte word 32 (with_spaces (next ∷ words)) spaceless.0 refl
    ∙ ap (λ xs. word ∷ xs) (spaced_back next words spaceless.1)

-- ---- numbers

-- a digit is no blank
no_space : (b : ℕ) → IsInRange 48 57 b → is_blank_byte b ≡ false
no_space b range = ne_eqb b 32 (λ same. omega (arith, range.0, range.1, same))

-- the decimal text of a number has no blank
pub decimal_spaceless : (n : ℕ) → n < 2 ^ 64 → All (λ b. is_blank_byte b ≡ false) (decimal n)
decimal_spaceless n fits k d inside =
    rw (get_or_default (decimal n) k d 0 inside) (no_space _ (digit_at (decimal n) k (decimal_is_IsNumeral n fits).0.1 inside))

-- whether the word is the decimal text of a number within the bound
abbrev is_decimal : ℕ → List ℕ → Bool
is_decimal most word = nat_le (digits_value 10 word) most && bytes_eq word (decimal (digits_value 10 word))

-- what the test decides
tested : (most : ℕ) (word : List ℕ) (b : Bool) → is_decimal most word ≡ b → decimal_within most word ≡ cond b (Some (digits_value 10 word)) None
tested most word b e = ap (λ t. cond t (Some (digits_value 10 word)) None) e

at_most : (n most : ℕ) → nat_le n most ≡ true → n ≤ most
at_most n most e = grind (arith, nat_tests)

is_at_most : (n most : ℕ) → n ≤ most → nat_le n most ≡ true
is_at_most n most e = grind (arith, nat_tests)

-- a word that passes is the decimal text of its value, which is within the bound
passed : (most : ℕ) (word : List ℕ) → is_decimal most word ≡ true → (word ≡ decimal (digits_value 10 word)) × (digits_value 10 word ≤ most)
passed most word e =
    let parts = and_parts (nat_le (digits_value 10 word) most) (bytes_eq word (decimal (digits_value 10 word))) e in
    ((bytes_eq-Decides word (decimal (digits_value 10 word))).0 parts.1, at_most _ most parts.0)

-- and such a word passes
passes : (most : ℕ) (word : List ℕ) → word ≡ decimal (digits_value 10 word) → digits_value 10 word ≤ most → is_decimal most word ≡ true
passes most word text low = and_from _ _ (is_at_most _ most low) ((bytes_eq-Decides word (decimal (digits_value 10 word))).1 text)

-- the decimal text of a number is read as it
pub decimal_within-decimal : (most n : ℕ) → most < 2 ^ 64 → n ≤ most → decimal_within most (decimal n) ≡ Some n
decimal_within-decimal most n bound low =
    let value : digits_value 10 (decimal n) ≡ n = (decimal_is_IsNumeral n (omega arith)).1 in
    tested most (decimal n) true (passes most (decimal n) (ap decimal (sym value)) (omega (arith, value))) ∙ ap (λ (m : ℕ). Some m) value

-- and what is read as a number is its decimal text
pub decimal_within-some : (most : ℕ) (word : List ℕ) (n : ℕ) → decimal_within most word ≡ Some n → (word ≡ decimal n) × (n ≤ most)
decimal_within-some most word n read = by (is_decimal most word) refl
  where
    by : (b : Bool) → is_decimal most word ≡ b → (word ≡ decimal n) × (n ≤ most)
    by true e =
        let value : Some (digits_value 10 word) ≡ Some n = sym (tested most word true e) ∙ read in
        let same : digits_value 10 word ≡ n = cc in
        subst (λ m. (word ≡ decimal m) × (m ≤ most)) same (passed most word e)
    by false e = let none : None ≡ Some n = sym (tested most word false e) ∙ read in cc

-- no decimal text has a zero in front of other digits
above_zero : (ds : List ℕ) → 48 < get_or ds 0 0 → has_zero_first ds ≡ false
above_zero [] above = refl
above_zero (d ∷ []) above = refl
above_zero (d ∷ e ∷ ds) above = ne_eqb d 48 (λ same. omega arith)

zeroless : (n : ℕ) → n < 2 ^ 64 → has_zero_first (decimal n) ≡ false
zeroless zero fits = ap has_zero_first (decimal_digit 0 (omega arith))
zeroless (suc n) fits = above_zero (decimal (suc n)) (first_decimal (suc n) (omega arith) fits)

-- a word with a zero in front of other digits is no number
pub zero_first-none : (most : ℕ) (word : List ℕ) → most < 2 ^ 64 → has_zero_first word ≡ true → decimal_within most word ≡ None
zero_first-none most word bound zeros = by (is_decimal most word) refl
  where
    by : (b : Bool) → is_decimal most word ≡ b → decimal_within most word ≡ None
    by true e =
        let is = passed most word e in
        absurd (false≢true (sym (zeroless (digits_value 10 word) (omega (arith, is.1))) ∙ ap has_zero_first (sym is.0) ∙ zeros))
    by false e = tested most word false e

-- bytes that pass the test of a digit are digits
digit : (b : ℕ) → is_ascii_digit b ≡ true → digit_value b < 10
digit b is = grind (arith, nat_tests)

pass_digits : (word : List ℕ) → AllPass is_ascii_digit word → AllDigits 10 word
pass_digits [] pass = record {}
pass_digits (b ∷ bs) pass = (digit b (pass 0 0 (omega arith)), pass_digits bs (λ k d inside. pass (suc k) d (omega arith)))

-- digits as they are
own : IsNumeralModel (AllDigits 10) (digits_value 10)
own = record { to = λ ds h. h; from = λ ds h. h; same = λ ds h. refl }

-- a lone zero, or no zero first
lone_zero : (word : List ℕ) → has_zero_first word ≡ false → 0 < length word → get_or word 0 0 ≡ 48 → length word ≡ 1
lone_zero [] zeros some is = absurd (omega arith)
lone_zero (d ∷ []) zeros some is = refl
lone_zero (d ∷ e ∷ ds) zeros some is = absurd (false≢true (sym zeros ∙ grind (arith, nat_tests)))

-- what is read with any zeros before it: a word of digits within the bound
record IsRead (word : List ℕ) (most n : ℕ) : Type 0 where
  some : 0 < length word
  digits : AllDigits 10 word
  low : digits_value 10 word ≤ most

read_parts : (word : List ℕ) (most n : ℕ) → number_of word 0 most ≡ Ok n → IsRead word most n
read_parts [] most n read = cc
read_parts (b ∷ bs) most n read = at (position is_other (b ∷ bs)) refl read
  where
    at : (o : Option ℕ) → position is_other (b ∷ bs) ≡ o → unless_at o (within (digits_value 10 (b ∷ bs)) 0 most) ≡ Ok n → IsRead (b ∷ bs) most n
    at (Some k) e is = cc
    at None e is = record { some = omega arith; digits = pass_digits (b ∷ bs) (all_pass is_ascii_digit (b ∷ bs) e); low = low (digits_value 10 (b ∷ bs)) is }
      where
        low : (v : ℕ) → within v 0 most ≡ Ok n → v ≤ most
        low v is = grind (arith, nat_tests)

-- where no zero stands first, it is the number that may have zeros before it
pub decimal_within-read : (most : ℕ) (word : List ℕ) → most < 2 ^ 64 → has_zero_first word ≡ false → decimal_within most word ≡ result_ok (number_of word 0 most)
decimal_within-read most word bound zeros = by (is_decimal most word) refl
  where
    by : (b : Bool) → is_decimal most word ≡ b → decimal_within most word ≡ result_ok (number_of word 0 most)
    by true e =
        let is = passed most word e in
        let read : number_of word 0 most ≡ Ok (digits_value 10 word) = ap (λ w. number_of w 0 most) is.0 ∙ number_of-decimal 0 (digits_value 10 word) 0 most (omega (arith, is.1)) (omega arith) is.1 in
        tested most word true e ∙ ap result_ok (sym read)
    by false e = tested most word false e ∙ none (number_of word 0 most) refl
      where
        none : (o : Result ℕ NumberFault) → number_of word 0 most ≡ o → None ≡ result_ok o
        none (Err fault) is = refl
        none (Ok n) is =
            let r = read_parts word most n is in
            let text : decimal (digits_value 10 word) ≡ word = decimal-digits_value own word r.digits r.some (lone_zero word zeros r.some) (omega (arith, r.low)) in
            absurd (false≢true (sym e ∙ passes most word (sym text) r.low))

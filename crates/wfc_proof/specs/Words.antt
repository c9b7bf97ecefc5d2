-- Words between single blanks, and the numbers that they write.
use Rattle.std.specs.Prelude.{ℕ, ◌==◌, ◌&&◌, nat_le, Bool, false, List, ◌∷◌, decimal, Option, None, Some, if◌then◌else◌}
use Rattle.std.specs.List.{slice_split, join_with_byte}
use Rattle.std.specs.Str.{bytes_eq}
use Rattle.std.specs.Str.Parse.{digits_value}

-- whether a byte is the blank
abbrev pub is_blank_byte : ℕ → Bool
is_blank_byte byte = byte == 32

-- the words of a line: what stands between its blanks, which may be nothing
abbrev pub spaced_words : List ℕ → List (List ℕ)
spaced_words line = slice_split is_blank_byte line

-- words with one blank between each two
abbrev pub with_spaces : List (List ℕ) → List ℕ
with_spaces words = join_with_byte 32 words

-- the number whose decimal text the word is, if it is at most `most`
abbrev pub decimal_within : ℕ → List ℕ → Option ℕ
decimal_within most word =
    if nat_le (digits_value 10 word) most
    && bytes_eq word (decimal (digits_value 10 word)) then Some (digits_value 10 word) else None

-- whether a word has a zero in front of other digits
abbrev pub has_zero_first : List ℕ → Bool
has_zero_first (digit ∷ next ∷ digits) = digit == 48
has_zero_first _ = false

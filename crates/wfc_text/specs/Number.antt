-- Numbers that a text writes in decimal digits.
use Rattle.std.specs.Prelude.{ℕ, Bool, not, ◌&&◌, nat_le, List, [], ◌∷◌, position, Option, None, Some, Result, Ok, Err, if◌then◌else◌}
use Rattle.std.specs.Char.{is_ascii_digit}
use Rattle.std.specs.Str.Parse.{digits_value}
use Rattle.wfc_text.specs.declared.numeral.NumberFault.{NumberFault}
use Rattle.wfc_text.specs.declared.numeral.NumberFault.TheVariants.{Empty, NotDigit, OutOfRange}

-- whether a byte is no decimal digit
abbrev pub is_other : ℕ → Bool
is_other byte = not (is_ascii_digit byte)

-- the number, if it is within the range
abbrev pub within : ℕ → ℕ → ℕ → Result ℕ NumberFault
within n least most = if nat_le least n && nat_le n most then Ok n else Err OutOfRange

-- the answer, if no byte is at fault
abbrev pub unless_at : Option ℕ → Result ℕ NumberFault → Result ℕ NumberFault
unless_at None answer = answer
unless_at (Some at) answer = Err (NotDigit at)

-- the number that the text writes in decimal, or its fault: no byte at all, the first byte that is
-- no digit, or a number outside the range
abbrev pub number_of : List ℕ → ℕ → ℕ → Result ℕ NumberFault
number_of [] least most = Err Empty
number_of (byte ∷ bytes) least most =
    unless_at (position is_other (byte ∷ bytes)) (within (digits_value 10 (byte ∷ bytes)) least most)

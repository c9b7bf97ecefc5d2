-- The parts of a picture's text: whitespace and comments, and the numbers behind them.
use Rattle.std.specs.Prelude.{ℕ, ◌-◌, ◌==◌, Bool, true, false, not, ◌||◌, min, List, [], ◌∷◌, length, take, drop}
use Rattle.std.specs.Prelude.{Option, None, Some, if◌then◌else◌}
use Rattle.std.specs.List.{position_or_len}
use Rattle.std.specs.Str.Parse.{digits_value}
use Rattle.wfc_text.specs.Number.{is_other}

-- whether a byte is a blank, a tabulator, a carriage return or a line feed
abbrev pub is_space : ℕ → Bool
is_space byte = (byte == 32) || (byte == 9) || (byte == 13) || (byte == 10)

-- whether a byte ends a comment: a line feed and a carriage return do
abbrev pub ends_comment : ℕ → Bool
ends_comment byte = (byte == 10) || (byte == 13)

-- whether a comment is open behind a byte, by whether one was before it; none where the byte is no
-- whitespace and no comment's
abbrev pub comment_behind : Bool → ℕ → Option Bool
comment_behind true byte = Some (not (ends_comment byte))
comment_behind false byte = if is_space byte then Some false else if byte == 35 then Some true else None

-- where whitespace and comments end: what stands there, and whether the text's end cuts a comment
pub record SpaceEnd : Type 0 where
  pub rest : List ℕ
  pub cut : Bool

-- to end here, or to go on behind a byte of whitespace or of a comment
abbrev pub stop_at : Option Bool → List ℕ → (Bool → SpaceEnd) → SpaceEnd
stop_at None here next = record { rest = here; cut = false }
stop_at (Some opened) here next = next opened

-- where the whitespace and the comments at a text's front end, by whether a comment is open there
abbrev pub stop_of : Bool → List ℕ → SpaceEnd
stop_of opened [] = record { rest = []; cut = opened }
stop_of opened (byte ∷ text) = stop_at (comment_behind opened byte) (byte ∷ text) (λ next. stop_of next text)

-- what stands behind the whitespace and the comments
abbrev pub start_of : List ℕ → List ℕ
start_of text = (stop_of false text).rest

-- the digits at the front
abbrev pub digits_of : List ℕ → List ℕ
digits_of text = take (position_or_len is_other text) text

-- what stands behind them
abbrev pub behind_digits : List ℕ → List ℕ
behind_digits text = drop (position_or_len is_other text) text

-- the number that digits write; one past 32 bits is taken as the greatest of 32 bits
abbrev pub value_of : List ℕ → ℕ
value_of digits = min (digits_value 10 digits) 4294967295

-- the number behind whitespace and comments
abbrev pub field_value : List ℕ → ℕ
field_value text = value_of (digits_of (start_of text))

-- what stands behind that number
abbrev pub behind_field : List ℕ → List ℕ
behind_field text = behind_digits (start_of text)

-- the place of a rest in a text of so many bytes
abbrev pub place_of : ℕ → List ℕ → ℕ
place_of total rest = total - length rest

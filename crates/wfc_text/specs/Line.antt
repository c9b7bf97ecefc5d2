-- The lines of a text. A line ends with a line feed, before which a carriage return may stand; the
-- last line may lack its end.
use Rattle.std.specs.Prelude.{ℕ, ◌+◌, ◌==◌, Bool, true, false, List, [], ◌∷◌}
use Rattle.std.specs.List.{slice_split}
use Rattle.std.specs.Str.Lines.{strip_carriage_return}

-- a line: its number, its bytes without its end, and whether it has an end
pub record LineView : Type 0 where
  pub number : ℕ
  pub bytes : List ℕ
  pub ended : Bool

-- a line that has an end
abbrev pub ended_line : ℕ → List ℕ → LineView
ended_line number bytes = record { number = number; bytes = bytes; ended = true }

-- whether a byte is the line feed
abbrev pub is_line_feed : ℕ → Bool
is_line_feed byte = byte == 10

-- what stands behind the last line feed: a line without its end, and no line where it is empty
abbrev pub last_line : ℕ → List ℕ → List LineView
last_line n [] = []
last_line n (byte ∷ part) = record { number = n; bytes = byte ∷ part; ended = false } ∷ []

-- the lines made of the parts between line feeds, numbered from n; all parts but the last are lines with their end
abbrev pub lines_of_parts : ℕ → List (List ℕ) → List LineView
lines_of_parts n [] = []
lines_of_parts n (part ∷ []) = last_line n part
lines_of_parts n (part ∷ next ∷ parts) =
    record { number = n; bytes = strip_carriage_return part; ended = true }
    ∷ lines_of_parts (n + 1) (next ∷ parts)

-- the lines of a text, numbered from n
abbrev pub lines_from : ℕ → List ℕ → List LineView
lines_from n text = lines_of_parts n (slice_split is_line_feed text)

-- the lines of a text, numbered from 1
abbrev pub lines_of : List ℕ → List LineView
lines_of text = lines_from 1 text

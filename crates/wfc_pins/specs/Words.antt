-- The words of a line, and the lines that are passed over.
use Rattle.std.specs.Prelude.{ℕ, ◌-◌, ◌^◌, ◌==◌, ◌||◌, not, Bool, true, false, List, [], ◌∷◌, filter, Option}
use Rattle.std.specs.List.{slice_split}
use Rattle.std.specs.Result.{result_ok}
use Rattle.wfc_text.specs.Line.{LineView, lines_of}
use Rattle.wfc_text.specs.Number.{number_of}

-- whether a byte parts words: a blank or a TAB does
abbrev pub is_blank : ℕ → Bool
is_blank byte = byte == 32 || byte == 9

-- whether there is none
abbrev pub is_empty : {X : Type 0} → List X → Bool
is_empty [] = true
is_empty (x ∷ xs) = false

-- the words of a line: what stands between blanks, where there is something
abbrev pub words_of : List ℕ → List (List ℕ)
words_of line = filter (λ part. not (is_empty part)) (slice_split is_blank line)

-- whether the first byte is a hash
abbrev pub is_comment : List ℕ → Bool
is_comment [] = false
is_comment (byte ∷ bytes) = byte == 35

-- whether a line is passed over: its first byte is a hash, or it has no word
abbrev pub is_skipped : List ℕ → Bool
is_skipped line = is_comment line || is_empty (words_of line)

-- the lines that aren't passed over
abbrev pub read_among : List LineView → List LineView
read_among lines = filter (λ (line : LineView). not (is_skipped line.bytes)) lines

-- those of a text
abbrev pub read_lines : List ℕ → List LineView
read_lines text = read_among (lines_of text)

-- the number that a word writes in decimal, if it is at most 4,294,967,295
abbrev pub number32 : List ℕ → Option ℕ
number32 word = result_ok (number_of word 0 (2 ^ 32 - 1))

-- and if it is at most 65,535
abbrev pub number16 : List ℕ → Option ℕ
number16 word = result_ok (number_of word 0 (2 ^ 16 - 1))

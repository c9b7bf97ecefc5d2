-- Lines as words, in both formats, and the lines that words are.
use Rattle.std.specs.Prelude.{ℕ, ◌-◌, ◌^◌, ◌<◌, ◌≤◌, nat_le, List, [], ◌∷◌, codes, decimal, Option, None, Some, Result, if◌then◌else◌, ⊤}
use Rattle.std.specs.Option.{option_map, ok_or}
use Rattle.std.specs.Str.{bytes_eq}
use Rattle.wfc_proof.specs.Words.{spaced_words, with_spaces, decimal_within}
use Rattle.wfc_proof.specs.declared.Line.{Line}
use Rattle.wfc_proof.specs.declared.Line.TheVariants.{Remove, Span, Try, Empty, End, Found, Out}
use Rattle.wfc_proof.specs.declared.text.LineFault.{LineFault}
use Rattle.wfc_proof.specs.declared.text.LineFault.TheVariants.{BadLine}

-- the words of a line: a letter, and its numbers in decimal
abbrev pub line_words : Line → List (List ℕ)
line_words (Remove c v d) = codes "r" ∷ decimal c ∷ decimal v ∷ decimal d ∷ []
line_words (Span c first last d) = codes "r" ∷ decimal c ∷ decimal first ∷ decimal last ∷ decimal d ∷ []
line_words (Try c v) = codes "t" ∷ decimal c ∷ decimal v ∷ []
line_words (Empty c) = codes "x" ∷ decimal c ∷ []
line_words End = codes "q" ∷ []
line_words Found = codes "s" ∷ []
line_words Out = codes "o" ∷ []

-- the text of a line, without its end
abbrev pub line_text : Line → List ℕ
line_text line = with_spaces (line_words line)

-- a line that both formats have, its numbers within the limits
abbrev pub IsOfBoth : Line → Type 0
IsOfBoth (Remove c v d) = ⊥
IsOfBoth (Span c first last d) = ⊥
IsOfBoth (Try c v) = (c < 2 ^ 32) × (v < 2 ^ 16)
IsOfBoth (Empty c) = c < 2 ^ 32
IsOfBoth End = ⊤
IsOfBoth Found = ⊤
IsOfBoth Out = ⊤

-- a line of format 1, its numbers within the limits: a removal is of one value
abbrev pub IsOfFormat1 : Line → Type 0
IsOfFormat1 (Remove c v d) = (c < 2 ^ 32) × (v < 2 ^ 16) × (d < 2 ^ 8)
IsOfFormat1 (Span c first last d) = ⊥
IsOfFormat1 (Try c v) = IsOfBoth (Try c v)
IsOfFormat1 (Empty c) = IsOfBoth (Empty c)
IsOfFormat1 End = ⊤
IsOfFormat1 Found = ⊤
IsOfFormat1 Out = ⊤

-- a line of format 2, its numbers within the limits: a removal is of the values from one to another
abbrev pub IsOfFormat2 : Line → Type 0
IsOfFormat2 (Remove c v d) = ⊥
IsOfFormat2 (Span c first last d) = (c < 2 ^ 32) × (first ≤ last) × (last < 2 ^ 16) × (d < 2 ^ 8)
IsOfFormat2 (Try c v) = IsOfBoth (Try c v)
IsOfFormat2 (Empty c) = IsOfBoth (Empty c)
IsOfFormat2 End = ⊤
IsOfFormat2 Found = ⊤
IsOfFormat2 Out = ⊤

-- the cell that a word writes
abbrev pub cell_word : List ℕ → Option ℕ
cell_word word = decimal_within (2 ^ 32 - 1) word

-- the value that a word writes
abbrev pub value_word : List ℕ → Option ℕ
value_word word = decimal_within (2 ^ 16 - 1) word

-- the direction that a word writes
abbrev pub dir_word : List ℕ → Option ℕ
dir_word word = decimal_within (2 ^ 8 - 1) word

-- the removal with these parts, if they are all there
abbrev pub removal : Option ℕ → Option ℕ → Option ℕ → Option Line
removal (Some c) (Some v) (Some d) = Some (Remove c v d)
removal _ _ _ = None

-- the span with these parts, if they are all there and it doesn't end before it begins
abbrev pub span : Option ℕ → Option ℕ → Option ℕ → Option ℕ → Option Line
span (Some c) (Some first) (Some last) (Some d) = if nat_le first last then Some (Span c first last d) else None
span _ _ _ _ = None

-- the trial with these parts, if they are both there
abbrev pub trial : Option ℕ → Option ℕ → Option Line
trial (Some c) (Some v) = Some (Try c v)
trial _ _ = None

-- the line that stands for a letter alone
abbrev pub line_of_mark : List ℕ → Option Line
line_of_mark word =
    if bytes_eq word (codes "q") then Some End
    else (if bytes_eq word (codes "s") then Some Found
    else (if bytes_eq word (codes "o") then Some Out
    else None))

-- the removal of one value that the words behind its letter are: a cell, a value and a direction
abbrev pub removal_of : List (List ℕ) → Option Line
removal_of (c ∷ v ∷ d ∷ []) = removal (cell_word c) (value_word v) (dir_word d)
removal_of _ = None

-- the removal of a span that the words behind its letter are: a cell, its first and last value, and a direction
abbrev pub span_of : List (List ℕ) → Option Line
span_of (c ∷ first ∷ last ∷ d ∷ []) = span (cell_word c) (value_word first) (value_word last) (dir_word d)
span_of _ = None

-- the trial that the words behind its letter are: a cell and a value
abbrev pub trial_of : List (List ℕ) → Option Line
trial_of (c ∷ v ∷ []) = trial (cell_word c) (value_word v)
trial_of _ = None

-- the line of an empty cell that the word behind its letter is
abbrev pub empty_of : List (List ℕ) → Option Line
empty_of (c ∷ []) = option_map Empty (cell_word c)
empty_of _ = None

-- the line that a letter stands for where no word follows it
abbrev pub mark_of : List ℕ → List (List ℕ) → Option Line
mark_of word [] = line_of_mark word
mark_of word (next ∷ words) = None

-- the line of a letter and the words behind it, where both formats have it
abbrev pub either_of : List ℕ → List (List ℕ) → Option Line
either_of word words =
    if bytes_eq word (codes "t") then trial_of words
    else (if bytes_eq word (codes "x") then empty_of words else mark_of word words)

-- the line of format 1 that words are
abbrev pub line_of_words : List (List ℕ) → Option Line
line_of_words [] = None
line_of_words (word ∷ words) = if bytes_eq word (codes "r") then removal_of words else either_of word words

-- the line of format 2 that words are
abbrev pub line_2_of_words : List (List ℕ) → Option Line
line_2_of_words [] = None
line_2_of_words (word ∷ words) = if bytes_eq word (codes "r") then span_of words else either_of word words

-- the line of format 1 that bytes spell
abbrev pub line_of : List ℕ → Result Line LineFault
line_of bytes = ok_or (line_of_words (spaced_words bytes)) BadLine

-- the line of format 2 that bytes spell
abbrev pub line_2_of : List ℕ → Result Line LineFault
line_2_of bytes = ok_or (line_2_of_words (spaced_words bytes)) BadLine

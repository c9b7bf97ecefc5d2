-- The heads of refutations, as lines, and what their lines say.
use Rattle.std.specs.Prelude.{ℕ, ◌-◌, ◌^◌, ◌<◌, ◌≤◌, Bool, true, false, List, [], ◌∷◌, ◌++◌, codes, decimal, Option}
use Rattle.std.specs.Prelude.{None, Some, Result, Ok, Err, if◌then◌else◌}
use Rattle.std.specs.Option.{ok_or}
use Rattle.std.specs.Str.{bytes_eq}
use Rattle.wfc_proof.specs.Words.{spaced_words, with_spaces, decimal_within}
use Rattle.wfc_proof.specs.declared.heads.Format.{Format}
use Rattle.wfc_proof.specs.declared.heads.Format.TheVariants.{One, Two}
use Rattle.wfc_proof.specs.declared.heads.HeadNumbers.{HeadNumbers}
use Rattle.wfc_proof.specs.declared.heads.Shape.{Shape}
use Rattle.wfc_proof.specs.declared.text.LineFault.{LineFault}
use Rattle.wfc_proof.specs.declared.text.LineFault.TheVariants.{BadLine}

-- a line with its end
abbrev pub with_line_end : List ℕ → List ℕ
with_line_end text = text ++ 10 ∷ []

-- the first line of a head
abbrev pub format_text : Format → List ℕ
format_text One = codes "wfc-refutation 1"
format_text Two = codes "wfc-refutation 2"

-- its second line: how many cells and values the problem has
abbrev pub numbers_words : ℕ → ℕ → List (List ℕ)
numbers_words cells values = codes "cells" ∷ decimal cells ∷ codes "values" ∷ decimal values ∷ []

-- the second line of a head, without its end
abbrev pub numbers_text : ℕ → ℕ → List ℕ
numbers_text cells values = with_spaces (numbers_words cells values)

-- a truth value as a number
abbrev pub bit : Bool → ℕ
bit true = 1
bit false = 0

-- the words of the third line of a head of format 2
abbrev pub shape_words : Shape → List (List ℕ)
shape_words shape =
    codes "for" ∷ decimal shape.n ∷ decimal shape.width ∷ decimal shape.height
    ∷ decimal shape.depth ∷ decimal shape.symmetry ∷ decimal (bit shape.wrap_in)
    ∷ decimal (bit shape.wrap_out) ∷ []

-- the third line of a head of format 2, without its end
abbrev pub shape_text : Shape → List ℕ
shape_text shape = with_spaces (shape_words shape)

-- the head of format 1
abbrev pub head_text : ℕ → ℕ → List ℕ
head_text cells values = with_line_end (format_text One) ++ with_line_end (numbers_text cells values)

-- the head of format 2
abbrev pub head_2_text : Shape → ℕ → ℕ → List ℕ
head_2_text shape cells values =
    with_line_end (format_text Two) ++ (with_line_end (numbers_text cells values) ++ with_line_end (shape_text shape))

-- numbers of a head within their limit
abbrev pub AreHeadNumbers : HeadNumbers → Type 0
AreHeadNumbers numbers = (numbers.cells < 2 ^ 32) × (numbers.values < 2 ^ 32)

-- a shape within its limits
pub record IsShape (shape : Shape) : Type 0 where
  pub n : shape.n ≤ 6
  pub width : shape.width < 2 ^ 32
  pub height : shape.height < 2 ^ 32
  pub depth : shape.depth < 2 ^ 32
  pub symmetry : shape.symmetry < 2 ^ 8

-- the format that a first line names
abbrev pub format_of : List ℕ → Result Format LineFault
format_of bytes =
    if bytes_eq bytes (format_text One) then Ok One
    else (if bytes_eq bytes (format_text Two) then Ok Two else Err BadLine)

-- the number that a word of a head writes
abbrev pub head_word : List ℕ → Option ℕ
head_word word = decimal_within (2 ^ 32 - 1) word

-- the numbers with these parts, if they are both there
abbrev pub numbers_with : Option ℕ → Option ℕ → Option HeadNumbers
numbers_with (Some cells) (Some values) = Some (record { cells = cells; values = values })
numbers_with _ _ = None

-- the numbers that the words of a second line say
abbrev pub numbers_of_words : List (List ℕ) → Option HeadNumbers
numbers_of_words (cells ∷ c ∷ values ∷ v ∷ []) =
    if bytes_eq cells (codes "cells")
    then (if bytes_eq values (codes "values") then numbers_with (head_word c) (head_word v) else None)
    else None
numbers_of_words _ = None

-- the numbers that a second line says
abbrev pub head_numbers : List ℕ → Result HeadNumbers LineFault
head_numbers bytes = ok_or (numbers_of_words (spaced_words bytes)) BadLine

-- the truth value that a word writes
abbrev pub bit_word : List ℕ → Option Bool
bit_word word =
    if bytes_eq word (codes "1") then Some true
    else (if bytes_eq word (codes "0") then Some false else None)

-- the shape with these parts, if they are all there
abbrev pub shape_with : Option ℕ → Option ℕ → Option ℕ → Option ℕ → Option ℕ → Option Bool → Option Bool → Option Shape
shape_with (Some n) (Some width) (Some height) (Some depth) (Some symmetry) (Some wrap_in) (Some wrap_out) =
    Some (record { n = n; width = width; height = height; depth = depth; symmetry = symmetry; wrap_in = wrap_in; wrap_out = wrap_out })
shape_with _ _ _ _ _ _ _ = None

-- the shape that these seven words write
abbrev pub shape_in : List ℕ → List ℕ → List ℕ → List ℕ → List ℕ → List ℕ → List ℕ → Option Shape
shape_in n w h d s i o =
    shape_with (decimal_within 6 n) (head_word w) (head_word h) (head_word d)
    (decimal_within (2 ^ 8 - 1) s) (bit_word i) (bit_word o)

-- the shape that the words of a third line say
abbrev pub shape_of_words : List (List ℕ) → Option Shape
shape_of_words (word ∷ n ∷ w ∷ h ∷ d ∷ s ∷ i ∷ o ∷ []) =
    if bytes_eq word (codes "for") then shape_in n w h d s i o else None
shape_of_words _ = None

-- the shape that a third line says
abbrev pub shape_of : List ℕ → Result Shape LineFault
shape_of bytes = ok_or (shape_of_words (spaced_words bytes)) BadLine

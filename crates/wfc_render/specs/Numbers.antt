-- Numbers in a text.
use Rattle.std.specs.Prelude.{ℕ, List, [], ◌∷◌, ◌++◌, decimal, flat_map}

-- each number with a blank before it
abbrev pub blank_numbers : List ℕ → List ℕ
blank_numbers numbers = flat_map (λ n. 0x20 ∷ decimal n) numbers

-- the numbers with one blank between each two
abbrev pub spaced_numbers : List ℕ → List ℕ
spaced_numbers [] = []
spaced_numbers (n ∷ numbers) = decimal n ++ blank_numbers numbers

-- a line of a word and a number
abbrev pub head_line : List ℕ → ℕ → List ℕ
head_line word n = word ++ 0x20 ∷ (decimal n ++ 10 ∷ [])

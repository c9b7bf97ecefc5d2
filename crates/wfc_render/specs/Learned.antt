-- The text of what was learned from a sample.
use Rattle.std.specs.Prelude.{ℕ, List, [], ◌∷◌, ◌++◌, length, codes, decimal, flat_map}
use Rattle.std.specs.List.{range_with_len}
use Rattle.wfc_pattern.specs.Patterns.{PatternsView, window_at, weight_at}
use Rattle.wfc_picture.specs.Symbol.{symbol_text}
use Rattle.wfc_picture.specs.declared.symbol.Symbol.{Symbol}
use Rattle.wfc_render.specs.Map.{symbol_at}
use Rattle.wfc_render.specs.Numbers.{blank_numbers, head_line}

-- a colour: its number and its symbol
abbrev pub colour_line : List Symbol → ℕ → List ℕ
colour_line palette k = decimal k ++ 0x20 ∷ (symbol_text (symbol_at palette k) ++ 10 ∷ [])

-- a pattern: its number, its weight, and the numbers of its window row by row
abbrev pub pattern_line : PatternsView → ℕ → List ℕ
pattern_line patterns p = decimal p ++ 0x20 ∷ (decimal (weight_at patterns p) ++ 0x3A ∷ (blank_numbers (window_at patterns p) ++ 10 ∷ []))

-- all colours
abbrev pub colours_text : List Symbol → List ℕ
colours_text palette =
    head_line (codes "colours") (length palette)
    ++ flat_map (colour_line palette) (range_with_len 0 (length palette))

-- all patterns
abbrev pub patterns_text : PatternsView → List ℕ
patterns_text patterns =
    head_line (codes "patterns") (length patterns.windows)
    ++ flat_map (pattern_line patterns) (range_with_len 0 (length patterns.windows))

-- the side of a window, the colours and the patterns
abbrev pub learned_text : PatternsView → List Symbol → List ℕ
learned_text patterns palette =
    head_line (codes "overlap") patterns.n ++ (colours_text palette ++ patterns_text patterns)

-- The numbers of symbols in their palette: each is below its length, and naming them gives the symbols back.
use Rattle.std.proofs.Common.{◌≡◌, ◌<◌, List, [], ◌∷◌, length, map, slice_get, Option, Some, refl, ap, ◌∙◌}
use Rattle.std.specs.List.{All, Contains, position_or_len, AllByRecursion}
use Rattle.std.proofs.lemmas.List.Elements.{All-map, All-weaker, All-contains_itself, recursion_from_All}
use Rattle.wfc_lists.proofs.Positions.{place_inside, place_own}
use Rattle.wfc_lists.proofs.WithoutRepeats.{Contains-without_repeats}
use Rattle.wfc_picture.specs.declared.symbol.Symbol.{Symbol}
use Rattle.wfc_picture.specs.Palette.{palette_numbers, palette_of}
use Rattle.wfc_picture.specs.Symbol.{same_symbol}
use Rattle.wfc_picture.proofs.SymbolLemmas.{same_symbol-sound, same_symbol-whole}

-- each of the symbols is in their palette
pub palette_has : (symbols : List Symbol) (symbol : Symbol) → Contains symbols symbol → Contains (palette_of symbols) symbol
palette_has symbols symbol within = Contains-without_repeats same_symbol same_symbol-sound same_symbol-whole symbols symbol within

-- each number is below the palette's length
pub numbered_below : (symbols : List Symbol) → All (λ n. n < length (palette_of symbols)) (palette_numbers symbols)
numbered_below symbols =
    All-map (λ n. n < length (palette_of symbols)) (λ symbol. position_or_len (same_symbol symbol) (palette_of symbols)) symbols
    (All-weaker (Contains symbols) (λ symbol. position_or_len (same_symbol symbol) (palette_of symbols) < length (palette_of symbols))
    (λ symbol within. place_inside same_symbol same_symbol-sound same_symbol-whole symbol (palette_of symbols) (palette_has symbols symbol within)) symbols (All-contains_itself symbols))

-- what stands at the place of each is it
named_each : (palette symbols : List Symbol) → AllByRecursion (λ symbol. slice_get palette (position_or_len (same_symbol symbol) palette) ≡ Some symbol) symbols
    → map (λ n. slice_get palette n) (map (λ symbol. position_or_len (same_symbol symbol) palette) symbols) ≡ map (λ symbol. Some symbol) symbols
named_each palette [] all = refl
named_each palette (symbol ∷ symbols) all =
    ap (λ (o : Option Symbol). o ∷ map (λ n. slice_get palette n) (map (λ s. position_or_len (same_symbol s) palette) symbols)) all.0
    ∙ ap (λ (more : List (Option Symbol)). Some symbol ∷ more) (named_each palette symbols all.1)

-- naming what was numbered gives the symbols back
pub named_back : (symbols : List Symbol) → map (λ n. slice_get (palette_of symbols) n) (palette_numbers symbols) ≡ map (λ symbol. Some symbol) symbols
named_back symbols =
    named_each (palette_of symbols) symbols
    (recursion_from_All (λ symbol. slice_get (palette_of symbols) (position_or_len (same_symbol symbol) (palette_of symbols)) ≡ Some symbol) symbols
    (All-weaker (Contains symbols) (λ symbol. slice_get (palette_of symbols) (position_or_len (same_symbol symbol) (palette_of symbols)) ≡ Some symbol)
    (λ symbol within. place_own same_symbol same_symbol-sound same_symbol-whole symbol (palette_of symbols) (palette_has symbols symbol within)) symbols (All-contains_itself symbols)))

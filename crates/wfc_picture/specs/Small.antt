-- Small symbols that the laws speak of.
use Rattle.std.specs.Prelude.{ℕ, List, [], ◌∷◌}
use Rattle.wfc_picture.specs.declared.symbol.Symbol.{Symbol}
use Rattle.wfc_picture.specs.declared.symbol.Symbol.TheVariants.{Char, Rgb}

-- the colour of three samples
abbrev pub rgb : ℕ → ℕ → ℕ → Symbol
rgb red green blue = Rgb (record { r = red; g = green; b = blue })

-- six pixels that show four symbols: `b`, `a`, `b`, a colour, `a` and `c`
abbrev pub six_pixels : List Symbol
six_pixels = Char 98 ∷ Char 97 ∷ Char 98 ∷ rgb 1 2 3 ∷ Char 97 ∷ Char 99 ∷ []

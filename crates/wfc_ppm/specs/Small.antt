-- Small pictures that the laws speak of.
use Rattle.std.specs.Prelude.{ℕ, List, [], ◌∷◌}
use Rattle.wfc_picture.specs.declared.symbol.Colour.{Colour}
use Rattle.wfc_ppm.specs.Ppm.{PpmView}

-- the colour of three samples
abbrev pub colour : ℕ → ℕ → ℕ → Colour
colour red green blue = record { r = red; g = green; b = blue }

-- two pixels in a row
abbrev pub two_pixels : PpmView
two_pixels = record { width = 2; height = 1; maxval = 200; pixels = colour 1 2 3 ∷ colour 200 0 10 ∷ [] }

-- two pixels in a column, whose samples have two bytes
abbrev pub wide_pixels : PpmView
wide_pixels = record { width = 1; height = 2; maxval = 256; pixels = colour 1 2 256 ∷ colour 255 35 4 ∷ [] }

-- the samples of that picture as bytes, each the most significant first
abbrev pub wide_bytes : List ℕ
wide_bytes = 0 ∷ 1 ∷ 0 ∷ 2 ∷ 1 ∷ 0 ∷ 0 ∷ 255 ∷ 0 ∷ 35 ∷ 0 ∷ 4 ∷ []

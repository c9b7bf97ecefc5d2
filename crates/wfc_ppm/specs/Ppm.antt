-- Pictures of colours, their samples as bytes, and the texts that are written for them.
use Rattle.std.specs.Prelude.{ℕ, ◌/◌, ◌%◌, ◌<◌, ◌≤◌, Bool, nat_lt, nat_le, ◌&&◌, List, [], ◌∷◌, ◌++◌, flat_map, codes}
use Rattle.std.specs.Prelude.{decimal, if◌then◌else◌}
use Rattle.std.specs.List.{AllPass}
use Rattle.wfc_model.specs.Raster.{IsFilled}
use Rattle.wfc_picture.specs.declared.symbol.Colour.{Colour}

-- a picture: its sides, its greatest sample, and its pixels row by row
pub record PpmView : Type 0 where
  pub width : ℕ
  pub height : ℕ
  pub maxval : ℕ
  pub pixels : List Colour

-- whether each sample is at most maxval
abbrev pub is_within : ℕ → Colour → Bool
is_within maxval colour = nat_le colour.r maxval && nat_le colour.g maxval && nat_le colour.b maxval

-- both sides are at least 1, there are as many pixels as they say, and maxval is 1 to 65,535 and at least each sample
pub record IsPpm (ppm : PpmView) : Type 0 where
  pub filled : IsFilled ppm.width ppm.height ppm.pixels
  pub some_maxval : 0 < ppm.maxval
  pub small_maxval : ppm.maxval ≤ 65535
  pub samples : AllPass (is_within ppm.maxval) ppm.pixels

-- the samples of a pixel: red, green, blue
abbrev pub channels : Colour → List ℕ
channels colour = colour.r ∷ colour.g ∷ colour.b ∷ []

-- the samples, pixel by pixel
abbrev pub samples_of : List Colour → List ℕ
samples_of pixels = flat_map channels pixels

-- a sample has one byte where maxval is below 256, else two, the most significant first
abbrev pub sample_bytes : ℕ → ℕ → List ℕ
sample_bytes maxval sample = if nat_lt maxval 256 then sample ∷ [] else sample / 256 ∷ sample % 256 ∷ []

-- the bytes of a pixel
abbrev pub pixel_bytes : ℕ → Colour → List ℕ
pixel_bytes maxval colour = flat_map (sample_bytes maxval) (channels colour)

-- the bytes of all samples
abbrev pub raw_bytes : ℕ → List Colour → List ℕ
raw_bytes maxval pixels = flat_map (sample_bytes maxval) (samples_of pixels)

-- a pixel in decimal: its samples with a blank between them, and a line feed behind them
abbrev pub pixel_line : Colour → List ℕ
pixel_line colour = decimal colour.r ++ 32 ∷ (decimal colour.g ++ 32 ∷ (decimal colour.b ++ 10 ∷ []))

-- the line of the sides and the line of maxval
abbrev pub head_lines : ℕ → ℕ → ℕ → List ℕ
head_lines width height maxval = decimal width ++ 32 ∷ (decimal height ++ 10 ∷ (decimal maxval ++ 10 ∷ []))

-- the text that is written for a picture as raw bytes
abbrev pub p6_text : PpmView → List ℕ
p6_text ppm = codes "P6\n" ++ (head_lines ppm.width ppm.height ppm.maxval ++ raw_bytes ppm.maxval ppm.pixels)

-- the text that is written for a picture in decimal
abbrev pub p3_text : PpmView → List ℕ
p3_text ppm = codes "P3\n" ++ (head_lines ppm.width ppm.height ppm.maxval ++ flat_map pixel_line ppm.pixels)

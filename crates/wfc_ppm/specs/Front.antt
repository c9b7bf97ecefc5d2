-- The front of a picture's text: what stands before the samples, and what can still become it.
use Rattle.std.specs.Prelude.{◌≡◌, ℕ, ◌+◌, ◌<◌, List, [], ◌∷◌, ◌++◌, codes, drop, length, take}
use Rattle.wfc_ppm.specs.Field.{digits_of}
use Rattle.wfc_ppm.specs.Ppm.{PpmView}
use Rattle.wfc_ppm.specs.Spelling.{IsField, IsSeparator, IsSpace, SpellsPpm}
use Rattle.wfc_ppm.specs.declared.reading.PpmForm.{PpmForm}
use Rattle.wfc_ppm.specs.declared.reading.PpmForm.TheVariants.{Raw, Plain}

-- the two bytes of a form
abbrev pub form_magic : PpmForm → List ℕ
form_magic Raw = codes "P6"
form_magic Plain = codes "P3"

-- what parts maxval from the samples: a byte of whitespace from raw ones, whitespace or comments from those in decimal
abbrev pub IsHeadEnd : PpmForm → List ℕ → Type 0
IsHeadEnd Raw bytes = (byte : ℕ) × IsSpace byte × (bytes ≡ byte ∷ [])
IsHeadEnd Plain bytes = IsSeparator bytes

-- all that stands before the samples: the magic, two sides of at least 1, any maxval, and what parts it from the samples
pub record IsWholeHead (form : PpmForm) (bytes : List ℕ) : Type 0 where
  pub wide : List ℕ
  pub high : List ℕ
  pub most : List ℕ
  pub behind : List ℕ
  pub width : ℕ
  pub height : ℕ
  pub maxval : ℕ
  pub is : bytes ≡ form_magic form ++ (wide ++ (high ++ (most ++ behind)))
  pub wide_is : IsField wide width
  pub some_width : 0 < width
  pub high_is : IsField high height
  pub some_height : 0 < height
  pub most_is : IsField most maxval
  pub behind_is : IsHeadEnd form behind

-- the text begins with all that stands before samples
abbrev pub HasWholeHead : PpmForm → List ℕ → Type 0
HasWholeHead form text = (front : List ℕ) × (rest : List ℕ) × (text ≡ front ++ rest) × IsWholeHead form front

-- the bytes can be continued to all that stands before samples
abbrev pub StartsHead : PpmForm → List ℕ → Type 0
StartsHead form bytes = (rest : List ℕ) × IsWholeHead form (bytes ++ rest)

-- the place behind the digits that stand at a place
abbrev pub digits_end : List ℕ → ℕ → ℕ
digits_end text at = at + length (digits_of (drop at text))

-- the bytes of a text up to the one behind the digits that stand at a place
abbrev pub through_digits : List ℕ → ℕ → List ℕ
through_digits text at = take (digits_end text at + 1) text

-- the bytes of a text up to the one behind those digits can't be continued to a picture
abbrev pub HasNoPicture : List ℕ → ℕ → Type 0
HasNoPicture text at = (rest : List ℕ) (ppm : PpmView) → SpellsPpm (through_digits text at ++ rest) ppm → ⊥

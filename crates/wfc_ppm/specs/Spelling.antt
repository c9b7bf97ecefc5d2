-- How bytes spell a picture.
use Rattle.std.specs.Prelude.{◌≡◌, ◌≢◌, ℕ, ◌<◌, ◌⊎◌, List, [], ◌∷◌, ◌++◌, codes, length}
use Rattle.std.specs.Char.{is_ascii_digit}
use Rattle.std.specs.List.{AllPass, AllByRecursion, concat}
use Rattle.std.specs.Str.Parse.{digits_value}
use Rattle.wfc_ppm.specs.Ppm.{PpmView, IsPpm, samples_of, raw_bytes}

-- a blank, a tabulator, a carriage return or a line feed
abbrev pub IsSpace : ℕ → Type 0
IsSpace byte = (byte ≡ 32) ⊎ (byte ≡ 9) ⊎ (byte ≡ 13) ⊎ (byte ≡ 10)

-- the bytes of a comment before its end: a number sign, and neither a line feed nor a carriage return behind it
pub record IsCommentFront (bytes : List ℕ) : Type 0 where
  pub body : List ℕ
  pub is : bytes ≡ 35 ∷ body
  pub no_end : AllByRecursion (λ byte. (byte ≢ 10) × (byte ≢ 13)) body

-- a comment with its end
pub record IsComment (bytes : List ℕ) : Type 0 where
  pub front : List ℕ
  pub «end» : ℕ
  pub is : bytes ≡ front ++ «end» ∷ []
  pub comment : IsCommentFront front
  pub ends : («end» ≡ 10) ⊎ («end» ≡ 13)

-- one byte of whitespace, or a comment
abbrev pub IsGap : List ℕ → Type 0
IsGap bytes = ((byte : ℕ) × IsSpace byte × (bytes ≡ byte ∷ [])) ⊎ IsComment bytes

-- one gap or more
pub record IsSeparator (bytes : List ℕ) : Type 0 where
  pub gaps : List (List ℕ)
  pub some : 0 < length gaps
  pub each : AllByRecursion IsGap gaps
  pub is : bytes ≡ concat gaps

-- decimal digits, at least one, that write a number; zeros may stand before it
pub record IsNumeral (digits : List ℕ) (n : ℕ) : Type 0 where
  pub some : 0 < length digits
  pub each : AllPass is_ascii_digit digits
  pub value : digits_value 10 digits ≡ n

-- a separator and a number
pub record IsField (bytes : List ℕ) (n : ℕ) : Type 0 where
  pub separator : List ℕ
  pub digits : List ℕ
  pub is : bytes ≡ separator ++ digits
  pub apart : IsSeparator separator
  pub numeral : IsNumeral digits n

-- the magic, and behind it the sides and maxval
pub record IsHead (magic bytes : List ℕ) (ppm : PpmView) : Type 0 where
  pub wide : List ℕ
  pub high : List ℕ
  pub most : List ℕ
  pub is : bytes ≡ magic ++ (wide ++ (high ++ most))
  pub width : IsField wide ppm.width
  pub height : IsField high ppm.height
  pub maxval : IsField most ppm.maxval

-- raw: the head, one byte of whitespace, and the bytes of the samples
pub record SpellsP6 (text : List ℕ) (ppm : PpmView) : Type 0 where
  pub picture : IsPpm ppm
  pub head : List ℕ
  pub space : ℕ
  pub is : text ≡ head ++ space ∷ raw_bytes ppm.maxval ppm.pixels
  pub heads : IsHead (codes "P6") head ppm
  pub spaces : IsSpace space

-- a field for each of the numbers
abbrev pub AreFields : List (List ℕ) → List ℕ → Type 0
AreFields [] [] = Unit {0}
AreFields (bytes ∷ fields) (n ∷ numbers) = IsField bytes n × AreFields fields numbers
AreFields _ _ = ⊥

-- gaps, and behind them a comment that may lack its end
pub record IsTail (bytes : List ℕ) : Type 0 where
  pub gaps : List (List ℕ)
  pub cut : List ℕ
  pub each : AllByRecursion IsGap gaps
  pub last : (cut ≡ []) ⊎ IsCommentFront cut
  pub is : bytes ≡ concat gaps ++ cut

-- plain: the head, a field for each sample, and only whitespace and comments behind them
pub record SpellsP3 (text : List ℕ) (ppm : PpmView) : Type 0 where
  pub picture : IsPpm ppm
  pub head : List ℕ
  pub fields : List (List ℕ)
  pub tail : List ℕ
  pub is : text ≡ head ++ (concat fields ++ tail)
  pub heads : IsHead (codes "P3") head ppm
  pub samples : AreFields fields (samples_of ppm.pixels)
  pub ends : IsTail tail

-- one of the two
abbrev pub SpellsPpm : List ℕ → PpmView → Type 0
SpellsPpm text ppm = SpellsP6 text ppm ⊎ SpellsP3 text ppm

-- Symbols: which are the same, and the words that spell them.
use Rattle.std.specs.Prelude.{◌≡◌, ℕ, ◌^◌, Bool, false, ◌==◌, ◌&&◌, nat_le, nat_lt, List, [], ◌∷◌, ◌++◌, decimal, IsTrue, if◌then◌else◌}
use Rattle.wfc_picture.specs.declared.symbol.Symbol.{Symbol}
use Rattle.wfc_picture.specs.declared.symbol.Symbol.TheVariants.{Char, Rgb}

-- whether two symbols are the same
abbrev pub same_symbol : Symbol → Symbol → Bool
same_symbol (Char a) (Char b) = a == b
same_symbol (Rgb a) (Rgb b) = (a.r == b.r) && (a.g == b.g) && (a.b == b.b)
same_symbol _ _ = false

-- whether a symbol can stand in a sample: a byte from the blank to the tilde, or three samples of 16 bits
abbrev pub is_shown : Symbol → Bool
is_shown (Char byte) = nat_le 0x20 byte && nat_le byte 0x7E
is_shown (Rgb colour) = nat_lt colour.r (2 ^ 16) && nat_lt colour.g (2 ^ 16) && nat_lt colour.b (2 ^ 16)

-- the text of a symbol: the byte itself but `\s` for a blank, and `R,G,B` in decimal for a colour
abbrev pub symbol_text : Symbol → List ℕ
symbol_text (Char byte) = if byte == 0x20 then 0x5C ∷ 0x73 ∷ [] else byte ∷ []
symbol_text (Rgb colour) = decimal colour.r ++ 0x2C ∷ (decimal colour.g ++ 0x2C ∷ decimal colour.b)

-- the word is the text of the symbol, which can stand in a sample
pub record Spells (word : List ℕ) (symbol : Symbol) : Type 0 where
  pub shown : IsTrue (is_shown symbol)
  pub text : word ≡ symbol_text symbol

-- A word spells at most one symbol: the one that its length and its commas allow.
use Rattle.std.proofs.Common.{◌≡◌, ℕ, ◌^◌, ◌<◌, ◌≤◌, Bool, true, false, cond, nat_eq, List, [], ◌∷◌, ◌++◌, length, get_or, decimal, Option, None, Some, refl, sym, subst, ap, ◌∙◌, arith, length-append}
use Rattle.std.specs.Int.{IsInRange}
use Rattle.std.specs.List.{All, slice_split}
use Rattle.std.specs.Prelude.{slice_index, ◌==◌, if◌then◌else◌}
use Rattle.std.specs.Str.Parse.{AllDigits, digits_value}
use Rattle.std.proofs.lemmas.Bool.{and_parts, eqb-true, ne_eqb, ltb-true}
use Rattle.std.proofs.lemmas.Fmt.{decimal_is_IsNumeral}
use Rattle.std.proofs.lemmas.List.{get_or_default}
use Rattle.std.proofs.lemmas.List.Splits.{slice_split_at, slice_split_none}
use Rattle.std.proofs.lemmas.Str.Parse.{digit_at}
use Rattle.wfc_picture.specs.declared.symbol.Symbol.{Symbol}
use Rattle.wfc_picture.specs.declared.symbol.Symbol.TheVariants.{Char, Rgb}
use Rattle.wfc_picture.specs.Symbol.{Spells, is_shown, symbol_text}

-- the colour whose samples three parts write
abbrev pub colour_of : List (List ℕ) → Option Symbol
colour_of (red ∷ green ∷ blue ∷ []) = Some (Rgb (record { r = digits_value 10 red; g = digits_value 10 green; b = digits_value 10 blue }))
colour_of _ = None

-- the only symbol that the word may spell: by its length a byte, a blank, or a colour of the parts between commas
abbrev pub likely_symbol : List ℕ → Option Symbol
likely_symbol word =
    if length word == 1 then Some (Char (slice_index word 0))
    else if length word == 2 then Some (Char 0x20)
    else colour_of (slice_split (λ byte. byte == 0x2C) word)

-- whether a byte is the comma
abbrev is_comma : ℕ → Bool
is_comma byte = nat_eq byte 0x2C

-- a digit is no comma
no_comma : (b : ℕ) → IsInRange 48 57 b → is_comma b ≡ false
no_comma b range = ne_eqb b 0x2C (λ same. omega (arith, range.0, range.1, same))

-- digits have no comma
digits_uncut : (text : List ℕ) → AllDigits 10 text → All (λ b. is_comma b ≡ false) text
digits_uncut text digits k d inside = rw (get_or_default text k d 0 inside) (no_comma _ (digit_at text k digits inside))

-- three numbers between commas are cut at them
parts_of : (r g b : ℕ) → r < 2 ^ 16 → g < 2 ^ 16 → b < 2 ^ 16 → slice_split is_comma (decimal r ++ 0x2C ∷ (decimal g ++ 0x2C ∷ decimal b)) ≡ decimal r ∷ decimal g ∷ decimal b ∷ []
parts_of r g b red green blue =
    let dr = decimal_is_IsNumeral r (omega arith) in
    let dg = decimal_is_IsNumeral g (omega arith) in
    let db = decimal_is_IsNumeral b (omega arith) in
    slice_split_at is_comma (decimal r) 0x2C (decimal g ++ 0x2C ∷ decimal b) (digits_uncut (decimal r) dr.0.1) refl
    ∙ ap (λ parts. decimal r ∷ parts)
    (slice_split_at is_comma (decimal g) 0x2C (decimal b) (digits_uncut (decimal g) dg.0.1) refl
    ∙ ap (λ parts. decimal g ∷ parts) (slice_split_none is_comma (decimal b) (digits_uncut (decimal b) db.0.1)))

-- the text of a colour has at least five bytes
long : (r g b : ℕ) → r < 2 ^ 16 → g < 2 ^ 16 → b < 2 ^ 16 → 5 ≤ length (decimal r ++ 0x2C ∷ (decimal g ++ 0x2C ∷ decimal b))
long r g b red green blue =
    let dr = decimal_is_IsNumeral r (omega arith) in
    let dg = decimal_is_IsNumeral g (omega arith) in
    let db = decimal_is_IsNumeral b (omega arith) in
    omega (arith, dr.0.0, dg.0.0, db.0.0, length-append (decimal r) (0x2C ∷ (decimal g ++ 0x2C ∷ decimal b)), length-append (decimal g) (0x2C ∷ decimal b))

-- a long word may spell the colour of its parts alone
likely_long : (word : List ℕ) → 5 ≤ length word → likely_symbol word ≡ colour_of (slice_split is_comma word)
likely_long word many =
    ap (λ t. cond t (Some (Char (get_or word 0 0))) (cond (nat_eq (length word) 2) (Some (Char 0x20)) (colour_of (slice_split is_comma word)))) (ne_eqb (length word) 1 (λ e. omega arith))
    ∙ ap (λ t. cond t (Some (Char 0x20)) (colour_of (slice_split is_comma word))) (ne_eqb (length word) 2 (λ e. omega arith))

-- the text of a symbol may spell that symbol alone
likely-text : (symbol : Symbol) → is_shown symbol ≡ true → likely_symbol (symbol_text symbol) ≡ Some symbol
likely-text (Char byte) shown = by (nat_eq byte 0x20) refl
  where
    some : ℕ → Option Symbol
    some c = Some (Char c)

    by : (blank : Bool) → nat_eq byte 0x20 ≡ blank → likely_symbol (cond blank (0x5C ∷ 0x73 ∷ []) (byte ∷ [])) ≡ Some (Char byte)
    by true e = ap some (sym (eqb-true byte 0x20 e))
    by false e = refl
likely-text (Rgb colour) shown =
    let parts = and_parts _ _ shown in
    let front = and_parts _ _ parts.0 in
    let red : colour.r < 2 ^ 16 = ltb-true colour.r (2 ^ 16) front.0 in
    let green : colour.g < 2 ^ 16 = ltb-true colour.g (2 ^ 16) front.1 in
    let blue : colour.b < 2 ^ 16 = ltb-true colour.b (2 ^ 16) parts.1 in
    likely_long (symbol_text (Rgb colour)) (long colour.r colour.g colour.b red green blue)
    ∙ ap colour_of (parts_of colour.r colour.g colour.b red green blue)
    ∙ made _ _ _ (decimal_is_IsNumeral colour.r (omega arith)).1 (decimal_is_IsNumeral colour.g (omega arith)).1 (decimal_is_IsNumeral colour.b (omega arith)).1
  where
    made : (r g b : ℕ) → r ≡ colour.r → g ≡ colour.g → b ≡ colour.b → (let o : Option Symbol = Some (Rgb (record { r = r; g = g; b = b })) in o) ≡ Some (Rgb colour)
    made r g b red green blue = λ i. Some (Rgb (record { r = red i; g = green i; b = blue i }))

-- the symbol that a word spells is the only one that it may spell
pub spelled-likely : (word : List ℕ) (symbol : Symbol) → Spells word symbol → likely_symbol word ≡ Some symbol
spelled-likely word symbol spells = ap likely_symbol spells.text ∙ likely-text symbol spells.shown

-- so it spells at most one
pub one_symbol : (word : List ℕ) (a b : Symbol) → Spells word a → Spells word b → a ≡ b
one_symbol word a b first second =
    let same : Some a ≡ Some b = sym (spelled-likely word a first) ∙ spelled-likely word b second in cc

-- a word that may spell no symbol spells none
pub spells-none : (word : List ℕ) → likely_symbol word ≡ None → (symbol : Symbol) → Spells word symbol → ⊥
spells-none word none symbol spells =
    let same : None ≡ Some symbol = sym none ∙ spelled-likely word symbol spells in cc

-- nor does one that may spell a single symbol, and does not
pub spells-no_other : (word : List ℕ) (only : Symbol) → likely_symbol word ≡ Some only → (Spells word only → ⊥) → (symbol : Symbol) → Spells word symbol → ⊥
spells-no_other word only likely unspelled symbol spells =
    let found : Some symbol ≡ Some only = sym (spelled-likely word symbol spells) ∙ likely in
    let same : symbol ≡ only = cc in
    unspelled (subst (Spells word) same spells)

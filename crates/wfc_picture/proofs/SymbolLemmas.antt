-- The test of symbols says whether they are one.
use Rattle.std.proofs.Common.{◌≡◌, true, ◌&&◌, eqb, refl, ap, eq-eqb}
use Rattle.std.proofs.lemmas.Bool.{false≢true, eqb-true, and_parts, and_from}
use Rattle.wfc_picture.specs.declared.symbol.Colour.{Colour}
use Rattle.wfc_picture.specs.declared.symbol.Symbol.{Symbol}
use Rattle.wfc_picture.specs.declared.symbol.Symbol.TheVariants.{Char, Rgb}
use Rattle.wfc_picture.specs.Symbol.{same_symbol}

pub same_symbol-sound : (x y : Symbol) → same_symbol x y ≡ true → x ≡ y
same_symbol-sound (Char a) (Char b) same = ap Char (eqb-true a b same)
same_symbol-sound (Rgb a) (Rgb b) same =
    let parts = and_parts (eqb a.r b.r && eqb a.g b.g) (eqb a.b b.b) same in
    let front = and_parts (eqb a.r b.r) (eqb a.g b.g) parts.0 in
    ap Rgb (one a b (eqb-true a.r b.r front.0) (eqb-true a.g b.g front.1) (eqb-true a.b b.b parts.1))
  where
    one : (a b : Colour) → a.r ≡ b.r → a.g ≡ b.g → a.b ≡ b.b → a ≡ b
    one a b red green blue = λ i. record { r = red i; g = green i; b = blue i }
same_symbol-sound (Char a) (Rgb b) same = absurd (false≢true same)
same_symbol-sound (Rgb a) (Char b) same = absurd (false≢true same)

pub same_symbol-whole : (x : Symbol) → same_symbol x x ≡ true
same_symbol-whole (Char a) = eq-eqb a a refl
same_symbol-whole (Rgb a) = and_from _ _ (and_from _ _ (eq-eqb a.r a.r refl) (eq-eqb a.g a.g refl)) (eq-eqb a.b a.b refl)

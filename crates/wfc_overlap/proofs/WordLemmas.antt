-- A pin's word is found among the texts of a palette where the symbol that it spells stands.
use Rattle.std.proofs.Common.{◌≡◌, ℕ, ◌+◌, ◌<◌, Bool, true, false, cond, not, suc, ltb, List, [], ◌∷◌, length, map, Some, None, Err, refl, sym, subst, ap, ◌∙◌, arith}
use Rattle.std.specs.Prelude.{position}
use Rattle.std.specs.List.{AllPass, AllByRecursion, position_or_len}
use Rattle.std.specs.Option.{ok_or, option_map}
use Rattle.std.specs.Str.{bytes_eq}
use Rattle.std.proofs.lemmas.Bool.{false≢true, and_from, lt-ltb, ltb-true}
use Rattle.std.proofs.lemmas.List.{length-map}
use Rattle.std.proofs.lemmas.List.Elements.{recursion_from_All}
use Rattle.std.proofs.lemmas.Slice.Eq.{bytes_eq-Decides}
use Rattle.wfc_picture.specs.Palette.{symbol_number}
use Rattle.wfc_picture.specs.Symbol.{Spells, is_shown, same_symbol, symbol_text}
use Rattle.wfc_picture.specs.declared.symbol.Symbol.{Symbol}
use Rattle.wfc_picture.proofs.CallerLemmas.{one_symbol, same_symbol-sound, same_symbol-whole}
use Rattle.wfc_pins.specs.PinView.{PinView}
use Rattle.wfc_pins.specs.declared.fault.BuildFault.TheVariants.{UnknownSymbol, PinOutside}
use Rattle.wfc_places.specs.Marks.{marked_pin}
use Rattle.wfc_overlap.specs.Built.{picture_pin, texts_of}

-- tests that say the same pass at the same position
same_position_or_len : {X Y : Type 0} (f : X → Y) (p : Y → Bool) (q : X → Bool) (xs : List X) → AllByRecursion (λ x. p (f x) ≡ q x) xs → position_or_len p (map f xs) ≡ position_or_len q xs
same_position_or_len f p q [] same = refl
same_position_or_len f p q (x ∷ xs) same =
    ap (λ t. cond (not t) (1 + position_or_len p (map f xs)) 0) same.0 ∙ ap (λ n. cond (not (q x)) (1 + n) 0) (same_position_or_len f p q xs same.1)

same_position : {X Y : Type 0} (f : X → Y) (p : Y → Bool) (q : X → Bool) (xs : List X) → AllByRecursion (λ x. p (f x) ≡ q x) xs → position p (map f xs) ≡ position q xs
same_position f p q xs same =
    ap (λ n. cond (ltb n (length (map f xs))) (Some n) None) (same_position_or_len f p q xs same)
    ∙ ap (λ n. cond (ltb (position_or_len q xs) n) (Some (position_or_len q xs)) None) (length-map xs f)

-- tests that imply each other are one
same_tests : (a b : Bool) → (a ≡ true → b ≡ true) → (b ≡ true → a ≡ true) → a ≡ b
same_tests true b there back = sym (there refl)
same_tests false true there back = back refl
same_tests false false there back = refl

-- the texts of symbols that can stand in a sample are the word where the symbols are the one that it spells
text_is : (word : List ℕ) (symbol : Symbol) → Spells word symbol → (palette : List Symbol) → AllByRecursion (λ s. is_shown s ≡ true) palette
    → AllByRecursion (λ s. bytes_eq (symbol_text s) word ≡ same_symbol symbol s) palette
text_is word symbol spells [] shown = tt
text_is word symbol spells (s ∷ palette) shown = (
  same_tests (bytes_eq (symbol_text s) word) (same_symbol symbol s)
      (λ equal. (let own : Spells word s = record { shown = shown.0; text = sym ((bytes_eq-Decides (symbol_text s) word).0 equal) } in
      subst (λ k. same_symbol symbol k ≡ true) (one_symbol word symbol s spells own) (same_symbol-whole symbol)))
      (λ same. (bytes_eq-Decides (symbol_text s) word).1 (ap symbol_text (sym (same_symbol-sound symbol s same)) ∙ sym spells.text)),
  text_is word symbol spells palette shown.1,
)

-- and none is a word that spells nothing
no_text_is : (word : List ℕ) → ((symbol : Symbol) → Spells word symbol → ⊥) → (palette : List Symbol) → AllByRecursion (λ s. is_shown s ≡ true) palette
    → AllByRecursion (λ s. bytes_eq (symbol_text s) word ≡ false) palette
no_text_is word unspelled [] shown = tt
no_text_is word unspelled (s ∷ palette) shown = (
  same_tests (bytes_eq (symbol_text s) word) false
      (λ equal. absurd (unspelled s (record { shown = shown.0; text = sym ((bytes_eq-Decides (symbol_text s) word).0 equal) })))
      (λ e. absurd (false≢true e)),
  no_text_is word unspelled palette shown.1,
)

-- nothing is found where no test passes
all_past : {X : Type 0} (xs : List X) → position_or_len (λ x. false) xs ≡ length xs
all_past [] = refl
all_past (x ∷ xs) = ap (λ n. 1 + n) (all_past xs) ∙ (let one : 1 + length xs ≡ suc (length xs) = omega arith in one)

never_found : {X : Type 0} (xs : List X) → position (λ x. false) xs ≡ None
never_found xs =
    ap (λ t. cond t (Some (position_or_len (λ x. false) xs)) None)
    (same_tests (ltb (position_or_len (λ x. false) xs) (length xs)) false
    (λ below. absurd (omega (arith, ltb-true (position_or_len (λ x. false) xs) (length xs) below, all_past xs)))
    (λ e. absurd (false≢true e)))

module _ (palette : List Symbol) (width height : ℕ) (line : PinView) (column : line.x < width) (row : line.y < height) (shown : AllPass is_shown palette) where
  inside_is : picture_pin (texts_of palette) width height line ≡ ok_or (option_map (marked_pin line) (position (λ text. bytes_eq text line.symbol) (texts_of palette))) (UnknownSymbol line.line)
  inside_is = ap (λ t. cond t (ok_or (option_map (marked_pin line) (position (λ text. bytes_eq text line.symbol) (texts_of palette))) (UnknownSymbol line.line)) (Err (PinOutside line.line)))
      (and_from _ _ (lt-ltb line.x width column) (lt-ltb line.y height row))

  -- a word that spells a symbol means its number
  pub spelled-pin : (symbol : Symbol) → Spells line.symbol symbol
      → picture_pin (texts_of palette) width height line ≡ ok_or (option_map (marked_pin line) (symbol_number palette symbol)) (UnknownSymbol line.line)
  spelled-pin symbol spells =
      inside_is
      ∙ ap (λ o. ok_or (option_map (marked_pin line) o) (UnknownSymbol line.line))
      (same_position symbol_text (λ text. bytes_eq text line.symbol) (same_symbol symbol) palette
      (text_is line.symbol symbol spells palette (recursion_from_All (λ s. is_shown s ≡ true) palette shown)))

  -- and one that spells nothing means none
  pub unspelled-pin : ((symbol : Symbol) → Spells line.symbol symbol → ⊥) → picture_pin (texts_of palette) width height line ≡ Err (UnknownSymbol line.line)
  unspelled-pin unspelled =
      inside_is
      ∙ ap (λ o. ok_or (option_map (marked_pin line) o) (UnknownSymbol line.line))
      (same_position symbol_text (λ text. bytes_eq text line.symbol) (λ s. false) palette
      (no_text_is line.symbol unspelled palette (recursion_from_All (λ s. is_shown s ≡ true) palette shown))
      ∙ never_found palette)

-- Pins that are written as lines are read back from them.
use Rattle.std.proofs.Common.{◌≡◌, ℕ, ◌+◌, ◌-◌, ◌^◌, ◌<◌, ◌≤◌, Bool, true, false, not, cond, nat_eq, nat_le, List, [], ◌∷◌, ◌++◌, length, get_or, map, filter, decimal, Some, Ok, refl, sym, subst, ap, ◌∙◌, arith, append_assoc, length-append}
use Rattle.std.specs.Int.{IsInRange}
use Rattle.std.specs.List.{All, flat_map}
use Rattle.std.specs.Option.{ok_or}
use Rattle.std.specs.Prelude.{◌==◌, ◌||◌, if◌then◌else◌}
use Rattle.std.specs.Result.{result_ok}
use Rattle.std.specs.Str.Lines.{strip_carriage_return}
use Rattle.std.proofs.lemmas.Bool.{and_parts, ltb-true, ne_eqb}
use Rattle.std.proofs.lemmas.Bool.Decides.{nat_tests}
use Rattle.std.proofs.lemmas.Fmt.{decimal_is_IsNumeral, decimal_nonempty}
use Rattle.std.proofs.lemmas.List.{get_or_default}
use Rattle.std.proofs.lemmas.List.Elements.{All-append, All-cons, All-head, All-nil, All-tail}
use Rattle.std.proofs.lemmas.List.Splits.{slice_split_at, slice_split_none}
use Rattle.std.proofs.lemmas.Str.Parse.{digit_at}
use Rattle.wfc_grow_command.specs.StuckText.{pin_text, pin_word}
use Rattle.wfc_grow_command.specs.WrittenPins.{IsWrittenPin, numbered_from}
use Rattle.wfc_picture.specs.Symbol.{Spells, is_shown, symbol_text}
use Rattle.wfc_picture.specs.declared.symbol.Symbol.{Symbol}
use Rattle.wfc_picture.specs.declared.symbol.Symbol.TheVariants.{Char, Rgb}
use Rattle.wfc_pins.specs.InOrder.{all_in_order, and_rest}
use Rattle.wfc_pins.specs.PinView.{PinView}
use Rattle.wfc_pins.specs.Pins.{keep_of, pin_of, pin_of_words, pin_with}
use Rattle.wfc_pins.specs.Words.{is_blank, is_comment, is_empty, is_skipped, number32, read_among, words_of}
use Rattle.wfc_pins.specs.declared.pins.PinFault.TheVariants.{BadLine}
use Rattle.wfc_text.proofs.CallerLemmas.{lines_from-feed}
use Rattle.wfc_text.proofs.NumberLemmas.{number_of-decimal}
use Rattle.wfc_text.specs.Line.{LineView, ended_line, is_line_feed, lines_from}

-- ---- words

-- a byte above the blank
abbrev IsAboveBlank : ℕ → Type 0
IsAboveBlank byte = 32 < byte

-- a word: it has a byte, and each is above the blank
record IsWord (word : List ℕ) : Type 0 where
  some : 0 < length word
  above : All IsAboveBlank word

-- a byte above the blank parts no words
parts_none : (byte : ℕ) → 32 < byte → is_blank byte ≡ false
parts_none byte above = grind (arith, nat_tests)

-- so a word is not cut
uncut : (word : List ℕ) → IsWord word → All (λ b. is_blank b ≡ false) word
uncut word is k d inside = parts_none _ (is.above k d inside)

-- the bytes of a number in decimal are above the blank
decimal_above : (n : ℕ) → n < 2 ^ 32 → All IsAboveBlank (decimal n)
decimal_above n fits k d inside =
    let range : IsInRange 48 57 (get_or (decimal n) k 0) = digit_at (decimal n) k (decimal_is_IsNumeral n (omega arith)).0.1 inside in
    rw (get_or_default (decimal n) k d 0 inside) (omega (arith, range.0))

-- and so are those of a symbol
symbol_above : (symbol : Symbol) → is_shown symbol ≡ true → All IsAboveBlank (symbol_text symbol)
symbol_above (Char byte) shown = by (nat_eq byte 0x20) refl
  where
    by : (blank : Bool) → nat_eq byte 0x20 ≡ blank → All IsAboveBlank (cond blank (0x5C ∷ 0x73 ∷ []) (byte ∷ []))
    by true e = All-cons IsAboveBlank 0x5C (0x73 ∷ []) (omega arith) (All-cons IsAboveBlank 0x73 [] (omega arith) (All-nil IsAboveBlank))
    by false e =
        let low : nat_le 0x20 byte ≡ true = (and_parts _ _ shown).0 in
        All-cons IsAboveBlank byte [] (grind (arith, nat_tests)) (All-nil IsAboveBlank)
symbol_above (Rgb colour) shown =
    let parts = and_parts _ _ shown in
    let front = and_parts _ _ parts.0 in
    let red : colour.r < 2 ^ 16 = ltb-true colour.r (2 ^ 16) front.0 in
    let green : colour.g < 2 ^ 16 = ltb-true colour.g (2 ^ 16) front.1 in
    let blue : colour.b < 2 ^ 16 = ltb-true colour.b (2 ^ 16) parts.1 in
    let comma : 32 < 0x2C = omega arith in
    All-append IsAboveBlank (decimal colour.r) _ (decimal_above colour.r (omega arith)) (All-cons IsAboveBlank 0x2C _ comma
    (All-append IsAboveBlank (decimal colour.g) _ (decimal_above colour.g (omega arith)) (All-cons IsAboveBlank 0x2C _ comma
    (decimal_above colour.b (omega arith)))))

-- a symbol has a byte
symbol_some : (symbol : Symbol) → 0 < length (symbol_text symbol)
symbol_some (Char byte) = by (nat_eq byte 0x20)
  where
    by : (blank : Bool) → 0 < length (cond blank (0x5C ∷ 0x73 ∷ []) (byte ∷ []))
    by true = omega arith
    by false = omega arith
symbol_some (Rgb colour) = omega (arith, length-append (decimal colour.r) (0x2C ∷ (decimal colour.g ++ 0x2C ∷ decimal colour.b)))

-- three bytes are a word
three_bytes : (a b c : ℕ) → 32 < a → 32 < b → 32 < c → IsWord (a ∷ b ∷ c ∷ [])
three_bytes a b c first second third = record {
  some = omega arith;
  above = All-cons IsAboveBlank a (b ∷ c ∷ []) first (All-cons IsAboveBlank b (c ∷ []) second (All-cons IsAboveBlank c [] third (All-nil IsAboveBlank)));
}

-- `pin` and `ban` are words
keep_is_word : (keep : Bool) → IsWord (pin_word keep)
keep_is_word true = three_bytes 0x70 0x69 0x6E (omega arith) (omega arith) (omega arith)
keep_is_word false = three_bytes 0x62 0x61 0x6E (omega arith) (omega arith) (omega arith)

-- and numbers
number_is_word : (n : ℕ) → n < 2 ^ 32 → IsWord (decimal n)
number_is_word n fits = record { some = decimal_nonempty n (omega arith); above = decimal_above n fits }

-- and symbols
symbol_is_word : (word : List ℕ) (symbol : Symbol) → Spells word symbol → IsWord word
symbol_is_word word symbol spells = subst IsWord (sym spells.text) (record { some = symbol_some symbol; above = symbol_above symbol spells.shown })

-- ---- four words in a line

-- four words with a blank between two
abbrev four_words : List ℕ → List ℕ → List ℕ → List ℕ → List ℕ
four_words a b c d = a ++ 32 ∷ (b ++ 32 ∷ (c ++ 32 ∷ d))

-- a part that has a byte is kept
kept : (word : List ℕ) (words : List (List ℕ)) → 0 < length word → filter (λ part. not (is_empty part)) (word ∷ words) ≡ word ∷ filter (λ part. not (is_empty part)) words
kept [] words some = absurd (omega arith)
kept (byte ∷ word) words some = refl

-- four words are those of their line
words_back : (a b c d : List ℕ) → IsWord a → IsWord b → IsWord c → IsWord d → words_of (four_words a b c d) ≡ a ∷ b ∷ c ∷ d ∷ []
words_back a b c d first second third fourth =
    ap (filter (λ part. not (is_empty part)))
    (slice_split_at is_blank a 32 (b ++ 32 ∷ (c ++ 32 ∷ d)) (uncut a first) refl
    ∙ ap (λ ws. a ∷ ws) (slice_split_at is_blank b 32 (c ++ 32 ∷ d) (uncut b second) refl
    ∙ ap (λ ws. b ∷ ws) (slice_split_at is_blank c 32 d (uncut c third) refl
    ∙ ap (λ ws. c ∷ ws) (slice_split_none is_blank d (uncut d fourth)))))
    ∙ kept a (b ∷ c ∷ d ∷ []) first.some
    ∙ ap (λ ws. a ∷ ws) (kept b (c ∷ d ∷ []) second.some
    ∙ ap (λ ws. b ∷ ws) (kept c (d ∷ []) third.some
    ∙ ap (λ ws. c ∷ ws) (kept d [] fourth.some)))

-- the blank or a byte above it
abbrev IsFromBlank : ℕ → Type 0
IsFromBlank byte = 32 ≤ byte

-- a word has such bytes alone
word_bytes : (word : List ℕ) → IsWord word → All IsFromBlank word
word_bytes word is k d inside = omega (arith, is.above k d inside)

-- and so has a line of four words
line_bytes : (a b c d : List ℕ) → IsWord a → IsWord b → IsWord c → IsWord d → All IsFromBlank (four_words a b c d)
line_bytes a b c d first second third fourth =
    let blank : 32 ≤ 32 = omega arith in
    All-append IsFromBlank a _ (word_bytes a first) (All-cons IsFromBlank 32 _ blank
    (All-append IsFromBlank b _ (word_bytes b second) (All-cons IsFromBlank 32 _ blank
    (All-append IsFromBlank c _ (word_bytes c third) (All-cons IsFromBlank 32 d blank (word_bytes d fourth))))))

-- such a byte ends no line
ends_none : (byte : ℕ) → 32 ≤ byte → is_line_feed byte ≡ false
ends_none byte from = ne_eqb byte 10 (λ same. omega arith)

-- and is no carriage return at the end of one
unstripped : (bytes : List ℕ) → 0 < length bytes → All IsFromBlank bytes → strip_carriage_return bytes ≡ bytes
unstripped bytes some are =
    let at : 32 ≤ get_or bytes (length bytes - 1) 0 = are (length bytes - 1) 0 (omega arith) in
    let last : (get_or bytes (length bytes - 1) 0 == 13) ≡ false = ne_eqb _ 13 (λ same. omega arith) in
    rw last refl

-- so such bytes before a line feed are a line
line_back : (n : ℕ) (bytes rest : List ℕ) → 0 < length bytes → All IsFromBlank bytes → lines_from n (bytes ++ 10 ∷ rest) ≡ ended_line n bytes ∷ lines_from (n + 1) rest
line_back n bytes rest some are =
    lines_from-feed n bytes rest (λ k d inside. ends_none _ (are k d inside))
    ∙ ap (λ bs. ended_line n bs ∷ lines_from (n + 1) rest) (unstripped bytes some are)

-- ---- one pin

-- the line of a pin without its end
abbrev line_of : PinView → List ℕ
line_of pin = four_words (pin_word pin.keep) (decimal pin.x) (decimal pin.y) pin.symbol

-- what is written of a pin is that line and a line feed
text_is : (pin : PinView) (rest : List ℕ) → pin_text pin ++ rest ≡ line_of pin ++ 10 ∷ rest
text_is pin rest = by pin.keep
  where
    by : (keep : Bool) → pin_text (record pin { keep = keep }) ++ rest ≡ line_of (record pin { keep = keep }) ++ 10 ∷ rest
    by true = simp append_assoc
    by false = simp append_assoc

-- it has a byte
line_some : (keep : Bool) (rest : List ℕ) → 0 < length (pin_word keep ++ rest)
line_some true rest = omega arith
line_some false rest = omega arith

-- so a pin that is written is the first line
first_line : (n : ℕ) (pin : PinView) (rest : List ℕ) → IsWrittenPin pin → lines_from n (pin_text pin ++ rest) ≡ ended_line n (line_of pin) ∷ lines_from (n + 1) rest
first_line n pin rest is =
    ap (lines_from n) (text_is pin rest)
    ∙ line_back n (line_of pin) rest (line_some pin.keep _)
    (line_bytes _ _ _ _ (keep_is_word pin.keep) (number_is_word pin.x is.x_in) (number_is_word pin.y is.y_in) (symbol_is_word pin.symbol is.symbol.0 is.symbol.1))

-- the words of that line
pin_words : (pin : PinView) → IsWrittenPin pin → words_of (line_of pin) ≡ pin_word pin.keep ∷ decimal pin.x ∷ decimal pin.y ∷ pin.symbol ∷ []
pin_words pin is = words_back _ _ _ _ (keep_is_word pin.keep) (number_is_word pin.x is.x_in) (number_is_word pin.y is.y_in) (symbol_is_word pin.symbol is.symbol.0 is.symbol.1)

-- it is no comment
uncommented : (keep : Bool) (rest : List ℕ) → is_comment (pin_word keep ++ rest) ≡ false
uncommented true rest = refl
uncommented false rest = refl

-- so it is not passed over
unskipped : (pin : PinView) → IsWrittenPin pin → is_skipped (line_of pin) ≡ false
unskipped pin is = λ i. uncommented pin.keep (32 ∷ (decimal pin.x ++ 32 ∷ (decimal pin.y ++ 32 ∷ pin.symbol))) i || is_empty (pin_words pin is i)

-- such a line is among those that are read
read_one : (line : LineView) (lines : List LineView) → is_skipped line.bytes ≡ false → read_among (line ∷ lines) ≡ line ∷ read_among lines
read_one line lines is = ap (λ skipped. if not skipped then line ∷ read_among lines else read_among lines) is

-- a first word is read back
keep_back : (keep : Bool) → keep_of (pin_word keep) ≡ Some keep
keep_back true = refl
keep_back false = refl

-- and a number
number_back : (n : ℕ) → n < 2 ^ 32 → number32 (decimal n) ≡ Some n
number_back n fits = ap result_ok (number_of-decimal 0 n 0 (2 ^ 32 - 1) (omega arith) (omega arith) (omega arith))

-- and the pin, with the number of its line
pin_back : (n : ℕ) (pin : PinView) → IsWrittenPin pin → pin_of (ended_line n (line_of pin)) ≡ Ok (record pin { line = n })
pin_back n pin is =
    ap (λ ws. ok_or (pin_of_words n ws) (BadLine n)) (pin_words pin is)
    ∙ (λ i. ok_or (pin_with n pin.symbol (keep_back pin.keep i) (number_back pin.x is.x_in i) (number_back pin.y is.y_in i)) (BadLine n))

-- ---- all pins

-- pins that are written as the lines from n are read back
pub pins_back : (n : ℕ) (pins : List PinView) → All IsWrittenPin pins → all_in_order (map pin_of (read_among (lines_from n (flat_map pin_text pins)))) ≡ Ok (numbered_from n pins)
pins_back n [] written = refl
pins_back n (pin ∷ pins) written =
    let is = All-head IsWrittenPin pin pins written in
    ap (λ lines. all_in_order (map pin_of (read_among lines))) (first_line n pin (flat_map pin_text pins) is)
    ∙ ap (λ lines. all_in_order (map pin_of lines)) (read_one (ended_line n (line_of pin)) (lines_from (n + 1) (flat_map pin_text pins)) (unskipped pin is))
    ∙ (λ i. and_rest (pin_back n pin is i) (pins_back (n + 1) pins (All-tail IsWrittenPin pin pins written) i))

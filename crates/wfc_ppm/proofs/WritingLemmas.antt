-- The texts that are written for pictures spell them.
use Rattle.std.proofs.Common.{◌≡◌, ℕ, ◌+◌, ◌*◌, ◌^◌, ◌<◌, ◌≤◌, List, [], ◌∷◌, ◌++◌, length, drop, get_or, inl, inr, refl, sym, ap, ◌∙◌, append_assoc, append-nil, arith, true, codes, decimal, flat_map, Ok, length-append}
use Rattle.std.proofs.lemmas.Bool.Decides.{nat_tests}
use Rattle.std.proofs.lemmas.Bool.{and_parts, leb-true}
use Rattle.std.proofs.lemmas.Fmt.{decimal_is_IsNumeral, length-decimal-le}
use Rattle.std.proofs.lemmas.List.{get_or_default, drop_more, drop_all}
use Rattle.std.proofs.lemmas.List.Elements.{recursion_from_All}
use Rattle.std.proofs.lemmas.Str.Parse.{digit_at}
use Rattle.std.specs.Char.{is_ascii_digit}
use Rattle.std.specs.Int.{IsInRange}
use Rattle.std.specs.List.{AllPass, concat}
use Rattle.std.specs.Str.Parse.{AllDigits}
use Rattle.wfc_picture.specs.declared.symbol.Colour.{Colour}
use Rattle.wfc_ppm.specs.Ppm.{PpmView, IsPpm, is_within, samples_of, sample_bytes, raw_bytes, pixel_bytes, pixel_line, head_lines, p6_text, p3_text}
use Rattle.wfc_ppm.specs.Reading.{ppm_of}
use Rattle.wfc_ppm.specs.Spelling.{IsSpace, IsNumeral, IsField, AreFields, IsHead, IsTail, SpellsP6, SpellsP3}
use Rattle.wfc_ppm.proofs.PpmLemmas.{spelled-read}
use Rattle.wfc_ppm.proofs.RawLemmas.{AreWithin, pixels-within}

-- ---- numbers

in_digits : (b : ℕ) → IsInRange 48 57 b → is_ascii_digit b ≡ true
in_digits b range = grind (arith, nat_tests)

digits_pass : (text : List ℕ) → AllDigits 10 text → AllPass is_ascii_digit text
digits_pass text digits k d inside = let range = digit_at text k digits inside in rw (get_or_default text k d 0 inside) (in_digits _ range)

written_numeral : (n : ℕ) → n < 2 ^ 64 → IsNumeral (decimal n) n
written_numeral n fits = let own = decimal_is_IsNumeral n fits in record { some = own.0.0; each = digits_pass (decimal n) own.0.1; value = own.1 }

-- a byte of whitespace and a number are a field
written_field : (space n : ℕ) → IsSpace space → n < 2 ^ 64 → IsField (space ∷ decimal n) n
written_field space n is fits = record {
  separator = space ∷ [];
  digits = decimal n;
  is = refl;
  apart = record { gaps = (space ∷ []) ∷ []; some = omega arith; each = (inl (space, is, refl), tt); is = refl };
  numeral = written_numeral n fits;
}

feed_space : IsSpace 10
feed_space = inr (inr (inr refl))

blank_space : IsSpace 32
blank_space = inl refl

-- ---- the head

-- the head that is written, up to the digits of maxval
abbrev written_head : List ℕ → PpmView → List ℕ
written_head magic ppm = magic ++ ((10 ∷ decimal ppm.width) ++ ((32 ∷ decimal ppm.height) ++ (10 ∷ decimal ppm.maxval)))

head_is : (magic : List ℕ) (ppm : PpmView) → ppm.width < 2 ^ 64 → ppm.height < 2 ^ 64 → ppm.maxval ≤ 65535 → IsHead magic (written_head magic ppm) ppm
head_is magic ppm wide high most = record {
  wide = 10 ∷ decimal ppm.width;
  high = 32 ∷ decimal ppm.height;
  most = 10 ∷ decimal ppm.maxval;
  is = refl;
  width = written_field 10 ppm.width feed_space wide;
  height = written_field 32 ppm.height blank_space high;
  maxval = written_field 10 ppm.maxval feed_space (omega (arith, most));
}

-- three parts with a byte between them and one behind them, before a rest
three_parts : (a b c : List ℕ) (x y z : ℕ) (rest : List ℕ) → (a ++ x ∷ (b ++ y ∷ (c ++ z ∷ []))) ++ rest ≡ a ++ x ∷ (b ++ y ∷ (c ++ z ∷ rest))
three_parts a b c x y z rest =
    append_assoc a (x ∷ (b ++ y ∷ (c ++ z ∷ []))) rest
    ∙ ap (λ t. a ++ x ∷ t) (append_assoc b (y ∷ (c ++ z ∷ [])) rest ∙ ap (λ t. b ++ y ∷ t) (append_assoc c (z ∷ []) rest))

-- three parts, each behind a byte, before a rest
parts_of_three : (a b c : List ℕ) (w x y : ℕ) (rest : List ℕ) → ((w ∷ a) ++ ((x ∷ b) ++ (y ∷ c))) ++ rest ≡ w ∷ (a ++ x ∷ (b ++ y ∷ (c ++ rest)))
parts_of_three a b c w x y rest =
    append_assoc (w ∷ a) ((x ∷ b) ++ (y ∷ c)) rest
    ∙ ap (λ t. w ∷ (a ++ t)) (append_assoc (x ∷ b) (y ∷ c) rest)

-- the text behind the magic is the head and a line feed
head_text : (one two : ℕ) (ppm : PpmView) (rest : List ℕ) → one ∷ two ∷ 10 ∷ (head_lines ppm.width ppm.height ppm.maxval ++ rest) ≡ written_head (one ∷ two ∷ []) ppm ++ 10 ∷ rest
head_text one two ppm rest =
    ap (λ t. one ∷ two ∷ 10 ∷ t) (three_parts (decimal ppm.width) (decimal ppm.height) (decimal ppm.maxval) 32 10 10 rest)
    ∙ sym (ap (λ t. one ∷ two ∷ t) (parts_of_three (decimal ppm.width) (decimal ppm.height) (decimal ppm.maxval) 10 32 10 (10 ∷ rest)))

pub written-p6 : (ppm : PpmView) → IsPpm ppm → ppm.width < 2 ^ 64 → ppm.height < 2 ^ 64 → SpellsP6 (p6_text ppm) ppm
written-p6 ppm is wide high = record {
  picture = is;
  head = written_head (codes "P6") ppm;
  space = 10;
  is = head_text 80 54 ppm (raw_bytes ppm.maxval ppm.pixels);
  heads = head_is (codes "P6") ppm wide high is.small_maxval;
  spaces = feed_space;
}

-- ---- samples in decimal

-- a field for each sample
abbrev written_fields : List Colour → List (List ℕ)
written_fields [] = []
written_fields (p ∷ pixels) = (10 ∷ decimal p.r) ∷ (32 ∷ decimal p.g) ∷ (32 ∷ decimal p.b) ∷ written_fields pixels

written_lines : (pixels : List Colour) → 10 ∷ flat_map pixel_line pixels ≡ concat (written_fields pixels) ++ 10 ∷ []
written_lines [] = refl
written_lines (p ∷ pixels) =
    ap (λ t. 10 ∷ t) (three_parts (decimal p.r) (decimal p.g) (decimal p.b) 32 32 10 (flat_map pixel_line pixels))
    ∙ ap (λ t. 10 ∷ (decimal p.r ++ 32 ∷ (decimal p.g ++ 32 ∷ (decimal p.b ++ t)))) (written_lines pixels)
    ∙ sym (append_assoc (10 ∷ decimal p.r) ((32 ∷ decimal p.g) ++ ((32 ∷ decimal p.b) ++ concat (written_fields pixels))) (10 ∷ [])
    ∙ ap (λ t. 10 ∷ (decimal p.r ++ t)) (append_assoc (32 ∷ decimal p.g) ((32 ∷ decimal p.b) ++ concat (written_fields pixels)) (10 ∷ [])
    ∙ ap (λ t. 32 ∷ (decimal p.g ++ t)) (append_assoc (32 ∷ decimal p.b) (concat (written_fields pixels)) (10 ∷ []))))

fields_are : (maxval : ℕ) (pixels : List Colour) → maxval ≤ 65535 → AreWithin maxval (samples_of pixels) → AreFields (written_fields pixels) (samples_of pixels)
fields_are maxval [] most within = tt
fields_are maxval (p ∷ pixels) most within = (
  written_field 10 p.r feed_space (omega (arith, within.0, most)),
  (
    written_field 32 p.g blank_space (omega (arith, within.1.0, most)),
    (written_field 32 p.b blank_space (omega (arith, within.1.1.0, most)), fields_are maxval pixels most within.1.1.1),
  ),
)

feed_tail : IsTail (10 ∷ [])
feed_tail = record { gaps = (10 ∷ []) ∷ []; cut = []; each = (inl (10, feed_space, refl), tt); last = inl refl; is = refl }

pub written-p3 : (ppm : PpmView) → IsPpm ppm → ppm.width < 2 ^ 64 → ppm.height < 2 ^ 64 → SpellsP3 (p3_text ppm) ppm
written-p3 ppm is wide high = record {
  picture = is;
  head = written_head (codes "P3") ppm;
  fields = written_fields ppm.pixels;
  tail = 10 ∷ [];
  is = head_text 80 51 ppm (flat_map pixel_line ppm.pixels) ∙ ap (λ t. written_head (codes "P3") ppm ++ t) (written_lines ppm.pixels);
  heads = head_is (codes "P3") ppm wide high is.small_maxval;
  samples = fields_are ppm.maxval ppm.pixels is.small_maxval (pixels-within ppm.maxval ppm.pixels (recursion_from_All (λ (c : Colour). is_within ppm.maxval c ≡ true) ppm.pixels is.samples));
  ends = feed_tail;
}

-- ---- a pixel more

three_assoc : (a b c rest : List ℕ) → a ++ (b ++ (c ++ rest)) ≡ (a ++ (b ++ (c ++ []))) ++ rest
three_assoc a b c rest = sym (append_assoc a (b ++ (c ++ [])) rest ∙ ap (λ t. a ++ t) (append_assoc b (c ++ []) rest ∙ ap (λ t. b ++ (t ++ rest)) (append-nil c)))

-- what is written with a pixel more, before the bytes of those that are left
pub raw-more : (maxval i : ℕ) (pixels : List Colour) (d : Colour) (text made all : List ℕ) → i < length pixels → text ++ raw_bytes maxval (drop i pixels) ≡ all → made ≡ text ++ pixel_bytes maxval (get_or pixels i d) → made ++ raw_bytes maxval (drop (i + 1) pixels) ≡ all
raw-more maxval i pixels d text made all inside so_far push =
    ap (λ m. m ++ raw_bytes maxval (drop (i + 1) pixels)) push
    ∙ append_assoc text (pixel_bytes maxval (get_or pixels i d)) (raw_bytes maxval (drop (i + 1) pixels))
    ∙ ap (λ t. text ++ t) (sym (one maxval (get_or pixels i d) (drop (i + 1) pixels)))
    ∙ sym (ap (λ ps. text ++ raw_bytes maxval ps) (drop_more pixels i d inside))
    ∙ so_far
  where
    one : (maxval : ℕ) (p : Colour) (pixels : List Colour) → raw_bytes maxval (p ∷ pixels) ≡ pixel_bytes maxval p ++ raw_bytes maxval pixels
    one maxval p pixels = three_assoc (sample_bytes maxval p.r) (sample_bytes maxval p.g) (sample_bytes maxval p.b) (raw_bytes maxval pixels)

pub plain-line_more : (i : ℕ) (pixels : List Colour) (d : Colour) (text made all : List ℕ) → i < length pixels → text ++ flat_map pixel_line (drop i pixels) ≡ all → made ≡ text ++ pixel_line (get_or pixels i d) → made ++ flat_map pixel_line (drop (i + 1) pixels) ≡ all
plain-line_more i pixels d text made all inside so_far push =
    ap (λ m. m ++ flat_map pixel_line (drop (i + 1) pixels)) push
    ∙ append_assoc text (pixel_line (get_or pixels i d)) (flat_map pixel_line (drop (i + 1) pixels))
    ∙ sym (ap (λ ps. text ++ flat_map pixel_line ps) (drop_more pixels i d inside))
    ∙ so_far

pub raw-written : (maxval i : ℕ) (pixels : List Colour) (text all : List ℕ) → length pixels ≤ i → text ++ raw_bytes maxval (drop i pixels) ≡ all → text ≡ all
raw-written maxval i pixels text all past so_far = sym (append-nil text) ∙ sym (ap (λ ps. text ++ raw_bytes maxval ps) (drop_all i pixels past)) ∙ so_far

pub plain-written : (i : ℕ) (pixels : List Colour) (text all : List ℕ) → length pixels ≤ i → text ++ flat_map pixel_line (drop i pixels) ≡ all → text ≡ all
plain-written i pixels text all past so_far = sym (append-nil text) ∙ sym (ap (λ ps. text ++ flat_map pixel_line ps) (drop_all i pixels past)) ∙ so_far

-- what is written is read again
pub p6-again : (text : List ℕ) (ppm : PpmView) → SpellsP6 text ppm → ppm.width * ppm.height ≤ 1048576 → ppm_of text ≡ Ok ppm
p6-again text ppm spelled within = spelled-read text ppm (inl spelled) within

pub p3-again : (text : List ℕ) (ppm : PpmView) → SpellsP3 text ppm → ppm.width * ppm.height ≤ 1048576 → ppm_of text ≡ Ok ppm
p3-again text ppm spelled within = spelled-read text ppm (inr spelled) within

-- ---- how long a pixel's line is

-- a line of three numbers of so many digits
pub line_length : (k maxval : ℕ) (colour : Colour) → 0 < k → maxval < 10 ^ k → maxval ≤ 65535 → is_within maxval colour ≡ true → length (pixel_line colour) ≤ 3 * k + 3
line_length k maxval colour some digits small within =
    let parts = and_parts _ _ within in
    let front = and_parts _ _ parts.0 in
    let red : colour.r ≤ maxval = leb-true colour.r maxval front.0 in
    let green : colour.g ≤ maxval = leb-true colour.g maxval front.1 in
    let blue : colour.b ≤ maxval = leb-true colour.b maxval parts.1 in
    let r = length-decimal-le k colour.r some (omega arith) (omega arith) in
    let g = length-decimal-le k colour.g some (omega arith) (omega arith) in
    let b = length-decimal-le k colour.b some (omega arith) (omega arith) in
    omega (
      arith,
      r,
      g,
      b,
      length-append (decimal colour.r) (32 ∷ (decimal colour.g ++ 32 ∷ (decimal colour.b ++ 10 ∷ []))),
      length-append (decimal colour.g) (32 ∷ (decimal colour.b ++ 10 ∷ [])),
      length-append (decimal colour.b) (10 ∷ []),
    )

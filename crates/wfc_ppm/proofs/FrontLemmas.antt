-- What stands before the place of a fault of the header can be continued to a header.
use Rattle.std.proofs.Common.{◌≡◌, ◌≢◌, ℕ, ◌+◌, ◌-◌, ◌<◌, ◌≤◌, ◌==◌, ◌⊎◌, Bool, true, false, List, [], ◌∷◌, ◌++◌, length, take, drop, inl, inr, Option, None, Some, refl, sym, subst, ap, ◌∙◌, arith, append_assoc, append-nil, length-append, if◌then◌else◌}
use Rattle.std.specs.Char.{is_ascii_digit}
use Rattle.std.specs.List.{AllByRecursion, concat}
use Rattle.std.specs.Option.{option_or}
use Rattle.std.specs.Str.Parse.{digits_value}
use Rattle.std.proofs.lemmas.Bool.{eqb-true, eq-eqb, false≢true}
use Rattle.std.proofs.lemmas.Bool.Decides.{nat_tests}
use Rattle.std.proofs.lemmas.List.{take-append-le, take_all}
use Rattle.std.proofs.lemmas.List.Elements.{All-cons, All-nil}
use Rattle.wfc_ppm.specs.Fault.{end_fault, field_fault, gap_fault, header_fault, side_fault, space_fault, form_of}
use Rattle.wfc_ppm.specs.Field.{SpaceEnd, behind_field, digits_of, field_value, is_space, place_of, start_of, stop_of}
use Rattle.wfc_ppm.specs.Front.{IsHeadEnd, IsWholeHead, StartsHead, form_magic}
use Rattle.wfc_ppm.specs.Spelling.{IsCommentFront, IsField, IsGap, IsNumeral, IsSeparator, IsSpace}
use Rattle.wfc_ppm.specs.declared.reading.PpmForm.{PpmForm}
use Rattle.wfc_ppm.specs.declared.reading.PpmForm.TheVariants.{Raw, Plain}
use Rattle.wfc_ppm.specs.declared.reading.PpmFault.{PpmFault}
use Rattle.wfc_ppm.specs.declared.reading.PpmFault.TheVariants.{Header}
use Rattle.wfc_ppm.proofs.FieldLemmas.{StandsField, longer_gaps, no_fault-stands, written_value}
use Rattle.wfc_ppm.proofs.GapLemmas.{Last, Parts, parts_of, parts-whole}
use Rattle.wfc_ppm.proofs.HeadLemmas.{head-stands, magic-stands, none-space}

-- ---- places

-- the bytes before the place of a rest are those before the rest
before_place : (text front rest : List ℕ) → text ≡ front ++ rest → take (place_of (length text) rest) text ≡ front
before_place text front rest is =
    let long : length text ≡ length front + length rest = ap length is ∙ length-append front rest in
    let place : place_of (length text) rest ≡ length front = omega (arith, long) in
    ap (λ n. take n text) place
    ∙ ap (take (length front)) is
    ∙ take-append-le (length front) front rest (omega arith)
    ∙ take_all (length front) front (omega arith)

-- ---- what is written behind a front

-- a separator and the digit 1
separated_one : (separator : List ℕ) → IsSeparator separator → IsField (separator ++ 49 ∷ []) 1
separated_one separator apart = record {
  separator = separator;
  digits = 49 ∷ [];
  is = refl;
  apart = apart;
  numeral = record { some = omega arith; each = All-cons (λ b. is_ascii_digit b ≡ true) 49 [] refl (All-nil (λ b. is_ascii_digit b ≡ true)); value = refl };
}

blank : IsSpace 32
blank = inl refl

pub blank_apart : IsSeparator (32 ∷ [])
blank_apart = record { gaps = (32 ∷ []) ∷ []; some = omega arith; each = (inl (32, blank, refl), tt); is = refl }

-- a blank and a digit
pub digit_field : (digit : ℕ) → is_ascii_digit digit ≡ true → IsField (32 ∷ digit ∷ []) (digits_value 10 (digit ∷ []))
digit_field digit is = record {
  separator = 32 ∷ [];
  digits = digit ∷ [];
  is = refl;
  apart = blank_apart;
  numeral = record { some = omega arith; each = All-cons (λ b. is_ascii_digit b ≡ true) digit [] is (All-nil (λ b. is_ascii_digit b ≡ true)); value = refl };
}

-- a separator has a byte
pub some_separator : (bytes : List ℕ) → IsSeparator bytes → 0 < length bytes
some_separator bytes apart = omega (arith, longer_gaps apart.gaps apart.each apart.some, ap length apart.is)

-- a blank and the digit 1
abbrev one : List ℕ
one = 32 ∷ 49 ∷ []

one_is : IsField one 1
one_is = separated_one (32 ∷ []) blank_apart

blank_ends : (form : PpmForm) → IsHeadEnd form (32 ∷ [])
blank_ends Raw = (32, blank, refl)
blank_ends Plain = blank_apart

all_more : (gaps : List (List ℕ)) (gap : List ℕ) → AllByRecursion IsGap gaps → IsGap gap → AllByRecursion IsGap (gaps ++ gap ∷ [])
all_more [] gap each is = (is, tt)
all_more (g ∷ gaps) gap each is = (each.0, all_more gaps gap each.1 is)

concat_more : (gaps : List (List ℕ)) (gap : List ℕ) → concat (gaps ++ gap ∷ []) ≡ concat gaps ++ gap
concat_more [] gap = append-nil gap
concat_more (g ∷ gaps) gap = ap (λ t. g ++ t) (concat_more gaps gap) ∙ sym (append_assoc g (concat gaps) gap)

-- gaps and a comment that a line feed closes
closed : (gaps : List (List ℕ)) (cut : List ℕ) → AllByRecursion IsGap gaps → IsCommentFront cut → IsSeparator (concat gaps ++ (cut ++ 10 ∷ []))
closed gaps cut each comment = record {
  gaps = gaps ++ (cut ++ 10 ∷ []) ∷ [];
  some = omega (arith, length-append gaps ((cut ++ 10 ∷ []) ∷ []));
  each = all_more gaps (cut ++ 10 ∷ []) each (inr (record { front = cut; «end» = 10; is = refl; comment = comment; ends = inl refl }));
  is = sym (concat_more gaps (cut ++ 10 ∷ []));
}

-- ---- fronts

-- a field of 1 behind the front leaves it open
abbrev pub GoesOn : PpmForm → List ℕ → Type 0
GoesOn form front = (bytes : List ℕ) → IsField bytes 1 → StartsHead form (front ++ bytes)

-- less can be continued too
shorter : (form : PpmForm) (a b : List ℕ) → StartsHead form (a ++ b) → StartsHead form a
shorter form a b starts = (b ++ starts.0, subst (IsWholeHead form) (append_assoc a b starts.0) starts.1)

pub open_front : (form : PpmForm) (front : List ℕ) → GoesOn form front → StartsHead form front
open_front form front goes = shorter form front one (goes one one_is)

-- the magic
pub magic_goes : (form : PpmForm) → GoesOn form (form_magic form)
magic_goes form bytes field = (
  one ++ (one ++ 32 ∷ []),
  record {
    wide = bytes;
    high = one;
    most = one;
    behind = 32 ∷ [];
    width = 1;
    height = 1;
    maxval = 1;
    is = append_assoc (form_magic form) bytes (one ++ (one ++ 32 ∷ []));
    wide_is = field;
    some_width = omega arith;
    high_is = one_is;
    some_height = omega arith;
    most_is = one_is;
    behind_is = blank_ends form;
  },
)

module _ (form : PpmForm) (wide : List ℕ) (width : ℕ) (wide_is : IsField wide width) (some_width : 0 < width) where
  -- and the width
  wide_goes : GoesOn form (form_magic form ++ wide)
  wide_goes bytes field = (
    one ++ 32 ∷ [],
    record {
      wide = wide;
      high = bytes;
      most = one;
      behind = 32 ∷ [];
      width = width;
      height = 1;
      maxval = 1;
      is = append_assoc (form_magic form ++ wide) bytes (one ++ 32 ∷ []) ∙ append_assoc (form_magic form) wide (bytes ++ (one ++ 32 ∷ []));
      wide_is = wide_is;
      some_width = some_width;
      high_is = field;
      some_height = omega arith;
      most_is = one_is;
      behind_is = blank_ends form;
    },
  )

  module _ (high : List ℕ) (height : ℕ) (high_is : IsField high height) (some_height : 0 < height) where
    -- and the height
    high_goes : GoesOn form ((form_magic form ++ wide) ++ high)
    high_goes bytes field = (
      32 ∷ [],
      record {
        wide = wide;
        high = high;
        most = bytes;
        behind = 32 ∷ [];
        width = width;
        height = height;
        maxval = 1;
        is = append_assoc ((form_magic form ++ wide) ++ high) bytes (32 ∷ []) ∙ append_assoc (form_magic form ++ wide) high (bytes ++ 32 ∷ []) ∙ append_assoc (form_magic form) wide (high ++ (bytes ++ 32 ∷ []));
        wide_is = wide_is;
        some_width = some_width;
        high_is = high_is;
        some_height = some_height;
        most_is = field;
        behind_is = blank_ends form;
      },
    )

    -- and maxval
    whole_with : (most : List ℕ) (maxval : ℕ) → IsField most maxval → (behind : List ℕ) → IsHeadEnd form behind → IsWholeHead form ((((form_magic form ++ wide) ++ high) ++ most) ++ behind)
    whole_with most maxval most_is behind ends = record {
      wide = wide;
      high = high;
      most = most;
      behind = behind;
      width = width;
      height = height;
      maxval = maxval;
      is = append_assoc ((form_magic form ++ wide) ++ high) most behind ∙ append_assoc (form_magic form ++ wide) high (most ++ behind) ∙ append_assoc (form_magic form) wide (high ++ (most ++ behind));
      wide_is = wide_is;
      some_width = some_width;
      high_is = high_is;
      some_height = some_height;
      most_is = most_is;
      behind_is = ends;
    }

-- ---- faults of fields

module _ (form : PpmForm) (text front t : List ℕ) (is : text ≡ front ++ t) where
  -- at the place of what stands behind the front
  at_front : GoesOn form front → StartsHead form (take (place_of (length text) t) text)
  at_front goes = subst (StartsHead form) (sym (before_place text front t is)) (open_front form front goes)

  -- at the end of the text, where no more than gaps stand behind the front
  at_end : GoesOn form front → start_of t ≡ [] → length (start_of t) ≢ length t → StartsHead form (take (place_of (length text) (start_of t)) text)
  at_end goes none unlike =
      let all : take (place_of (length text) (start_of t)) text ≡ text = ap (λ r. take (place_of (length text) r) text) none ∙ before_place text text [] (sym (append-nil text)) in
      let parts = parts_of t in
      subst (StartsHead form) (sym (all ∙ is)) (by parts.gaps parts.cut parts.each parts.last parts.is)
    where
      by : (gaps : List (List ℕ)) (cut : List ℕ) → AllByRecursion IsGap gaps → Last cut (stop_of false t) → t ≡ concat gaps ++ (cut ++ start_of t) → StartsHead form (front ++ t)
      by [] cut each (Last.whole empty stop) parts = absurd (unlike (ap length (sym (parts ∙ ap (λ c. c ++ start_of t) empty))))
      by (gap ∷ gaps) cut each (Last.whole empty stop) parts =
          let same : t ≡ concat (gap ∷ gaps) = parts ∙ ap (λ c. concat (gap ∷ gaps) ++ (c ++ start_of t)) empty ∙ ap (λ r. concat (gap ∷ gaps) ++ r) none ∙ append-nil (concat (gap ∷ gaps)) in
          let apart : IsSeparator t = record { gaps = gap ∷ gaps; some = omega arith; each = each; is = same } in
          shorter form (front ++ t) (49 ∷ []) (subst (StartsHead form) (sym (append_assoc front t (49 ∷ []))) (goes (t ++ 49 ∷ []) (separated_one t apart)))
      by gaps cut each (Last.broken comment rest stop) parts =
          let same : t ≡ concat gaps ++ cut = parts ∙ ap (λ r. concat gaps ++ (cut ++ r)) none ∙ ap (λ r. concat gaps ++ r) (append-nil cut) in
          let longer : t ++ 10 ∷ [] ≡ concat gaps ++ (cut ++ 10 ∷ []) = ap (λ r. r ++ 10 ∷ []) same ∙ append_assoc (concat gaps) cut (10 ∷ []) in
          let apart : IsSeparator (t ++ 10 ∷ []) = subst IsSeparator (sym longer) (closed gaps cut each comment) in
          let starts = goes ((t ++ 10 ∷ []) ++ 49 ∷ []) (separated_one (t ++ 10 ∷ []) apart) in
          shorter form (front ++ t) (10 ∷ 49 ∷ [])
          (subst (StartsHead form) (ap (λ r. front ++ r) (append_assoc t (10 ∷ []) (49 ∷ [])) ∙ sym (append_assoc front t (10 ∷ 49 ∷ []))) starts)

  -- at what stands behind the gaps
  at_start : GoesOn form front → length (start_of t) ≢ length t → StartsHead form (take (place_of (length text) (start_of t)) text)
  at_start goes unlike = by (start_of t) refl
    where
      by : (start : List ℕ) → start_of t ≡ start → StartsHead form (take (place_of (length text) (start_of t)) text)
      by [] none = at_end goes none unlike
      by (byte ∷ start) some =
          let whole = parts-whole t (omega (arith, ap length some)) in
          let gaps = whole.0 in
          let before : text ≡ (front ++ concat gaps) ++ start_of t = is ∙ ap (λ r. front ++ r) whole.2 ∙ sym (append_assoc front (concat gaps) (start_of t)) in
          let apart : IsSeparator (concat gaps) = record { gaps = gaps; some = some_gap gaps whole.2; each = whole.1; is = refl } in
          subst (StartsHead form) (sym (before_place text (front ++ concat gaps) (start_of t) before))
          (shorter form (front ++ concat gaps) (49 ∷ []) (subst (StartsHead form) (sym (append_assoc front (concat gaps) (49 ∷ []))) (goes (concat gaps ++ 49 ∷ []) (separated_one (concat gaps) apart))))
        where
          some_gap : (gaps : List (List ℕ)) → t ≡ concat gaps ++ start_of t → 0 < length gaps
          some_gap [] same = absurd (unlike (ap length (sym same)))
          some_gap (gap ∷ gaps) same = omega arith

  -- at a fault of a field
  field_front : (at : ℕ) → GoesOn form front → field_fault (length text) t ≡ Some (Header at) → StartsHead form (take at text)
  field_front at goes fault = by (length (start_of t) == length t) refl (length (digits_of (start_of t)) == 0) fault
    where
      by : (same : Bool) → (length (start_of t) == length t) ≡ same → (empty : Bool)
          → (if same then Some (Header (place_of (length text) t)) else if empty then Some (Header (place_of (length text) (start_of t))) else None) ≡ Some (Header at) → StartsHead form (take at text)
      by true e empty found = let place : place_of (length text) t ≡ at = cc in subst (λ n. StartsHead form (take n text)) place (at_front goes)
      by false e true found =
          let place : place_of (length text) (start_of t) ≡ at = cc in
          subst (λ n. StartsHead form (take n text)) place (at_start goes (λ like. false≢true (sym e ∙ eq-eqb _ _ like)))
      by false e false found = absurd (cc)

  -- gaps stand where a field has no fault
  no_fault_gap : field_fault (length text) t ≡ None → length (start_of t) ≢ length t
  no_fault_gap none like = by (length (start_of t) == length t) (eq-eqb _ _ like) none
    where
      by : (same : Bool) → same ≡ true → (if same then Some (Header (place_of (length text) t)) else if length (digits_of (start_of t)) == 0 then Some (Header (place_of (length text) (start_of t))) else None) ≡ None → ⊥
      by true e found = cc
      by false e found = false≢true e

  -- at a fault of a side
  side_front : (at : ℕ) → GoesOn form front → side_fault (length text) t ≡ Some (Header at) → StartsHead form (take at text)
  side_front at goes fault = by (field_fault (length text) t) refl (field_value t == 0) fault
    where
      by : (o : Option PpmFault) → field_fault (length text) t ≡ o → (zero_side : Bool)
          → option_or o (if zero_side then Some (Header (place_of (length text) (start_of t))) else None) ≡ Some (Header at) → StartsHead form (take at text)
      by (Some other) e zero_side found = field_front at goes (e ∙ found)
      by None e true found = let place : place_of (length text) (start_of t) ≡ at = cc in subst (λ n. StartsHead form (take n text)) place (at_start goes (no_fault_gap e))
      by None e false found = absurd (cc)

-- ---- what ends a header

module _ (form : PpmForm) (text front t : List ℕ) (is : text ≡ front ++ t) (whole : (behind : List ℕ) → IsHeadEnd form behind → IsWholeHead form (front ++ behind)) where
  at_whole : StartsHead form (take (place_of (length text) t) text)
  at_whole = subst (StartsHead form) (sym (before_place text front t is)) (32 ∷ [], whole (32 ∷ []) (blank_ends form))

space_front : (text front t : List ℕ) (at : ℕ) → text ≡ front ++ t → ((behind : List ℕ) → IsHeadEnd Raw behind → IsWholeHead Raw (front ++ behind)) → space_fault (length text) t ≡ Some (Header at) → StartsHead Raw (take at text)
space_front text front [] at is whole fault = let end : length text ≡ at = cc in let place : place_of (length text) [] ≡ at = omega (arith, end) in subst (λ n. StartsHead Raw (take n text)) place (at_whole Raw text front [] is whole)
space_front text front (byte ∷ t) at is whole fault = by (is_space byte) fault
  where
    by : (space : Bool) → (if space then None else Some (Header (place_of (length text) (byte ∷ t)))) ≡ Some (Header at) → StartsHead Raw (take at text)
    by true found = absurd (cc)
    by false found = let place : place_of (length text) (byte ∷ t) ≡ at = cc in subst (λ n. StartsHead Raw (take n text)) place (at_whole Raw text front (byte ∷ t) is whole)

gap_front : (text front t : List ℕ) (at : ℕ) → text ≡ front ++ t → ((behind : List ℕ) → IsHeadEnd Plain behind → IsWholeHead Plain (front ++ behind)) → gap_fault (length text) t ≡ Some (Header at) → StartsHead Plain (take at text)
gap_front text front t at is whole fault = by (length (start_of t) == length t) ((stop_of false t).cut) refl fault
  where
    ended : (gaps : List (List ℕ)) (cut : List ℕ) → AllByRecursion IsGap gaps → Last cut (stop_of false t) → t ≡ concat gaps ++ (cut ++ start_of t) → (stop_of false t).cut ≡ true → StartsHead Plain (front ++ t)
    ended gaps cut each (Last.whole empty stop) parts opened = absurd (false≢true (sym stop ∙ opened))
    ended gaps cut each (Last.broken comment rest stop) parts opened =
        let same : t ≡ concat gaps ++ cut = parts ∙ ap (λ r. concat gaps ++ (cut ++ r)) rest ∙ ap (λ r. concat gaps ++ r) (append-nil cut) in
        let longer : t ++ 10 ∷ [] ≡ concat gaps ++ (cut ++ 10 ∷ []) = ap (λ r. r ++ 10 ∷ []) same ∙ append_assoc (concat gaps) cut (10 ∷ []) in
        (10 ∷ [], subst (IsWholeHead Plain) (sym (append_assoc front t (10 ∷ []))) (whole (t ++ 10 ∷ []) (subst IsSeparator (sym longer) (closed gaps cut each comment))))

    by : (same : Bool) (opened : Bool) → (stop_of false t).cut ≡ opened → (if same then Some (Header (place_of (length text) t)) else if opened then Some (Header (length text)) else None) ≡ Some (Header at) → StartsHead Plain (take at text)
    by true opened e found = let place : place_of (length text) t ≡ at = cc in subst (λ n. StartsHead Plain (take n text)) place (at_whole Plain text front t is whole)
    by false true e found =
        let place : length text ≡ at = cc in
        let parts = parts_of t in
        subst (λ n. StartsHead Plain (take n text)) place
        (subst (StartsHead Plain) (sym (take_all (length text) text (omega arith) ∙ is)) (ended parts.gaps parts.cut parts.each parts.last parts.is e))
    by false false e found = absurd (cc)

end_front : (form : PpmForm) (text front t : List ℕ) (at : ℕ) → text ≡ front ++ t → ((behind : List ℕ) → IsHeadEnd form behind → IsWholeHead form (front ++ behind)) → end_fault form (length text) t ≡ Some (Header at) → StartsHead form (take at text)
end_front Raw text front t at is whole fault = space_front text front t at is whole fault
end_front Plain text front t at is whole fault = gap_front text front t at is whole fault

-- ---- the header

-- a side without a fault
record IsSide (text : List ℕ) : Type 0 where
  bytes : List ℕ
  field : IsField bytes (written_value text)
  some : 0 < written_value text
  is : text ≡ bytes ++ behind_field text

side_is : (total : ℕ) (t : List ℕ) → side_fault total t ≡ None → IsSide t
side_is total t none = by (field_fault total t) refl (field_value t == 0) refl none
  where
    by : (o : Option PpmFault) → field_fault total t ≡ o → (zero_side : Bool) → (field_value t == 0) ≡ zero_side
        → option_or o (if zero_side then Some (Header (place_of total (start_of t))) else None) ≡ None → IsSide t
    by (Some other) e zero_side f found = absurd (cc)
    by None e true f found = absurd (cc)
    by None e false f found =
        let stands = no_fault-stands total t e in
        let some : 0 < field_value t = grind (arith, nat_tests) in
        record { bytes = stands.bytes; field = stands.field; some = omega (arith, some); is = stands.is }

-- the two bytes of the form stand in front
magic_front : (form : PpmForm) (text : List ℕ) → form_of text ≡ Some form → text ≡ form_magic form ++ drop 2 text
magic_front Raw text formed = magic-stands Raw text formed
magic_front Plain text formed = magic-stands Plain text formed

-- one field further
further : (text front t bytes rest : List ℕ) → text ≡ front ++ t → t ≡ bytes ++ rest → text ≡ (front ++ bytes) ++ rest
further text front t bytes rest is parts = is ∙ ap (λ r. front ++ r) parts ∙ sym (append_assoc front bytes rest)

module _ (form : PpmForm) (text : List ℕ) (at : ℕ) where
  abbrev total : ℕ
  total = length text

  -- behind both sides
  maxval_front : (wide high t : List ℕ) (width height : ℕ) → IsField wide width → 0 < width → IsField high height → 0 < height → text ≡ ((form_magic form ++ wide) ++ high) ++ t
      → option_or (field_fault total t) (end_fault form total (behind_field t)) ≡ Some (Header at) → StartsHead form (take at text)
  maxval_front wide high t width height wide_is some_width high_is some_height is fault = by (field_fault total t) refl fault
    where
      by : (o : Option PpmFault) → field_fault total t ≡ o → option_or o (end_fault form total (behind_field t)) ≡ Some (Header at) → StartsHead form (take at text)
      by (Some other) e found = field_front form text ((form_magic form ++ wide) ++ high) t is at (high_goes form wide width wide_is some_width high height high_is some_height) (e ∙ found)
      by None e found =
          let stands = no_fault-stands total t e in
          end_front form text (((form_magic form ++ wide) ++ high) ++ stands.bytes) (behind_field t) at (further text ((form_magic form ++ wide) ++ high) t stands.bytes (behind_field t) is stands.is)
          (whole_with form wide width wide_is some_width high height high_is some_height stands.bytes (written_value t) stands.field) found

  -- behind the width
  height_front : (wide t : List ℕ) (width : ℕ) → IsField wide width → 0 < width → text ≡ (form_magic form ++ wide) ++ t
      → option_or (side_fault total t) (option_or (field_fault total (behind_field t)) (end_fault form total (behind_field (behind_field t)))) ≡ Some (Header at) → StartsHead form (take at text)
  height_front wide t width wide_is some_width is fault = by (side_fault total t) refl fault
    where
      by : (o : Option PpmFault) → side_fault total t ≡ o → option_or o (option_or (field_fault total (behind_field t)) (end_fault form total (behind_field (behind_field t)))) ≡ Some (Header at) → StartsHead form (take at text)
      by (Some other) e found = side_front form text (form_magic form ++ wide) t is at (wide_goes form wide width wide_is some_width) (e ∙ found)
      by None e found =
          let high = side_is total t e in
          maxval_front wide high.bytes (behind_field t) width (written_value t) wide_is some_width high.field high.some (further text (form_magic form ++ wide) t high.bytes (behind_field t) is high.is) found

  -- the bytes before a fault of the header can be continued to a header
  pub header_front : form_of text ≡ Some form → header_fault form total (drop 2 text) ≡ Some (Header at) → StartsHead form (take at text)
  header_front formed fault = by (side_fault total (drop 2 text)) refl fault
    where
      by : (o : Option PpmFault) → side_fault total (drop 2 text) ≡ o
          → option_or o (option_or (side_fault total (behind_field (drop 2 text))) (option_or (field_fault total (behind_field (behind_field (drop 2 text)))) (end_fault form total (behind_field (behind_field (behind_field (drop 2 text))))))) ≡ Some (Header at)
          → StartsHead form (take at text)
      by (Some other) e found = side_front form text (form_magic form) (drop 2 text) (magic_front form text formed) at (magic_goes form) (e ∙ found)
      by None e found =
          let wide = side_is total (drop 2 text) e in
          height_front wide.bytes (behind_field (drop 2 text)) (written_value (drop 2 text)) wide.field wide.some
          (further text (form_magic form) (drop 2 text) wide.bytes (behind_field (drop 2 text)) (magic_front form text formed) wide.is) found

-- ---- a header without a fault

-- what ends it, where it has no fault
abbrev EndsHead : PpmForm → List ℕ → Type 0
EndsHead form t = (behind : List ℕ) × (rest : List ℕ) × IsHeadEnd form behind × (t ≡ behind ++ rest)

no_gap_fault_ends : (total : ℕ) (t : List ℕ) → gap_fault total t ≡ None → EndsHead Plain t
no_gap_fault_ends total t none = by (length (start_of t) == length t) refl ((stop_of false t).cut) refl none
  where
    gapped : (gaps : List (List ℕ)) (cut : List ℕ) → AllByRecursion IsGap gaps → Last cut (stop_of false t) → t ≡ concat gaps ++ (cut ++ start_of t)
        → (stop_of false t).cut ≡ false → (length (start_of t) ≡ length t → ⊥) → EndsHead Plain t
    gapped [] cut each (Last.whole empty stop) parts shut unlike = absurd (unlike (ap length (sym (parts ∙ ap (λ c. c ++ start_of t) empty))))
    gapped (gap ∷ gaps) cut each (Last.whole empty stop) parts shut unlike =
        (concat (gap ∷ gaps), start_of t, record { gaps = gap ∷ gaps; some = omega arith; each = each; is = refl }, parts ∙ ap (λ c. concat (gap ∷ gaps) ++ (c ++ start_of t)) empty)
    gapped gaps cut each (Last.broken comment rest stop) parts shut unlike = absurd (false≢true (sym shut ∙ stop))

    by : (same : Bool) → (length (start_of t) == length t) ≡ same → (broken : Bool) → (stop_of false t).cut ≡ broken
        → (if same then Some (Header (place_of total t)) else if broken then Some (Header total) else None) ≡ None → EndsHead Plain t
    by true e broken f found = absurd (cc)
    by false e true f found = absurd (cc)
    by false e false f found =
        let parts = parts_of t in
        gapped parts.gaps parts.cut parts.each parts.last parts.is f (λ like. false≢true (sym e ∙ eq-eqb _ _ like))

no_fault_ends : (form : PpmForm) (total : ℕ) (t : List ℕ) → end_fault form total t ≡ None → EndsHead form t
no_fault_ends Raw total t none = let space = none-space total t none in (space.0 ∷ [], drop 1 t, (space.0, space.1, refl), space.2)
no_fault_ends Plain total t none = no_gap_fault_ends total t none

-- a text whose header has no fault begins with a whole one
pub header_whole : (form : PpmForm) (text : List ℕ) → form_of text ≡ Some form → header_fault form (length text) (drop 2 text) ≡ None
    → (front : List ℕ) × (rest : List ℕ) × (text ≡ front ++ rest) × IsWholeHead form front
header_whole form text formed none =
    let stands = head-stands form (length text) text none in
    let some_width : 0 < written_value (drop 2 text) = omega (arith, stands.some_width) in
    let some_height : 0 < written_value (behind_field (drop 2 text)) = omega (arith, stands.some_height) in
    let ends = no_fault_ends form (length text) (behind_field (behind_field (behind_field (drop 2 text)))) stands.end_none in
    let one_on = further text (form_magic form) (drop 2 text) stands.wide.bytes (behind_field (drop 2 text)) (magic_front form text formed) stands.wide.is in
    let two_on = further text (form_magic form ++ stands.wide.bytes) (behind_field (drop 2 text)) stands.high.bytes (behind_field (behind_field (drop 2 text))) one_on stands.high.is in
    let three_on = further text ((form_magic form ++ stands.wide.bytes) ++ stands.high.bytes) (behind_field (behind_field (drop 2 text))) stands.most.bytes (behind_field (behind_field (behind_field (drop 2 text)))) two_on stands.most.is in (
      (((form_magic form ++ stands.wide.bytes) ++ stands.high.bytes) ++ stands.most.bytes) ++ ends.0,
      ends.1,
      further text (((form_magic form ++ stands.wide.bytes) ++ stands.high.bytes) ++ stands.most.bytes) (behind_field (behind_field (behind_field (drop 2 text)))) ends.0 ends.1 three_on ends.3,
      whole_with form stands.wide.bytes (written_value (drop 2 text)) stands.wide.field some_width stands.high.bytes (written_value (behind_field (drop 2 text))) stands.high.field some_height
          stands.most.bytes (written_value (behind_field (behind_field (drop 2 text)))) stands.most.field ends.0 ends.2,
    )

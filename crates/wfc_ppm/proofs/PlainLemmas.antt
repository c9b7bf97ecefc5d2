-- Samples in decimal: what is read where fields stand, and the fields that stand where no fault is.
use Rattle.std.proofs.Common.{◌≡◌, ◌⊎◌, ℕ, ◌+◌, ◌<◌, ◌≤◌, ◌==◌, List, [], ◌∷◌, ◌++◌, length, inl, inr, refl, sym, ap, ◌∙◌, append_assoc, append-nil, arith, true, false, Bool, None, Some, min, not, nat_lt, if◌then◌else◌, zero, suc, subst, length-append}
use Rattle.std.proofs.lemmas.Bool.Decides.{nat_tests}
use Rattle.std.proofs.lemmas.Bool.{ltb-false}
use Rattle.std.specs.List.{concat}
use Rattle.std.specs.Option.{option_or}
use Rattle.wfc_picture.specs.declared.symbol.Colour.{Colour}
use Rattle.wfc_lists.proofs.Options.{both_none, or_none}
use Rattle.wfc_ppm.specs.Fault.{ends_token, sample_fault, pixel_fault, behind_pixel, tail_fault, plain_fault}
use Rattle.wfc_ppm.specs.Field.{SpaceEnd, stop_of, start_of, digits_of, field_value, behind_field, place_of}
use Rattle.wfc_ppm.specs.Ppm.{samples_of}
use Rattle.wfc_ppm.specs.Reading.{plain_pixel, plain_pixels}
use Rattle.wfc_ppm.specs.Spelling.{IsCommentFront, IsField, AreFields, IsTail}
use Rattle.wfc_ppm.specs.declared.reading.PpmFault.TheVariants.{Truncated, BadSample, SampleAboveMaxval, Trailing}
use Rattle.wfc_ppm.proofs.GapLemmas.{start-tail, tail-ends, start-first, parts_of, Parts, Last, whole, broken}
use Rattle.wfc_ppm.proofs.FieldLemmas.{token-stops, field-reads, field-ends, StandsField, stands, written_value, no-digits}
use Rattle.wfc_ppm.proofs.RawLemmas.{AreWithin}

nonzero : (n : ℕ) → 0 < n → (n == 0) ≡ false
nonzero n some = grind (arith, nat_tests)

above_no : (maxval n : ℕ) → n ≤ maxval → nat_lt maxval n ≡ false
above_no maxval n small = grind (arith, nat_tests)

-- ---- what is read

-- a field of a sample at most maxval, where a token ends behind it
pub sample-none : (total maxval wanted found : ℕ) (bytes rest : List ℕ) (n : ℕ) → IsField bytes n → ends_token rest ≡ true → n ≤ maxval → maxval ≤ 65535 → sample_fault total maxval wanted found (bytes ++ rest) ≡ None
sample-none total maxval wanted found bytes rest n field ends within most =
    let reads = field-reads bytes rest n field (token-stops rest ends) in
    let start : length (start_of (bytes ++ rest)) ≡ length (field.digits ++ rest) = ap (λ (s : SpaceEnd). length s.rest) reads.stop in
    let some : (length (start_of (bytes ++ rest)) == 0) ≡ false = nonzero (length (start_of (bytes ++ rest))) (omega (arith, start, reads.some, length-append field.digits rest)) in
    let token : ends_token (behind_field (bytes ++ rest)) ≡ true = ap ends_token reads.behind ∙ ends in
    let small : nat_lt maxval (field_value (bytes ++ rest)) ≡ false = above_no maxval (field_value (bytes ++ rest)) (omega (arith, reads.value)) in
    rw (some, token, small) refl

-- the rest behind fields of samples ends a token
pub fields-end : (fields : List (List ℕ)) (samples tail : List ℕ) → AreFields fields samples → ends_token tail ≡ true → ends_token (concat fields ++ tail) ≡ true
fields-end [] [] tail are ends = ends
fields-end [] (s ∷ samples) tail are ends = absurd are
fields-end (f ∷ fields) [] tail are ends = absurd are
fields-end (f ∷ fields) (s ∷ samples) tail are ends = ap ends_token (append_assoc f (concat fields) tail) ∙ field-ends f (concat fields ++ tail) s are.0

-- one sample on
pub record OneSample (total maxval wanted : ℕ) (text rest : List ℕ) (n : ℕ) : Type 0 where
  pub none : (found : ℕ) → sample_fault total maxval wanted found text ≡ None
  pub value : field_value text ≡ n
  pub behind : behind_field text ≡ rest

one_sample : (total maxval wanted : ℕ) (bytes rest : List ℕ) (n : ℕ) → IsField bytes n → ends_token rest ≡ true → n ≤ maxval → maxval ≤ 65535 → OneSample total maxval wanted (bytes ++ rest) rest n
one_sample total maxval wanted bytes rest n field ends within most =
    let reads = field-reads bytes rest n field (token-stops rest ends) in
    record {
      none = λ found. sample-none total maxval wanted found bytes rest n field ends within most;
      value = reads.value ∙ small n (omega arith);
      behind = reads.behind;
    }
  where
    small : (n : ℕ) → n ≤ 65535 → min n 4294967295 ≡ n
    small n is = omega arith

pub record ReadsPixels (total maxval wanted : ℕ) (pixels : List Colour) (text : List ℕ) : Type 0 where
  pub none : (found : ℕ) → plain_fault total maxval wanted found (length pixels) text ≡ None
  pub made : plain_pixels (length pixels) text ≡ pixels

pub pixels-read : (total maxval wanted : ℕ) (pixels : List Colour) (fields : List (List ℕ)) (tail : List ℕ) → AreFields fields (samples_of pixels) → IsTail tail → AreWithin maxval (samples_of pixels) → maxval ≤ 65535 → ReadsPixels total maxval wanted pixels (concat fields ++ tail)
pixels-read total maxval wanted [] [] tail are ends within most =
    let start : length (start_of tail) ≡ 0 = ap length (start-tail tail ends) in
    record { none = λ found. (rw start refl); made = refl }
pixels-read total maxval wanted [] (f ∷ fields) tail are ends within most = absurd are
pixels-read total maxval wanted (p ∷ pixels) [] tail are ends within most = absurd are
pixels-read total maxval wanted (p ∷ pixels) (r ∷ []) tail are ends within most = absurd are.1
pixels-read total maxval wanted (p ∷ pixels) (r ∷ g ∷ []) tail are ends within most = absurd are.1.1
pixels-read total maxval wanted (p ∷ pixels) (r ∷ g ∷ b ∷ fields) tail are ends within most =
    let rest : List ℕ = concat fields ++ tail in
    let later = pixels-read total maxval wanted pixels fields tail are.1.1.1 ends within.1.1.1 most in
    let last_ends = fields-end fields (samples_of pixels) tail are.1.1.1 (tail-ends tail ends) in
    let blue = one_sample total maxval wanted b (concat fields ++ tail) p.b are.1.1.0 last_ends within.1.1.0 most in
    let green = one_sample total maxval wanted g (b ++ (concat fields ++ tail)) p.g are.1.0 (field-ends b (concat fields ++ tail) p.b are.1.1.0) within.1.0 most in
    let red = one_sample total maxval wanted r (g ++ (b ++ (concat fields ++ tail))) p.r are.0 (field-ends g (b ++ (concat fields ++ tail)) p.g are.1.0) within.0 most in
    let whole : concat (r ∷ g ∷ b ∷ fields) ++ tail ≡ r ++ (g ++ (b ++ (concat fields ++ tail))) =
    append_assoc r (g ++ (b ++ concat fields)) tail ∙ ap (λ t. r ++ t) (append_assoc g (b ++ concat fields) tail ∙ ap (λ t. g ++ t) (append_assoc b (concat fields) tail)) in
    subst (ReadsPixels total maxval wanted (p ∷ pixels)) (sym whole)
    (three total maxval wanted p pixels (r ++ (g ++ (b ++ (concat fields ++ tail)))) (g ++ (b ++ (concat fields ++ tail))) (b ++ (concat fields ++ tail)) (concat fields ++ tail) red green blue later)
  where
    three : (total maxval wanted : ℕ) (p : Colour) (pixels : List Colour) (one two last rest : List ℕ) → OneSample total maxval wanted one two p.r → OneSample total maxval wanted two last p.g → OneSample total maxval wanted last rest p.b → ReadsPixels total maxval wanted pixels rest → ReadsPixels total maxval wanted (p ∷ pixels) one
    three total maxval wanted p pixels one two last rest red green blue later =
        let second : behind_field one ≡ two = red.behind in
        let third : behind_field (behind_field one) ≡ last = ap behind_field red.behind ∙ green.behind in
        let fourth : behind_pixel one ≡ rest = ap behind_field third ∙ blue.behind in
        record {
          none = λ found.
              or_none (pixel_fault total maxval wanted found one) (plain_fault total maxval wanted (found + 3) (length pixels) (behind_pixel one))
              (or_none (sample_fault total maxval wanted found one) (option_or (sample_fault total maxval wanted (found + 1) (behind_field one)) (sample_fault total maxval wanted (found + 2) (behind_field (behind_field one))))
              (red.none found)
              (or_none (sample_fault total maxval wanted (found + 1) (behind_field one)) (sample_fault total maxval wanted (found + 2) (behind_field (behind_field one)))
              (ap (sample_fault total maxval wanted (found + 1)) second ∙ green.none (found + 1))
              (ap (sample_fault total maxval wanted (found + 2)) third ∙ blue.none (found + 2))))
              (ap (plain_fault total maxval wanted (found + 3) (length pixels)) fourth ∙ later.none (found + 3));
          made =
              ap (λ t. plain_pixel one ∷ plain_pixels (length pixels) t) fourth
              ∙ ap (λ ps. plain_pixel one ∷ ps) later.made
              ∙ (λ i. record { r = red.value i; g = (ap field_value second ∙ green.value) i; b = (ap field_value third ∙ blue.value) i } ∷ pixels);
        }

-- ---- what stands

-- behind the last sample only gaps stand, and perhaps a comment that is cut
pub none-tail : (total : ℕ) (text : List ℕ) → tail_fault total text ≡ None → IsTail text
none-tail total text none =
    let parts = parts_of text in
    let start : length (start_of text) ≡ 0 = empty (length (start_of text)) none in
    by parts start
  where
    empty : (n : ℕ) → (if n == 0 then None else Some (Trailing (place_of total (start_of text)))) ≡ None → n ≡ 0
    empty zero is = refl
    empty (suc n) is = absurd (let test : (suc n == 0) ≡ false = nonzero (suc n) (omega arith) in let made = (rw test at is) in cc)

    last : (cut : List ℕ) (stop : SpaceEnd) → Last cut stop → (cut ≡ []) ⊎ IsCommentFront cut
    last cut stop (whole none rest) = inl none
    last cut stop (broken front none rest) = inr front

    nothing : (start : List ℕ) → length start ≡ 0 → start ≡ []
    nothing [] is = refl
    nothing (b ∷ start) is = absurd (omega arith)

    by : Parts text → length (start_of text) ≡ 0 → IsTail text
    by parts start = record {
      gaps = parts.gaps;
      cut = parts.cut;
      each = parts.each;
      last = last parts.cut (stop_of false text) parts.last;
      is = parts.is ∙ ap (λ s. concat parts.gaps ++ (parts.cut ++ s)) (nothing (start_of text) start) ∙ ap (λ c. concat parts.gaps ++ c) (append-nil parts.cut);
    }

-- what holds where a sample has no fault
pub record StandsSample (maxval : ℕ) (text : List ℕ) : Type 0 where
  pub field : StandsField text
  pub ends : ends_token (behind_field text) ≡ true
  pub within : field_value text ≤ maxval

-- an empty front
gone : (front rest : List ℕ) → length front ≡ 0 → front ++ rest ≡ rest
gone [] rest none = refl
gone (b ∷ front) rest none = absurd (omega arith)

-- where a token ends before a text, its start is another
other_start : (text : List ℕ) (gaps cut : List ℕ) → text ≡ gaps ++ (cut ++ start_of text) → ends_token text ≡ true → 0 < length (start_of text) → (token : Bool) → ends_token (start_of text) ≡ token → length (start_of text) ≡ length text → ⊥
other_start text gaps cut is ends some true token long = omega (arith, some, start-first text token)
other_start text gaps cut is ends some false token long =
    let front : length gaps ≡ 0 = omega (arith, long, ap length is, length-append gaps (cut ++ start_of text), length-append cut (start_of text)) in
    let middle : length cut ≡ 0 = omega (arith, long, ap length is, length-append gaps (cut ++ start_of text), length-append cut (start_of text)) in
    let alone : text ≡ start_of text = is ∙ gone gaps (cut ++ start_of text) front ∙ gone cut (start_of text) middle in
    let token_text : ends_token text ≡ false = ap ends_token alone ∙ token in
    cc

less : (a b : ℕ) → a ≤ b → (a ≡ b → ⊥) → a < b
less a b small other = omega (arith, small, other)

shorter_start : (text : List ℕ) → ends_token text ≡ true → 0 < length (start_of text) → length (start_of text) < length text
shorter_start text ends some =
    let parts = parts_of text in
    less (length (start_of text)) (length text)
    (omega (arith, ap length parts.is, length-append (concat parts.gaps) (parts.cut ++ start_of text), length-append parts.cut (start_of text)))
    (other_start text (concat parts.gaps) parts.cut parts.is ends some (ends_token (start_of text)) refl)

pub none-sample : (total maxval wanted found : ℕ) (text : List ℕ) → ends_token text ≡ true → sample_fault total maxval wanted found text ≡ None → StandsSample maxval text
none-sample total maxval wanted found text before none = by (length (start_of text) == 0) refl (ends_token (behind_field text)) refl (nat_lt maxval (field_value text)) refl none
  where
    some_start : (n : ℕ) → (n == 0) ≡ false → 0 < n
    some_start n test = grind (arith, nat_tests)

    digits : 0 < length (start_of text) → ends_token (behind_field text) ≡ true → 0 < length (digits_of (start_of text))
    digits some ends = cases (length (digits_of (start_of text))) refl
      where
        cases : (n : ℕ) → length (digits_of (start_of text)) ≡ n → 0 < length (digits_of (start_of text))
        cases (suc n) is = omega (arith, is)
        cases zero is =
            let same : behind_field text ≡ start_of text = no-digits (start_of text) is in
            let token : ends_token (start_of text) ≡ true = sym (ap ends_token same) ∙ ends in
            absurd (omega (arith, some, start-first text token))

    by : (none_left : Bool) → (length (start_of text) == 0) ≡ none_left → (token : Bool) → ends_token (behind_field text) ≡ token → (above : Bool) → nat_lt maxval (field_value text) ≡ above → (if none_left then Some (Truncated wanted found) else if not token then Some (BadSample (place_of total (start_of text))) else if above then Some (SampleAboveMaxval (place_of total (start_of text))) else None) ≡ None → StandsSample maxval text
    by true start token ends above is made = absurd (cc)
    by false start false ends above is made = absurd (cc)
    by false start true ends true is made = absurd (cc)
    by false start true ends false is made =
        let some : 0 < length (start_of text) = some_start (length (start_of text)) start in
        record {
          field = stands text (digits some ends) (shorter_start text before some);
          ends = ends;
          within = ltb-false maxval (field_value text) is;
        }

pub record StandPixels (maxval count : ℕ) (text : List ℕ) : Type 0 where
  pub fields : List (List ℕ)
  pub tail : List ℕ
  pub is : text ≡ concat fields ++ tail
  pub are : AreFields fields (samples_of (plain_pixels count text))
  pub ends : IsTail tail
  pub within : AreWithin maxval (samples_of (plain_pixels count text))
  pub as_many : length (plain_pixels count text) ≡ count

uncapped : (n maxval : ℕ) → min n 4294967295 ≤ maxval → maxval ≤ 65535 → n ≡ min n 4294967295
uncapped n maxval small most = omega arith

sample_field : (maxval : ℕ) (text : List ℕ) → (sample : StandsSample maxval text) → maxval ≤ 65535 → IsField sample.field.bytes (field_value text)
sample_field maxval text sample most = subst (IsField sample.field.bytes) (uncapped (written_value text) maxval sample.within most) sample.field.field

pub none-pixels : (total maxval wanted found count : ℕ) (text : List ℕ) → maxval ≤ 65535 → ends_token text ≡ true → plain_fault total maxval wanted found count text ≡ None → StandPixels maxval count text
none-pixels total maxval wanted found zero text most before none = record { fields = []; tail = text; is = refl; are = tt; ends = none-tail total text none; within = tt; as_many = refl }
none-pixels total maxval wanted found (suc count) text most before none =
    let both = both_none (pixel_fault total maxval wanted found text) (plain_fault total maxval wanted (found + 3) count (behind_pixel text)) none in
    let first = both_none (sample_fault total maxval wanted found text) (option_or (sample_fault total maxval wanted (found + 1) (behind_field text)) (sample_fault total maxval wanted (found + 2) (behind_field (behind_field text)))) both.0 in
    let second = both_none (sample_fault total maxval wanted (found + 1) (behind_field text)) (sample_fault total maxval wanted (found + 2) (behind_field (behind_field text))) first.1 in
    let red = none-sample total maxval wanted found text before first.0 in
    let green = none-sample total maxval wanted (found + 1) (behind_field text) red.ends second.0 in
    let blue = none-sample total maxval wanted (found + 2) (behind_field (behind_field text)) green.ends second.1 in
    let later = none-pixels total maxval wanted (found + 3) count (behind_pixel text) most blue.ends both.1 in
    record {
      fields = red.field.bytes ∷ green.field.bytes ∷ blue.field.bytes ∷ later.fields;
      tail = later.tail;
      is =
          red.field.is ∙ ap (λ t. red.field.bytes ++ t) (green.field.is ∙ ap (λ t. green.field.bytes ++ t) (blue.field.is ∙ ap (λ t. blue.field.bytes ++ t) later.is))
          ∙ sym (append_assoc red.field.bytes (green.field.bytes ++ (blue.field.bytes ++ concat later.fields)) later.tail
          ∙ ap (λ t. red.field.bytes ++ t) (append_assoc green.field.bytes (blue.field.bytes ++ concat later.fields) later.tail
          ∙ ap (λ t. green.field.bytes ++ t) (append_assoc blue.field.bytes (concat later.fields) later.tail)));
      are = (sample_field maxval text red most, (sample_field maxval (behind_field text) green most, (sample_field maxval (behind_field (behind_field text)) blue most, later.are)));
      ends = later.ends;
      within = (red.within, (green.within, (blue.within, later.within)));
      as_many = omega (arith, later.as_many);
    }

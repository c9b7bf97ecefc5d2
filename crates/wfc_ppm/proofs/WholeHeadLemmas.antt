-- A header that goes on behind a fault has none: what can't be continued to one, nor to a picture.
use Rattle.std.proofs.Common.{◌≡◌, ℕ, zero, suc, ◌+◌, ◌*◌, ◌<◌, ◌≤◌, ◌==◌, true, false, List, [], ◌∷◌, ◌++◌, append-nil, length, take, drop, min, inl, inr, Option, None, Some, refl, sym, ap, ◌∙◌, arith, append_assoc, codes, if◌then◌else◌}
use Rattle.std.specs.List.{concat}
use Rattle.std.specs.Option.{option_or}
use Rattle.std.proofs.Math.Nat.{mul-le-mul_left}
use Rattle.std.proofs.lemmas.Bool.Decides.{nat_tests}
use Rattle.std.proofs.lemmas.List.{length-take, take-append-drop}
use Rattle.wfc_lists.proofs.Options.{or_none}
use Rattle.wfc_picture.specs.declared.symbol.Colour.{Colour}
use Rattle.wfc_ppm.specs.Fault.{end_fault, ends_token, field_fault, form_of, gap_fault, header_fault, side_fault, space_fault}
use Rattle.wfc_ppm.specs.Field.{SpaceEnd, behind_field, field_value, place_of, start_of, stop_of}
use Rattle.wfc_ppm.specs.Front.{IsHeadEnd, IsWholeHead, StartsHead, digits_end, form_magic}
use Rattle.wfc_ppm.specs.Ppm.{PpmView, IsPpm, samples_of, raw_bytes}
use Rattle.wfc_ppm.specs.Spelling.{AreFields, IsField, IsHead, IsTail, SpellsPpm}
use Rattle.wfc_ppm.specs.declared.reading.PpmForm.{PpmForm}
use Rattle.wfc_ppm.specs.declared.reading.PpmForm.TheVariants.{Raw, Plain}
use Rattle.wfc_ppm.specs.declared.reading.PpmFault.{PpmFault}
use Rattle.wfc_ppm.specs.declared.reading.PpmFault.TheVariants.{Header}
use Rattle.wfc_ppm.proofs.FaultPlaceLemmas.{Found, header_place}
use Rattle.wfc_ppm.proofs.FieldLemmas.{Stops, field-no_fault, field-reads, field-stops, longer_gaps, token-stops}
use Rattle.wfc_ppm.proofs.GapLemmas.{gaps-end, space-test, stop-gaps, tail-ends}
use Rattle.wfc_ppm.proofs.HeadLemmas.{gap-none, magic-stands, magic_of, space-none}
use Rattle.wfc_ppm.proofs.PlainLemmas.{fields-end}
use Rattle.wfc_ppm.proofs.StandingFaultLemmas.{header_stays}

-- ---- a whole header has no fault

whole_side : (total : ℕ) (bytes rest : List ℕ) (n : ℕ) → IsField bytes n → Stops rest → 0 < n → side_fault total (bytes ++ rest) ≡ None
whole_side total bytes rest n field stops some =
    let value : field_value (bytes ++ rest) ≡ min n 4294967295 = (field-reads bytes rest n field stops).value in
    let test : (field_value (bytes ++ rest) == 0) ≡ false = nonzero (field_value (bytes ++ rest)) (omega (arith, value, some)) in
    or_none (field_fault total (bytes ++ rest)) (if field_value (bytes ++ rest) == 0 then Some (Header (place_of total (start_of (bytes ++ rest)))) else None)
    (field-no_fault total bytes rest n field stops) (rw test refl)
  where
    nonzero : (n : ℕ) → 0 < n → (n == 0) ≡ false
    nonzero n some = grind (arith, nat_tests)

whole_end : (form : PpmForm) (total : ℕ) (behind : List ℕ) → IsHeadEnd form behind → (end_fault form total behind ≡ None) × (ends_token behind ≡ true)
whole_end Raw total behind (byte, space, is) =
    let test = space-test byte space in
    (ap (space_fault total) is ∙ (rw test refl), ap ends_token is ∙ (rw test refl))
whole_end Plain total behind apart =
    let none : behind ≡ concat apart.gaps ++ [] = apart.is ∙ sym (append-nil (concat apart.gaps)) in
    let stop : stop_of false behind ≡ record { rest = []; cut = false } = ap (stop_of false) none ∙ stop-gaps apart.gaps [] apart.each in
    let long : 0 < length behind = omega (arith, longer_gaps apart.gaps apart.each apart.some, ap length apart.is) in
    let start : length (start_of behind) ≡ 0 = ap (λ (s : SpaceEnd). length s.rest) stop in
    let test : (length (start_of behind) == length behind) ≡ false = unlike (length (start_of behind)) (length behind) (omega (arith, start, long)) in
    let shut : (stop_of false behind).cut ≡ false = ap (λ (s : SpaceEnd). s.cut) stop in
    (rw (test, shut) refl, ap ends_token none ∙ gaps-end apart.gaps [] apart.each apart.some)
  where
    unlike : (a b : ℕ) → a < b → (a == b) ≡ false
    unlike a b less = grind (arith, nat_tests)

behind_magic : (form : PpmForm) (rest : List ℕ) → drop 2 (form_magic form ++ rest) ≡ rest
behind_magic Raw rest = refl
behind_magic Plain rest = refl

-- three fields, sides of at least 1, and what has no fault behind them
pub fields_no_fault : (form : PpmForm) (total : ℕ) (wide high most rest : List ℕ) (width height maxval : ℕ) → IsField wide width → 0 < width → IsField high height → 0 < height → IsField most maxval
    → ends_token rest ≡ true → end_fault form total rest ≡ None → header_fault form total (wide ++ (high ++ (most ++ rest))) ≡ None
fields_no_fault form total wide high most rest width height maxval wide_is some_width high_is some_height most_is token none =
    let text : List ℕ = wide ++ (high ++ (most ++ rest)) in
    let stops : Stops rest = token-stops rest token in
    let most_stops = field-stops most rest maxval most_is in
    let high_stops = field-stops high (most ++ rest) height high_is in
    let two : behind_field (wide ++ (high ++ (most ++ rest))) ≡ high ++ (most ++ rest) = (field-reads wide (high ++ (most ++ rest)) width wide_is high_stops).behind in
    let three : behind_field (behind_field (wide ++ (high ++ (most ++ rest)))) ≡ most ++ rest = ap behind_field two ∙ (field-reads high (most ++ rest) height high_is most_stops).behind in
    let four : behind_field (behind_field (behind_field (wide ++ (high ++ (most ++ rest))))) ≡ rest = ap behind_field three ∙ (field-reads most rest maxval most_is stops).behind in
    or_none (side_fault total text) (option_or (side_fault total (behind_field text)) (option_or (field_fault total (behind_field (behind_field text))) (end_fault form total (behind_field (behind_field (behind_field text))))))
    (whole_side total wide (high ++ (most ++ rest)) width wide_is high_stops some_width)
    (or_none (side_fault total (behind_field text)) (option_or (field_fault total (behind_field (behind_field text))) (end_fault form total (behind_field (behind_field (behind_field text)))))
    (ap (side_fault total) two ∙ whole_side total high (most ++ rest) height high_is most_stops some_height)
    (or_none (field_fault total (behind_field (behind_field text))) (end_fault form total (behind_field (behind_field (behind_field text))))
    (ap (field_fault total) three ∙ field-no_fault total most rest maxval most_is stops)
    (ap (end_fault form total) four ∙ none)))

pub whole_no_fault : (form : PpmForm) (total : ℕ) (bytes : List ℕ) → IsWholeHead form bytes → header_fault form total (drop 2 bytes) ≡ None
whole_no_fault form total bytes h =
    let ends = whole_end form total h.behind h.behind_is in
    ap (header_fault form total) (ap (drop 2) h.is ∙ behind_magic form (h.wide ++ (h.high ++ (h.most ++ h.behind))))
    ∙ fields_no_fault form total h.wide h.high h.most h.behind h.width h.height h.maxval h.wide_is h.some_width h.high_is h.some_height h.most_is ends.1 ends.0

-- ---- nor has that of a picture, of any size

head_no_fault : (form : PpmForm) (total : ℕ) (text head rest : List ℕ) (ppm : PpmView) → IsPpm ppm → IsHead (form_magic form) head ppm → text ≡ head ++ rest → ends_token rest ≡ true → end_fault form total rest ≡ None → header_fault form total (drop 2 text) ≡ None
head_no_fault form total text head rest ppm picture heads is token none =
    let fields : drop 2 text ≡ heads.wide ++ (heads.high ++ (heads.most ++ rest)) =
    ap (drop 2) (is ∙ ap (λ h. h ++ rest) heads.is ∙ append_assoc (form_magic form) (heads.wide ++ (heads.high ++ heads.most)) rest)
    ∙ behind_magic form ((heads.wide ++ (heads.high ++ heads.most)) ++ rest)
    ∙ append_assoc heads.wide (heads.high ++ heads.most) rest
    ∙ ap (λ t. heads.wide ++ t) (append_assoc heads.high heads.most rest) in
    ap (header_fault form total) fields
    ∙ fields_no_fault form total heads.wide heads.high heads.most rest ppm.width ppm.height ppm.maxval heads.width picture.filled.some_column heads.height picture.filled.some_row heads.maxval token none

plain_end : (total : ℕ) (fields : List (List ℕ)) (numbers : List ℕ) (tail : List ℕ) → AreFields fields numbers → 0 < length numbers → IsTail tail → gap_fault total (concat fields ++ tail) ≡ None
plain_end total [] [] tail are some ends = absurd (omega arith)
plain_end total [] (n ∷ numbers) tail are some ends = absurd are
plain_end total (bytes ∷ fields) [] tail are some ends = absurd are
plain_end total (bytes ∷ fields) (n ∷ numbers) tail are some ends =
    let stops = token-stops (concat fields ++ tail) (fields-end fields numbers tail are.1 (tail-ends tail ends)) in
    ap (gap_fault total) (append_assoc bytes (concat fields) tail)
    ∙ gap-none total (bytes ++ (concat fields ++ tail)) are.0.digits (concat fields ++ tail) n (field-reads bytes (concat fields ++ tail) n are.0 stops)

some_pixels : (width height : ℕ) → 0 < width → 0 < height → 0 < width * height
some_pixels width height wide high = omega (arith, mul-le-mul_left {m = 1} {n = height} width high, wide)

some_sample : (pixels : List Colour) → 0 < length pixels → 0 < length (samples_of pixels)
some_sample [] some = some
some_sample (pixel ∷ pixels) some = omega arith

spelled_no_fault : (text : List ℕ) (ppm : PpmView) → SpellsPpm text ppm → (form : PpmForm) × ((total : ℕ) → header_fault form total (drop 2 text) ≡ None) × (form_of text ≡ Some form)
spelled_no_fault text ppm (inl raw) =
    let token : ends_token (raw.space ∷ raw_bytes ppm.maxval ppm.pixels) ≡ true = (let test = space-test raw.space raw.spaces in rw test refl) in (
      Raw,
      (λ total. head_no_fault Raw total text raw.head (raw.space ∷ raw_bytes ppm.maxval ppm.pixels) ppm raw.picture raw.heads raw.is token (space-none total raw.space (raw_bytes ppm.maxval ppm.pixels) raw.spaces)),
      ap form_of (raw.is ∙ ap (λ h. h ++ raw.space ∷ raw_bytes ppm.maxval ppm.pixels) raw.heads.is ∙ append_assoc (codes "P6") (raw.heads.wide ++ (raw.heads.high ++ raw.heads.most)) (raw.space ∷ raw_bytes ppm.maxval ppm.pixels)),
    )
spelled_no_fault text ppm (inr plain) =
    let token = fields-end plain.fields (samples_of ppm.pixels) plain.tail plain.samples (tail-ends plain.tail plain.ends) in
    let some : 0 < length (samples_of ppm.pixels) = some_sample ppm.pixels (omega (arith, plain.picture.filled.as_many, some_pixels ppm.width ppm.height plain.picture.filled.some_column plain.picture.filled.some_row)) in (
      Plain,
      (λ total. head_no_fault Plain total text plain.head (concat plain.fields ++ plain.tail) ppm plain.picture plain.heads plain.is token (plain_end total plain.fields (samples_of ppm.pixels) plain.tail plain.samples some plain.ends)),
      ap form_of (plain.is ∙ ap (λ h. h ++ (concat plain.fields ++ plain.tail)) plain.heads.is ∙ append_assoc (codes "P3") (plain.heads.wide ++ (plain.heads.high ++ plain.heads.most)) (concat plain.fields ++ plain.tail)),
    )

-- the bytes up to a fault of the header, with the digits there and the byte behind them, can't be continued to a header
pub no_header_behind : (form : PpmForm) (text : List ℕ) (at : ℕ) → digits_end text at < length text → header_fault form (length text) (drop 2 text) ≡ Some (Header at) → StartsHead form (take (digits_end text at + 1) text) → ⊥
no_header_behind form text at inside fault (rest, whole) = by (digits_end text at + 1) refl whole
  where
    none_found : (o : Option PpmFault) → Found o → o ≡ None → ⊥
    none_found o (fault, is) none = cc

    by : (n : ℕ) → digits_end text at + 1 ≡ n → IsWholeHead form (take n text ++ rest) → ⊥
    by n is whole =
        let long : length (take n text) ≡ n = length-take n text ∙ omega (arith, inside, is) in
        let found = header_stays form text at (take n text) (drop n text) rest 0 (sym (take-append-drop n text)) (omega (arith, long, is)) fault in
        let none = whole_no_fault form 0 (take n text ++ rest) whole in
        none_found (header_fault form 0 (drop 2 (take n text ++ rest))) found none

-- nor to a picture
same_form : (text rest : List ℕ) (n : ℕ) → 2 ≤ length text → 2 ≤ n → form_of (take n text ++ rest) ≡ form_of text
same_form [] rest n some least = absurd (omega arith)
same_form (a ∷ []) rest n some least = absurd (omega arith)
same_form (a ∷ b ∷ text) rest zero some least = absurd (omega arith)
same_form (a ∷ b ∷ text) rest (suc zero) some least = absurd (omega arith)
same_form (a ∷ b ∷ text) rest (suc (suc n)) some least = refl

pub no_picture_behind : (form : PpmForm) (text : List ℕ) (at : ℕ) (rest : List ℕ) (ppm : PpmView) → form_of text ≡ Some form → digits_end text at < length text → header_fault form (length text) (drop 2 text) ≡ Some (Header at) → SpellsPpm (take (digits_end text at + 1) text ++ rest) ppm → ⊥
no_picture_behind form text at rest ppm formed inside fault spells = by (digits_end text at + 1) refl spells
  where
    magics : length text ≡ 2 + length (drop 2 text)
    magics = ap length (magic-stands form text formed) ∙ long form
      where
        long : (form : PpmForm) → length (magic_of form ++ drop 2 text) ≡ 2 + length (drop 2 text)
        long Raw = omega arith
        long Plain = omega arith

    none_found : (o : Option PpmFault) → Found o → o ≡ None → ⊥
    none_found o (fault, is) none = cc

    same : (a b : PpmForm) → Some a ≡ Some b → a ≡ b
    same a b e = cc

    by : (n : ℕ) → digits_end text at + 1 ≡ n → SpellsPpm (take n text ++ rest) ppm → ⊥
    by n is spells =
        let place = header_place form (length text) (drop 2 text) at fault in
        let long : length (take n text) ≡ n = length-take n text ∙ omega (arith, inside, is) in
        let none = spelled_no_fault (take n text ++ rest) ppm spells in
        let one : none.0 ≡ form = same none.0 form (sym none.2 ∙ same_form text rest n (omega (arith, magics)) (omega (arith, magics, is, place)) ∙ formed) in
        none_found (header_fault form 0 (drop 2 (take n text ++ rest)))
        (header_stays form text at (take n text) (drop n text) rest 0 (sym (take-append-drop n text)) (omega (arith, long, is)) fault)
        (sym (ap (λ f. header_fault f 0 (drop 2 (take n text ++ rest))) one) ∙ none.1 0)

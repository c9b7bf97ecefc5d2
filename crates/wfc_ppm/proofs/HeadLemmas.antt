-- Headers: what is read where one stands, and the header that stands where no fault is.
use Rattle.std.proofs.Common.{◌≡◌, ℕ, ◌*◌, ◌<◌, ◌≤◌, ◌==◌, ◌||◌, List, [], ◌∷◌, ◌++◌, length, take, drop, refl, sym, ap, ◌∙◌, append_assoc, arith, true, false, Bool, None, Some, min, nat_lt, if◌then◌else◌, codes, subst}
use Rattle.std.proofs.lemmas.Bool.Decides.{nat_tests}
use Rattle.std.proofs.lemmas.Slice.Eq.{bytes_eq-Decides}
use Rattle.std.proofs.lemmas.Bool.{ltb-false}
use Rattle.std.proofs.Math.Nat.{mul-le-mul_left}
use Rattle.std.proofs.lemmas.List.{take-append-drop}
use Rattle.std.specs.Option.{option_or}
use Rattle.std.specs.Str.{bytes_eq}
use Rattle.wfc_lists.proofs.Options.{both_none, or_none}
use Rattle.wfc_ppm.specs.Fault.{form_of, head_of, ends_token, field_fault, side_fault, space_fault, gap_fault, end_fault, header_fault, maxval_fault, pixel_count_fault}
use Rattle.wfc_ppm.specs.Field.{is_space, SpaceEnd, stop_of, start_of, field_value, behind_field, place_of}
use Rattle.wfc_ppm.specs.Ppm.{PpmView}
use Rattle.wfc_ppm.specs.Spelling.{IsField, IsHead, IsSpace}
use Rattle.wfc_ppm.specs.declared.reading.PpmForm.{PpmForm}
use Rattle.wfc_ppm.specs.declared.reading.PpmForm.TheVariants.{Raw, Plain}
use Rattle.wfc_ppm.specs.declared.reading.PpmFault.{PpmFault}
use Rattle.wfc_ppm.specs.declared.reading.PpmFault.TheVariants.{Header, Maxval, TooLarge}
use Rattle.wfc_ppm.proofs.GapLemmas.{space-test, test-space, longer-ends}
use Rattle.wfc_ppm.proofs.FieldLemmas.{Stops, ReadsField, field-reads, field-no_fault, field-stops, StandsField, no_fault-stands, written_value}

-- ---- small numbers

capped : (n : ℕ) → n ≤ 1048576 → min n 4294967295 ≡ n
capped n small = omega arith

uncapped : (n : ℕ) → min n 4294967295 ≤ 1048576 → n ≡ min n 4294967295
uncapped n small = omega arith

-- a side of a picture that is not too large is small
pub side-small : (width height : ℕ) → 0 < height → width * height ≤ 1048576 → width ≤ 1048576
side-small width height some small = omega (arith, mul-le-mul_left {m = 1} {n = height} width some)

pub sides-small : (width height : ℕ) → 0 < width → 0 < height → width * height ≤ 1048576 → (width ≤ 1048576) × (height ≤ 1048576)
sides-small width height wide high small = (side-small width height high small, omega (arith, mul-le-mul_left {m = 1} {n = width} height wide))

-- ---- tests

nonzero : (n : ℕ) → 0 < n → (n == 0) ≡ false
nonzero n some = grind (arith, nat_tests)

zero_none : (zero_test : Bool) (fault : PpmFault) → (if zero_test then Some fault else None) ≡ None → zero_test ≡ false
zero_none true fault is = cc
zero_none false fault is = refl

some_number : (n : ℕ) → (n == 0) ≡ false → 0 < n
some_number n test = grind (arith, nat_tests)

pub maxval-none : (maxval : ℕ) → 0 < maxval → maxval ≤ 65535 → maxval_fault maxval ≡ None
maxval-none maxval some small =
    let zero_test : (maxval == 0) ≡ false = nonzero maxval some in
    let large : nat_lt 65535 maxval ≡ false = grind (arith, nat_tests) in
    rw (zero_test, large) refl

pub none-maxval : (maxval : ℕ) → maxval_fault maxval ≡ None → (0 < maxval) × (maxval ≤ 65535)
none-maxval maxval none = by (maxval == 0) refl (nat_lt 65535 maxval) refl none
  where
    by : (z : Bool) → (maxval == 0) ≡ z → (l : Bool) → nat_lt 65535 maxval ≡ l → (if z || l then Some (Maxval maxval) else None) ≡ None → (0 < maxval) × (maxval ≤ 65535)
    by true z l large is = absurd (cc)
    by false z true large is = absurd (cc)
    by false z false large is = (some_number maxval z, ltb-false 65535 maxval large)

pub size-none : (width height : ℕ) → width * height ≤ 1048576 → pixel_count_fault width height ≡ None
size-none width height small = let test : nat_lt 1048576 (width * height) ≡ false = grind (arith, nat_tests) in rw test refl

pub none-size : (width height : ℕ) → pixel_count_fault width height ≡ None → width * height ≤ 1048576
none-size width height none = ltb-false 1048576 (width * height) (zero_none (nat_lt 1048576 (width * height)) TooLarge none)

-- ---- the magic

pub form-raw : (rest : List ℕ) → form_of (codes "P6" ++ rest) ≡ Some Raw
form-raw rest = refl

pub form-plain : (rest : List ℕ) → form_of (codes "P3" ++ rest) ≡ Some Plain
form-plain rest = refl

magic_parts : (text magic : List ℕ) → bytes_eq (take 2 text) magic ≡ true → text ≡ magic ++ drop 2 text
magic_parts text magic test = sym (take-append-drop 2 text) ∙ ap (λ m. m ++ drop 2 text) ((bytes_eq-Decides (take 2 text) magic).0 test)

abbrev pub magic_of : PpmForm → List ℕ
magic_of Raw = codes "P6"
magic_of Plain = codes "P3"

pub magic-stands : (form : PpmForm) (text : List ℕ) → form_of text ≡ Some form → text ≡ magic_of form ++ drop 2 text
magic-stands form text is = by (bytes_eq (take 2 text) (codes "P6")) refl (bytes_eq (take 2 text) (codes "P3")) refl form is
  where
    by : (six : Bool) → bytes_eq (take 2 text) (codes "P6") ≡ six → (three : Bool) → bytes_eq (take 2 text) (codes "P3") ≡ three → (form : PpmForm) → (if six then Some Raw else if three then Some Plain else None) ≡ Some form → text ≡ magic_of form ++ drop 2 text
    by true six three other Raw is = magic_parts text (codes "P6") six
    by true six three other Plain is = absurd (cc)
    by false six true three Raw is = absurd (cc)
    by false six true three Plain is = magic_parts text (codes "P3") three
    by false six false three form is = absurd (cc)

-- ---- what is read where a header stands

pub record ReadsHead (form : PpmForm) (text rest : List ℕ) (ppm : PpmView) : Type 0 where
  pub width : (head_of text).width ≡ ppm.width
  pub height : (head_of text).height ≡ ppm.height
  pub maxval : (head_of text).maxval ≡ ppm.maxval
  pub behind : (head_of text).rest ≡ rest
  pub no_fault : (total : ℕ) → header_fault form total (drop 2 text) ≡ end_fault form total rest

side-no_fault : (total : ℕ) (bytes rest : List ℕ) (n : ℕ) → IsField bytes n → Stops rest → 0 < n → n ≤ 1048576 → side_fault total (bytes ++ rest) ≡ None
side-no_fault total bytes rest n field stops some small =
    let value : field_value (bytes ++ rest) ≡ n = (field-reads bytes rest n field stops).value ∙ capped n small in
    let test : (field_value (bytes ++ rest) == 0) ≡ false = nonzero (field_value (bytes ++ rest)) (omega (arith, value)) in
    or_none (field_fault total (bytes ++ rest)) (if field_value (bytes ++ rest) == 0 then Some (Header (place_of total (start_of (bytes ++ rest)))) else None)
    (field-no_fault total bytes rest n field stops) (rw test refl)

pub head-reads : (form : PpmForm) (magic head rest text : List ℕ) (ppm : PpmView) → (heads : IsHead magic head ppm) → ((t : List ℕ) → drop 2 (magic ++ t) ≡ t) → text ≡ head ++ rest → Stops rest → 0 < ppm.width → ppm.width ≤ 1048576 → 0 < ppm.height → ppm.height ≤ 1048576 → ppm.maxval ≤ 65535 → ReadsHead form text rest ppm
head-reads form magic head rest text ppm heads two is stops wide wide_small high high_small most =
    let t : List ℕ = heads.wide ++ (heads.high ++ (heads.most ++ rest)) in
    let behind_magic : drop 2 text ≡ heads.wide ++ (heads.high ++ (heads.most ++ rest)) =
    ap (drop 2) (is ∙ ap (λ h. h ++ rest) heads.is ∙ append_assoc magic (heads.wide ++ (heads.high ++ heads.most)) rest)
    ∙ two ((heads.wide ++ (heads.high ++ heads.most)) ++ rest)
    ∙ append_assoc heads.wide (heads.high ++ heads.most) rest
    ∙ ap (λ t. heads.wide ++ t) (append_assoc heads.high heads.most rest) in
    let most_stops = field-stops heads.most rest ppm.maxval heads.maxval in
    let high_stops = field-stops heads.high (heads.most ++ rest) ppm.height heads.height in
    let width = field-reads heads.wide (heads.high ++ (heads.most ++ rest)) ppm.width heads.width high_stops in
    let height = field-reads heads.high (heads.most ++ rest) ppm.height heads.height most_stops in
    let maxval = field-reads heads.most rest ppm.maxval heads.maxval stops in
    let one : behind_field (drop 2 text) ≡ heads.high ++ (heads.most ++ rest) = ap behind_field behind_magic ∙ width.behind in
    let two_on : behind_field (behind_field (drop 2 text)) ≡ heads.most ++ rest = ap behind_field one ∙ height.behind in
    let three_on : behind_field (behind_field (behind_field (drop 2 text))) ≡ rest = ap behind_field two_on ∙ maxval.behind in
    record {
      width = ap field_value behind_magic ∙ width.value ∙ capped ppm.width wide_small;
      height = ap field_value one ∙ height.value ∙ capped ppm.height high_small;
      maxval = ap field_value two_on ∙ maxval.value ∙ capped ppm.maxval (omega arith);
      behind = three_on;
      no_fault = λ total.
          ap (λ f. option_or f (option_or (side_fault total (behind_field (drop 2 text))) (option_or (field_fault total (behind_field (behind_field (drop 2 text)))) (end_fault form total (behind_field (behind_field (behind_field (drop 2 text)))))))) (ap (side_fault total) behind_magic ∙ side-no_fault total heads.wide (heads.high ++ (heads.most ++ rest)) ppm.width heads.width high_stops wide wide_small)
          ∙ ap (λ f. option_or f (option_or (field_fault total (behind_field (behind_field (drop 2 text)))) (end_fault form total (behind_field (behind_field (behind_field (drop 2 text))))))) (ap (side_fault total) one ∙ side-no_fault total heads.high (heads.most ++ rest) ppm.height heads.height most_stops high high_small)
          ∙ ap (λ f. option_or f (end_fault form total (behind_field (behind_field (behind_field (drop 2 text)))))) (ap (field_fault total) two_on ∙ field-no_fault total heads.most rest ppm.maxval heads.maxval stops)
          ∙ ap (end_fault form total) three_on;
    }

-- ---- the header that stands where no fault is

pub record StandsHead (form : PpmForm) (total : ℕ) (text : List ℕ) : Type 0 where
  pub wide : StandsField (drop 2 text)
  pub some_width : 0 < (head_of text).width
  pub high : StandsField (behind_field (drop 2 text))
  pub some_height : 0 < (head_of text).height
  pub most : StandsField (behind_field (behind_field (drop 2 text)))
  pub end_none : end_fault form total (head_of text).rest ≡ None

side-stands : (total : ℕ) (text : List ℕ) → side_fault total text ≡ None → StandsField text × (0 < field_value text)
side-stands total text none =
    let parts = both_none (field_fault total text) (if field_value text == 0 then Some (Header (place_of total (start_of text))) else None) none in
    (no_fault-stands total text parts.0, some_number (field_value text) (zero_none (field_value text == 0) (Header (place_of total (start_of text))) parts.1))

pub head-stands : (form : PpmForm) (total : ℕ) (text : List ℕ) → header_fault form total (drop 2 text) ≡ None → StandsHead form total text
head-stands form total text none =
    let one = both_none (side_fault total (drop 2 text)) (option_or (side_fault total (behind_field (drop 2 text))) (option_or (field_fault total (behind_field (behind_field (drop 2 text)))) (end_fault form total (behind_field (behind_field (behind_field (drop 2 text))))))) none in
    let two = both_none (side_fault total (behind_field (drop 2 text))) (option_or (field_fault total (behind_field (behind_field (drop 2 text)))) (end_fault form total (behind_field (behind_field (behind_field (drop 2 text)))))) one.1 in
    let three = both_none (field_fault total (behind_field (behind_field (drop 2 text)))) (end_fault form total (behind_field (behind_field (behind_field (drop 2 text))))) two.1 in
    let wide = side-stands total (drop 2 text) one.0 in
    let high = side-stands total (behind_field (drop 2 text)) two.0 in
    record { wide = wide.0; some_width = wide.1; high = high.0; some_height = high.1; most = no_fault-stands total (behind_field (behind_field (drop 2 text))) three.0; end_none = three.1 }

-- a field with the number that is read
field-read : (bytes text : List ℕ) → IsField bytes (written_value text) → field_value text ≤ 1048576 → IsField bytes (field_value text)
field-read bytes text field small = subst (IsField bytes) (uncapped (written_value text) small) field

pub stands-head : (form : PpmForm) (total : ℕ) (text magic : List ℕ) (ppm : PpmView) → (stands : StandsHead form total text) → (head_of text).width ≡ ppm.width → (head_of text).height ≡ ppm.height → (head_of text).maxval ≡ ppm.maxval → ppm.width ≤ 1048576 → ppm.height ≤ 1048576 → ppm.maxval ≤ 65535 → text ≡ magic ++ drop 2 text → (head : List ℕ) × IsHead magic head ppm × (text ≡ head ++ (head_of text).rest)
stands-head form total text magic ppm stands width height maxval wide high most magics =
    let one = field-read stands.wide.bytes (drop 2 text) stands.wide.field (omega (arith, width, wide)) in
    let two = field-read stands.high.bytes (behind_field (drop 2 text)) stands.high.field (omega (arith, height, high)) in
    let three = field-read stands.most.bytes (behind_field (behind_field (drop 2 text))) stands.most.field (omega (arith, maxval, most)) in (
      magic ++ (stands.wide.bytes ++ (stands.high.bytes ++ stands.most.bytes)),
      record {
        wide = stands.wide.bytes;
        high = stands.high.bytes;
        most = stands.most.bytes;
        is = refl;
        width = subst (IsField stands.wide.bytes) width one;
        height = subst (IsField stands.high.bytes) height two;
        maxval = subst (IsField stands.most.bytes) maxval three;
      },
      magics
          ∙ ap (λ t. magic ++ t) (stands.wide.is ∙ ap (λ t. stands.wide.bytes ++ t) (stands.high.is ∙ ap (λ t. stands.high.bytes ++ t) stands.most.is))
          ∙ sym (append_assoc magic (stands.wide.bytes ++ (stands.high.bytes ++ stands.most.bytes)) (head_of text).rest
          ∙ ap (λ t. magic ++ t) (append_assoc stands.wide.bytes (stands.high.bytes ++ stands.most.bytes) (head_of text).rest
          ∙ ap (λ t. stands.wide.bytes ++ t) (append_assoc stands.high.bytes stands.most.bytes (head_of text).rest))),
    )

-- ---- what stands between maxval and the samples

pub space-none : (total space : ℕ) (rest : List ℕ) → IsSpace space → space_fault total (space ∷ rest) ≡ None
space-none total space rest is = let test = space-test space is in rw test refl

pub none-space : (total : ℕ) (rest : List ℕ) → space_fault total rest ≡ None → (space : ℕ) × IsSpace space × (rest ≡ space ∷ drop 1 rest)
none-space total [] none = absurd (cc)
none-space total (byte ∷ rest) none = (byte, test-space byte (by (is_space byte) none), refl)
  where
    by : (space : Bool) → (if space then None else Some (Header (place_of total (byte ∷ rest)))) ≡ None → space ≡ true
    by true is = refl
    by false is = cc

pub gap-none : (total : ℕ) (text digits rest : List ℕ) (n : ℕ) → ReadsField text digits rest n → gap_fault total text ≡ None
gap-none total text digits rest n reads =
    let cut : (stop_of false text).cut ≡ false = ap (λ (s : SpaceEnd). s.cut) reads.stop in
    let start : length (start_of text) ≡ length (digits ++ rest) = ap (λ (s : SpaceEnd). length s.rest) reads.stop in
    let test : (length (start_of text) == length text) ≡ false = unlike (length (start_of text)) (length text) (omega (arith, start, reads.longer)) in
    rw (test, cut) refl
  where
    unlike : (a b : ℕ) → a < b → (a == b) ≡ false
    unlike a b less = grind (arith, nat_tests)

pub none-gap : (total : ℕ) (text : List ℕ) → gap_fault total text ≡ None → ends_token text ≡ true
none-gap total text none = longer-ends text (by (length (start_of text) == length text) (stop_of false text).cut none)
  where
    by : (same cut : Bool) → (if same then Some (Header (place_of total text)) else if cut then Some (Header total) else None) ≡ None → same ≡ false
    by true cut is = cc
    by false cut is = refl

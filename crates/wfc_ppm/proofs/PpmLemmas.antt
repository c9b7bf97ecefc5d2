-- Texts that spell pictures, and how they are read.
use Rattle.std.proofs.Common.{◌≡◌, ℕ, ◌*◌, ◌<◌, ◌≤◌, List, [], ◌∷◌, ◌++◌, length, drop, take, inl, inr, refl, sym, ap, ◌∙◌, arith, true, Option, None, Some, Ok, codes, subst, zero, suc, append_assoc}
use Rattle.std.proofs.lemmas.List.{take_all}
use Rattle.std.proofs.lemmas.List.Elements.{All-from_recursion, recursion_from_All}
use Rattle.std.specs.List.{All, AllByRecursion, concat}
use Rattle.std.specs.Option.{option_or}
use Rattle.wfc_picture.specs.declared.symbol.Colour.{Colour}
use Rattle.wfc_lists.proofs.Options.{both_none, or_none}
use Rattle.wfc_ppm.specs.Fault.{head_of, form_of, fault_of, header_fault, end_fault, maxval_fault, pixel_count_fault, samples_fault, sample_size, raw_samples, plain_fault, ends_token}
use Rattle.wfc_ppm.specs.Ppm.{PpmView, IsPpm, is_within, samples_of, raw_bytes}
use Rattle.wfc_ppm.specs.Reading.{colours_of, plain_pixels, pixels_of, made_of, unless_ppm_fault, ppm_in, ppm_of}
use Rattle.wfc_ppm.specs.Spelling.{AreFields, SpellsP6, SpellsP3, SpellsPpm}
use Rattle.wfc_ppm.specs.declared.reading.PpmForm.{PpmForm}
use Rattle.wfc_ppm.specs.declared.reading.PpmForm.TheVariants.{Raw, Plain}
use Rattle.wfc_ppm.specs.declared.reading.PpmFault.{PpmFault}
use Rattle.wfc_ppm.proofs.GapLemmas.{space-test, tail-ends}
use Rattle.wfc_ppm.proofs.FieldLemmas.{Stops, token-stops, field-reads}
use Rattle.wfc_ppm.proofs.HeadLemmas.{sides-small, maxval-none, none-maxval, size-none, none-size, magic-stands, ReadsHead, head-reads, StandsHead, head-stands, stands-head, space-none, none-space, gap-none, none-gap}
use Rattle.wfc_ppm.proofs.RawLemmas.{AreWithin, raw-bytes, bytes-raw, made-raw, raw-none, none-raw, colours_of-samples, pixels-within, within-pixels}
use Rattle.wfc_ppm.proofs.PlainLemmas.{pixels-read, none-pixels, fields-end}

-- ---- a text that spells a picture is read as it

-- what a text that spells a picture in a form has
pub record Reads (form : PpmForm) (text : List ℕ) (ppm : PpmView) : Type 0 where
  pub formed : form_of text ≡ Some form
  pub none : fault_of form text ≡ None
  pub made : made_of form text ≡ ppm

-- the same of header and pixels
reads_parts : (form : PpmForm) (text rest : List ℕ) (ppm : PpmView) → ReadsHead form text rest ppm → IsPpm ppm → ppm.width * ppm.height ≤ 1048576 → form_of text ≡ Some form → end_fault form (length text) rest ≡ None → samples_fault form (length text) (head_of text) ≡ None → pixels_of form (head_of text) ≡ ppm.pixels → Reads form text ppm
reads_parts form text rest ppm head is within formed end_none samples_none pixels = record {
  formed = formed;
  none =
      or_none (header_fault form (length text) (drop 2 text)) (option_or (maxval_fault (head_of text).maxval) (option_or (pixel_count_fault (head_of text).width (head_of text).height) (samples_fault form (length text) (head_of text))))
      (head.no_fault (length text) ∙ end_none)
      (or_none (maxval_fault (head_of text).maxval) (option_or (pixel_count_fault (head_of text).width (head_of text).height) (samples_fault form (length text) (head_of text)))
      (ap maxval_fault head.maxval ∙ maxval-none ppm.maxval is.some_maxval is.small_maxval)
      (or_none (pixel_count_fault (head_of text).width (head_of text).height) (samples_fault form (length text) (head_of text))
      ((λ i. pixel_count_fault (head.width i) (head.height i)) ∙ size-none ppm.width ppm.height within)
      samples_none));
  made = λ i. record { width = head.width i; height = head.height i; maxval = head.maxval i; pixels = pixels i };
}

-- the header as it is read
head_is : (form : PpmForm) (text rest : List ℕ) (ppm : PpmView) → ReadsHead form text rest ppm → head_of text ≡ record { width = ppm.width; height = ppm.height; maxval = ppm.maxval; rest = rest }
head_is form text rest ppm head = λ i. record { width = head.width i; height = head.height i; maxval = head.maxval i; rest = head.behind i }

-- the samples of a picture are at most maxval
picture_within : (ppm : PpmView) → IsPpm ppm → AreWithin ppm.maxval (samples_of ppm.pixels)
picture_within ppm is = pixels-within ppm.maxval ppm.pixels (recursion_from_All (λ (c : Colour). is_within ppm.maxval c ≡ true) ppm.pixels is.samples)

space_stops : (space : ℕ) (rest : List ℕ) → ends_token (space ∷ rest) ≡ true → Stops (space ∷ rest)
space_stops space rest ends = token-stops (space ∷ rest) ends

six_two : (t : List ℕ) → drop 2 (codes "P6" ++ t) ≡ t
six_two t = refl

three_two : (t : List ℕ) → drop 2 (codes "P3" ++ t) ≡ t
three_two t = refl

six_form : (text t : List ℕ) → text ≡ codes "P6" ++ t → form_of text ≡ Some Raw
six_form text t is = ap form_of is

three_form : (text t : List ℕ) → text ≡ codes "P3" ++ t → form_of text ≡ Some Plain
three_form text t is = ap form_of is

pub raw-reads : (text : List ℕ) (ppm : PpmView) → SpellsP6 text ppm → ppm.width * ppm.height ≤ 1048576 → Reads Raw text ppm
raw-reads text ppm spelled within =
    let is = spelled.picture in
    let sides = sides-small ppm.width ppm.height is.filled.some_column is.filled.some_row within in
    let bytes : List ℕ = raw_bytes ppm.maxval ppm.pixels in
    let token : ends_token (spelled.space ∷ raw_bytes ppm.maxval ppm.pixels) ≡ true = (let test = space-test spelled.space spelled.spaces in rw test refl) in
    let head = head-reads Raw (codes "P6") spelled.head (spelled.space ∷ raw_bytes ppm.maxval ppm.pixels) text ppm spelled.heads six_two spelled.is (space_stops spelled.space (raw_bytes ppm.maxval ppm.pixels) token) is.filled.some_column sides.0 is.filled.some_row sides.1 is.small_maxval in
    let are = raw-bytes ppm.maxval ppm.pixels in
    let each : AreWithin ppm.maxval (raw_samples ppm.maxval (raw_bytes ppm.maxval ppm.pixels)) = subst (AreWithin ppm.maxval) (sym are.samples) (picture_within ppm is) in
    let long : length (raw_bytes ppm.maxval ppm.pixels) ≡ ppm.width * ppm.height * 3 * sample_size ppm.maxval = are.long ∙ ap (λ n. n * 3 * sample_size ppm.maxval) is.filled.as_many in
    let all : take (ppm.width * ppm.height * 3 * sample_size ppm.maxval) (raw_bytes ppm.maxval ppm.pixels) ≡ raw_bytes ppm.maxval ppm.pixels = take_all (ppm.width * ppm.height * 3 * sample_size ppm.maxval) (raw_bytes ppm.maxval ppm.pixels) (omega (arith, long)) in
    reads_parts Raw text (spelled.space ∷ raw_bytes ppm.maxval ppm.pixels) ppm head is within
    (six_form text ((spelled.heads.wide ++ (spelled.heads.high ++ spelled.heads.most)) ++ spelled.space ∷ raw_bytes ppm.maxval ppm.pixels) (spelled.is ∙ ap (λ h. h ++ spelled.space ∷ raw_bytes ppm.maxval ppm.pixels) spelled.heads.is ∙ append_assoc (codes "P6") (spelled.heads.wide ++ (spelled.heads.high ++ spelled.heads.most)) (spelled.space ∷ raw_bytes ppm.maxval ppm.pixels)))
    (space-none (length text) spelled.space (raw_bytes ppm.maxval ppm.pixels) spelled.spaces)
    (ap (samples_fault Raw (length text)) (head_is Raw text (spelled.space ∷ raw_bytes ppm.maxval ppm.pixels) ppm head) ∙ raw-none (length text) ppm.maxval (ppm.width * ppm.height * 3 * sample_size ppm.maxval) (raw_bytes ppm.maxval ppm.pixels) long each)
    (ap (pixels_of Raw) (head_is Raw text (spelled.space ∷ raw_bytes ppm.maxval ppm.pixels) ppm head) ∙ ap (λ b. colours_of (raw_samples ppm.maxval b)) all ∙ ap colours_of are.samples ∙ colours_of-samples ppm.pixels)

-- a picture has a pixel
some_pixel : (ppm : PpmView) → IsPpm ppm → 0 < length ppm.pixels
some_pixel ppm is = by ppm.width ppm.height is.filled.some_column is.filled.some_row is.filled.as_many
  where
    by : (width height : ℕ) → 0 < width → 0 < height → length ppm.pixels ≡ width * height → 0 < length ppm.pixels
    by (suc width) (suc height) wide high many = omega (arith, many)
    by zero height wide high many = absurd (omega arith)
    by width zero wide high many = absurd (omega arith)

pub plain-reads : (text : List ℕ) (ppm : PpmView) → SpellsP3 text ppm → ppm.width * ppm.height ≤ 1048576 → Reads Plain text ppm
plain-reads text ppm spelled within =
    let is = spelled.picture in
    let sides = sides-small ppm.width ppm.height is.filled.some_column is.filled.some_row within in
    let token = fields-end spelled.fields (samples_of ppm.pixels) spelled.tail spelled.samples (tail-ends spelled.tail spelled.ends) in
    let head = head-reads Plain (codes "P3") spelled.head (concat spelled.fields ++ spelled.tail) text ppm spelled.heads three_two spelled.is (token-stops (concat spelled.fields ++ spelled.tail) token) is.filled.some_column sides.0 is.filled.some_row sides.1 is.small_maxval in
    let reads = pixels-read (length text) ppm.maxval (ppm.width * ppm.height * 3) ppm.pixels spelled.fields spelled.tail spelled.samples spelled.ends (picture_within ppm is) is.small_maxval in
    reads_parts Plain text (concat spelled.fields ++ spelled.tail) ppm head is within
    (three_form text ((spelled.heads.wide ++ (spelled.heads.high ++ spelled.heads.most)) ++ (concat spelled.fields ++ spelled.tail)) (spelled.is ∙ ap (λ h. h ++ (concat spelled.fields ++ spelled.tail)) spelled.heads.is ∙ append_assoc (codes "P3") (spelled.heads.wide ++ (spelled.heads.high ++ spelled.heads.most)) (concat spelled.fields ++ spelled.tail)))
    (first_gap (length text) ppm.pixels spelled.fields spelled.tail (some_pixel ppm is) spelled.samples (tail-ends spelled.tail spelled.ends))
    (ap (samples_fault Plain (length text)) (head_is Plain text (concat spelled.fields ++ spelled.tail) ppm head) ∙ ap (λ n. plain_fault (length text) ppm.maxval (ppm.width * ppm.height * 3) 0 n (concat spelled.fields ++ spelled.tail)) (sym is.filled.as_many) ∙ reads.none 0)
    (ap (pixels_of Plain) (head_is Plain text (concat spelled.fields ++ spelled.tail) ppm head) ∙ ap (λ n. plain_pixels n (concat spelled.fields ++ spelled.tail)) (sym is.filled.as_many) ∙ reads.made)
  where
    first_gap : (total : ℕ) (pixels : List Colour) (fields : List (List ℕ)) (tail : List ℕ) → 0 < length pixels → AreFields fields (samples_of pixels) → ends_token tail ≡ true → end_fault Plain total (concat fields ++ tail) ≡ None
    first_gap total [] fields tail some are ends = absurd (omega arith)
    first_gap total (p ∷ pixels) [] tail some are ends = absurd are
    first_gap total (p ∷ pixels) (f ∷ fields) tail some are ends =
        let later : ends_token (concat fields ++ tail) ≡ true = fields-end fields (p.g ∷ p.b ∷ samples_of pixels) tail are.1 ends in
        let reads = field-reads f (concat fields ++ tail) p.r are.0 (token-stops (concat fields ++ tail) later) in
        ap (end_fault Plain total) (append_assoc f (concat fields) tail) ∙ gap-none total (f ++ (concat fields ++ tail)) are.0.digits (concat fields ++ tail) p.r reads

-- ---- a text without a fault spells a picture

-- what holds where no fault is
record NoFault (form : PpmForm) (text : List ℕ) : Type 0 where
  head : StandsHead form (length text) text
  maxval : (0 < (head_of text).maxval) × ((head_of text).maxval ≤ 65535)
  size : (head_of text).width * (head_of text).height ≤ 1048576
  samples : samples_fault form (length text) (head_of text) ≡ None

no_fault : (form : PpmForm) (text : List ℕ) → fault_of form text ≡ None → NoFault form text
no_fault form text none =
    let one = both_none (header_fault form (length text) (drop 2 text)) (option_or (maxval_fault (head_of text).maxval) (option_or (pixel_count_fault (head_of text).width (head_of text).height) (samples_fault form (length text) (head_of text)))) none in
    let two = both_none (maxval_fault (head_of text).maxval) (option_or (pixel_count_fault (head_of text).width (head_of text).height) (samples_fault form (length text) (head_of text))) one.1 in
    let three = both_none (pixel_count_fault (head_of text).width (head_of text).height) (samples_fault form (length text) (head_of text)) two.1 in
    record {
      head = head-stands form (length text) text one.0;
      maxval = none-maxval (head_of text).maxval two.0;
      size = none-size (head_of text).width (head_of text).height three.0;
      samples = three.1;
    }

-- the picture that no fault makes is one
made_picture : (form : PpmForm) (text : List ℕ) → NoFault form text → (pixels : List Colour) → length pixels ≡ (head_of text).width * (head_of text).height → AreWithin (head_of text).maxval (samples_of pixels) → IsPpm (record { width = (head_of text).width; height = (head_of text).height; maxval = (head_of text).maxval; pixels = pixels })
made_picture form text is pixels many within = record {
  filled = record { some_column = is.head.some_width; some_row = is.head.some_height; as_many = many };
  some_maxval = is.maxval.0;
  small_maxval = is.maxval.1;
  samples = All-from_recursion (λ (c : Colour). is_within (head_of text).maxval c ≡ true) pixels (within-pixels (head_of text).maxval pixels within);
}

behind_small : (head rest : List ℕ) → AllByRecursion (λ b. b < 256) (head ++ rest) → AllByRecursion (λ b. b < 256) rest
behind_small [] rest each = each
behind_small (b ∷ head) rest each = behind_small head rest each.1

tail_small : (rest : List ℕ) → AllByRecursion (λ b. b < 256) rest → AllByRecursion (λ b. b < 256) (drop 1 rest)
tail_small [] each = each
tail_small (b ∷ rest) each = each.1

-- what stands behind a front is bytes too
rest_small : (text head rest : List ℕ) → text ≡ head ++ rest → All (λ b. b < 256) text → AllByRecursion (λ b. b < 256) (drop 1 rest)
rest_small text head rest is bytes = tail_small rest (behind_small head rest (recursion_from_All (λ b. b < 256) (head ++ rest) (subst (All (λ b. b < 256)) is bytes)))

raw_spells : (text : List ℕ) → All (λ b. b < 256) text → form_of text ≡ Some Raw → NoFault Raw text → SpellsP6 text (made_of Raw text)
raw_spells text bytes formed is =
    let sides = sides-small (head_of text).width (head_of text).height is.head.some_width is.head.some_height is.size in
    let space = none-space (length text) (head_of text).rest is.head.end_none in
    let stands = stands-head Raw (length text) text (codes "P6") (made_of Raw text) is.head refl refl refl sides.0 sides.1 is.maxval.1 (magic-stands Raw text formed) in
    let raw = none-raw (length text) (head_of text).maxval ((head_of text).width * (head_of text).height * 3 * sample_size (head_of text).maxval) (drop 1 (head_of text).rest) is.samples in
    let all : take ((head_of text).width * (head_of text).height * 3 * sample_size (head_of text).maxval) (drop 1 (head_of text).rest) ≡ drop 1 (head_of text).rest = take_all ((head_of text).width * (head_of text).height * 3 * sample_size (head_of text).maxval) (drop 1 (head_of text).rest) (omega (arith, raw.0)) in
    let front : text ≡ stands.0 ++ (head_of text).rest = stands.2 in
    let small : AllByRecursion (λ b. b < 256) (drop 1 (head_of text).rest) = rest_small text stands.0 (head_of text).rest front bytes in
    let make = bytes-raw (head_of text).maxval ((head_of text).width * (head_of text).height) (drop 1 (head_of text).rest) raw.0 small in
    let pixels : (made_of Raw text).pixels ≡ colours_of (raw_samples (head_of text).maxval (drop 1 (head_of text).rest)) = ap (λ b. colours_of (raw_samples (head_of text).maxval b)) all in
    record {
      picture = made_picture Raw text is (made_of Raw text).pixels (ap length pixels ∙ make.as_many) (subst (AreWithin (head_of text).maxval) (sym (ap samples_of pixels ∙ make.samples_again)) raw.1);
      head = stands.0;
      space = space.0;
      is = front ∙ ap (λ t. stands.0 ++ t) (space.2 ∙ ap (λ t. space.0 ∷ t) (sym (ap (raw_bytes (head_of text).maxval) pixels ∙ make.bytes_again)));
      heads = stands.1;
      spaces = space.1;
    }

plain_spells : (text : List ℕ) → form_of text ≡ Some Plain → NoFault Plain text → SpellsP3 text (made_of Plain text)
plain_spells text formed is =
    let sides = sides-small (head_of text).width (head_of text).height is.head.some_width is.head.some_height is.size in
    let stands = stands-head Plain (length text) text (codes "P3") (made_of Plain text) is.head refl refl refl sides.0 sides.1 is.maxval.1 (magic-stands Plain text formed) in
    let before : ends_token (head_of text).rest ≡ true = none-gap (length text) (head_of text).rest is.head.end_none in
    let pixels = none-pixels (length text) (head_of text).maxval ((head_of text).width * (head_of text).height * 3) 0 ((head_of text).width * (head_of text).height) (head_of text).rest is.maxval.1 before is.samples in
    record {
      picture = made_picture Plain text is (made_of Plain text).pixels pixels.as_many pixels.within;
      head = stands.0;
      fields = pixels.fields;
      tail = pixels.tail;
      is = stands.2 ∙ ap (λ t. stands.0 ++ t) pixels.is;
      heads = stands.1;
      samples = pixels.are;
      ends = pixels.ends;
    }

-- the picture that a text without a fault makes is spelled, and within the limit
pub none-spells : (form : PpmForm) (text : List ℕ) → All (λ b. b < 256) text → form_of text ≡ Some form → fault_of form text ≡ None → SpellsPpm text (made_of form text) × ((made_of form text).width * (made_of form text).height ≤ 1048576)
none-spells Raw text bytes formed none = let is = no_fault Raw text none in (inl (raw_spells text bytes formed is), is.size)
none-spells Plain text bytes formed none = let is = no_fault Plain text none in (inr (plain_spells text formed is), is.size)

-- ---- what reading answers

reads_ok : (form : PpmForm) (text : List ℕ) (ppm : PpmView) → Reads form text ppm → ppm_of text ≡ Ok ppm
reads_ok form text ppm reads =
    ap (λ f. ppm_in f text) reads.formed
    ∙ ap (λ fault. unless_ppm_fault fault (made_of form text)) reads.none
    ∙ ap (λ p. Ok p) reads.made

-- a text that spells a picture within the limit is read as it
pub spelled-read : (text : List ℕ) (ppm : PpmView) → SpellsPpm text ppm → ppm.width * ppm.height ≤ 1048576 → ppm_of text ≡ Ok ppm
spelled-read text ppm (inl raw) within = reads_ok Raw text ppm (raw-reads text ppm raw within)
spelled-read text ppm (inr plain) within = reads_ok Plain text ppm (plain-reads text ppm plain within)

-- a picture that is read is spelled, and within the limit
pub read-spelled : (text : List ℕ) (ppm : PpmView) → All (λ b. b < 256) text → ppm_of text ≡ Ok ppm → SpellsPpm text ppm × (ppm.width * ppm.height ≤ 1048576)
read-spelled text ppm bytes read = by (form_of text) refl read
  where
    in_form : (form : PpmForm) → form_of text ≡ Some form → (fault : Option PpmFault) → fault_of form text ≡ fault → unless_ppm_fault fault (made_of form text) ≡ Ok ppm → SpellsPpm text ppm × (ppm.width * ppm.height ≤ 1048576)
    in_form form formed None none made =
        let same : made_of form text ≡ ppm = cc in
        subst (λ (p : PpmView). SpellsPpm text p × (p.width * p.height ≤ 1048576)) same (none-spells form text bytes formed none)
    in_form form formed (Some fault) some made = absurd (cc)

    by : (form : Option PpmForm) → form_of text ≡ form → ppm_in form text ≡ Ok ppm → SpellsPpm text ppm × (ppm.width * ppm.height ≤ 1048576)
    by None formed made = absurd (cc)
    by (Some form) formed made = in_form form formed (fault_of form text) refl made

-- a picture that is read is one, and within the limit, whatever the numbers of the text are
pub read-picture : (text : List ℕ) (ppm : PpmView) → ppm_of text ≡ Ok ppm → IsPpm ppm × (ppm.width * ppm.height ≤ 1048576)
read-picture text ppm read = by (form_of text) refl read
  where
    made : (form : PpmForm) → NoFault form text → IsPpm (made_of form text)
    made Raw is =
        let wanted = (head_of text).width * (head_of text).height * 3 * sample_size (head_of text).maxval in
        let raw = none-raw (length text) (head_of text).maxval wanted (drop 1 (head_of text).rest) is.samples in
        let all : take wanted (drop 1 (head_of text).rest) ≡ drop 1 (head_of text).rest = take_all wanted (drop 1 (head_of text).rest) (omega (arith, raw.0)) in
        let make = made-raw (head_of text).maxval ((head_of text).width * (head_of text).height) (drop 1 (head_of text).rest) raw.0 in
        let pixels : (made_of Raw text).pixels ≡ colours_of (raw_samples (head_of text).maxval (drop 1 (head_of text).rest)) = ap (λ b. colours_of (raw_samples (head_of text).maxval b)) all in
        made_picture Raw text is (made_of Raw text).pixels (ap length pixels ∙ make.1) (subst (AreWithin (head_of text).maxval) (sym (ap samples_of pixels ∙ make.0)) raw.1)
    made Plain is =
        let before : ends_token (head_of text).rest ≡ true = none-gap (length text) (head_of text).rest is.head.end_none in
        let pixels = none-pixels (length text) (head_of text).maxval ((head_of text).width * (head_of text).height * 3) 0 ((head_of text).width * (head_of text).height) (head_of text).rest is.maxval.1 before is.samples in
        made_picture Plain text is (made_of Plain text).pixels pixels.as_many pixels.within

    in_form : (form : PpmForm) → (fault : Option PpmFault) → fault_of form text ≡ fault → unless_ppm_fault fault (made_of form text) ≡ Ok ppm → IsPpm ppm × (ppm.width * ppm.height ≤ 1048576)
    in_form form None none same =
        let is = no_fault form text none in
        let one : made_of form text ≡ ppm = cc in
        subst (λ (p : PpmView). IsPpm p × (p.width * p.height ≤ 1048576)) one (made form is, is.size)
    in_form form (Some fault) some same = absurd (cc)

    by : (form : Option PpmForm) → form_of text ≡ form → ppm_in form text ≡ Ok ppm → IsPpm ppm × (ppm.width * ppm.height ≤ 1048576)
    by None formed same = absurd (cc)
    by (Some form) formed same = in_form form (fault_of form text) refl same

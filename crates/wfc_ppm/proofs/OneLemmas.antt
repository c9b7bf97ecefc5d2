-- A text spells at most one picture, of any size.
use Rattle.std.proofs.Common.{◌≡◌, ◌⊎◌, ℕ, ◌*◌, ◌<◌, ◌≤◌, List, [], ◌∷◌, ◌++◌, length, drop, inl, inr, refl, sym, ap, ◌∙◌, append_assoc, codes, Some, Option, true}
use Rattle.std.specs.List.{AllByRecursion, concat}
use Rattle.std.proofs.lemmas.List.Elements.{recursion_from_All}
use Rattle.wfc_picture.specs.declared.symbol.Colour.{Colour}
use Rattle.wfc_ppm.specs.Fault.{form_of, raw_samples, ends_token}
use Rattle.wfc_ppm.specs.Field.{behind_field}
use Rattle.wfc_ppm.specs.Ppm.{PpmView, IsPpm, is_within, samples_of, raw_bytes}
use Rattle.wfc_ppm.specs.Reading.{colours_of, plain_pixels}
use Rattle.wfc_ppm.specs.Spelling.{IsHead, SpellsP6, SpellsP3, SpellsPpm}
use Rattle.wfc_ppm.specs.declared.reading.PpmForm.{PpmForm}
use Rattle.wfc_ppm.specs.declared.reading.PpmForm.TheVariants.{Raw, Plain}
use Rattle.wfc_ppm.proofs.GapLemmas.{space-test, tail-ends}
use Rattle.wfc_ppm.proofs.FieldLemmas.{Stops, token-stops, field-reads, field-stops, written_value}
use Rattle.wfc_ppm.proofs.RawLemmas.{AreWithin, raw-bytes, colours_of-samples, pixels-within}
use Rattle.wfc_ppm.proofs.PlainLemmas.{pixels-read, fields-end}

-- what stands in a header, of any length
pub record Written (text rest : List ℕ) (ppm : PpmView) : Type 0 where
  pub width : written_value (drop 2 text) ≡ ppm.width
  pub height : written_value (behind_field (drop 2 text)) ≡ ppm.height
  pub maxval : written_value (behind_field (behind_field (drop 2 text))) ≡ ppm.maxval
  pub behind : behind_field (behind_field (behind_field (drop 2 text))) ≡ rest

head_written : (magic head rest text : List ℕ) (ppm : PpmView) → IsHead magic head ppm → ((t : List ℕ) → drop 2 (magic ++ t) ≡ t) → text ≡ head ++ rest → Stops rest → Written text rest ppm
head_written magic head rest text ppm heads two is stops =
    let behind_magic : drop 2 text ≡ heads.wide ++ (heads.high ++ (heads.most ++ rest)) =
    ap (drop 2) (is ∙ ap (λ h. h ++ rest) heads.is ∙ append_assoc magic (heads.wide ++ (heads.high ++ heads.most)) rest)
    ∙ two ((heads.wide ++ (heads.high ++ heads.most)) ++ rest)
    ∙ append_assoc heads.wide (heads.high ++ heads.most) rest
    ∙ ap (λ t. heads.wide ++ t) (append_assoc heads.high heads.most rest) in
    let most_stops = field-stops heads.most rest ppm.maxval heads.maxval in
    let high_stops = field-stops heads.high (heads.most ++ rest) ppm.height heads.height in
    let width = field-reads heads.wide (heads.high ++ (heads.most ++ rest)) ppm.width heads.width high_stops in
    let height = field-reads heads.high (heads.most ++ rest) ppm.height heads.height most_stops in
    let maxval = field-reads heads.most rest ppm.maxval heads.maxval stops in
    let one : behind_field (drop 2 text) ≡ heads.high ++ (heads.most ++ rest) = ap behind_field behind_magic ∙ width.behind in
    let two_on : behind_field (behind_field (drop 2 text)) ≡ heads.most ++ rest = ap behind_field one ∙ height.behind in
    record {
      width = ap written_value behind_magic ∙ width.written;
      height = ap written_value one ∙ height.written;
      maxval = ap written_value two_on ∙ maxval.written;
      behind = ap behind_field two_on ∙ maxval.behind;
    }

-- the header of a raw picture, and of one in decimal
raw_written : (text : List ℕ) (ppm : PpmView) → (spelled : SpellsP6 text ppm) → Written text (spelled.space ∷ raw_bytes ppm.maxval ppm.pixels) ppm
raw_written text ppm spelled =
    let token : ends_token (spelled.space ∷ raw_bytes ppm.maxval ppm.pixels) ≡ true = (let test = space-test spelled.space spelled.spaces in rw test refl) in
    head_written (codes "P6") spelled.head (spelled.space ∷ raw_bytes ppm.maxval ppm.pixels) text ppm spelled.heads (λ t. refl) spelled.is (token-stops (spelled.space ∷ raw_bytes ppm.maxval ppm.pixels) token)

plain_written : (text : List ℕ) (ppm : PpmView) → (spelled : SpellsP3 text ppm) → Written text (concat spelled.fields ++ spelled.tail) ppm
plain_written text ppm spelled =
    let token = fields-end spelled.fields (samples_of ppm.pixels) spelled.tail spelled.samples (tail-ends spelled.tail spelled.ends) in
    head_written (codes "P3") spelled.head (concat spelled.fields ++ spelled.tail) text ppm spelled.heads (λ t. refl) spelled.is (token-stops (concat spelled.fields ++ spelled.tail) token)

-- the form of what is spelled
raw_form : (text : List ℕ) (ppm : PpmView) → SpellsP6 text ppm → form_of text ≡ Some Raw
raw_form text ppm spelled = ap form_of (spelled.is ∙ ap (λ h. h ++ spelled.space ∷ raw_bytes ppm.maxval ppm.pixels) spelled.heads.is ∙ append_assoc (codes "P6") (spelled.heads.wide ++ (spelled.heads.high ++ spelled.heads.most)) (spelled.space ∷ raw_bytes ppm.maxval ppm.pixels))

plain_form : (text : List ℕ) (ppm : PpmView) → SpellsP3 text ppm → form_of text ≡ Some Plain
plain_form text ppm spelled = ap form_of (spelled.is ∙ ap (λ h. h ++ (concat spelled.fields ++ spelled.tail)) spelled.heads.is ∙ append_assoc (codes "P3") (spelled.heads.wide ++ (spelled.heads.high ++ spelled.heads.most)) (concat spelled.fields ++ spelled.tail))

-- pictures with one header and the same pixels are one
one_by : (text rest other : List ℕ) (a b : PpmView) → Written text rest a → Written text other b → a.pixels ≡ b.pixels → a ≡ b
one_by text rest other a b left right pixels = λ i. record { width = (sym left.width ∙ right.width) i; height = (sym left.height ∙ right.height) i; maxval = (sym left.maxval ∙ right.maxval) i; pixels = pixels i }

-- the pixels of raw bytes
raw_pixels : (ppm : PpmView) → colours_of (raw_samples ppm.maxval (raw_bytes ppm.maxval ppm.pixels)) ≡ ppm.pixels
raw_pixels ppm = ap colours_of (raw-bytes ppm.maxval ppm.pixels).samples ∙ colours_of-samples ppm.pixels

raw_one : (text : List ℕ) (a b : PpmView) → SpellsP6 text a → SpellsP6 text b → a ≡ b
raw_one text a b one two =
    let left = raw_written text a one in
    let right = raw_written text b two in
    let bytes : raw_bytes a.maxval a.pixels ≡ raw_bytes b.maxval b.pixels = ap (drop 1) (sym left.behind ∙ right.behind) in
    let maxval : a.maxval ≡ b.maxval = sym left.maxval ∙ right.maxval in
    one_by text (one.space ∷ raw_bytes a.maxval a.pixels) (two.space ∷ raw_bytes b.maxval b.pixels) a b left right
    (sym (raw_pixels a) ∙ (λ i. colours_of (raw_samples (maxval i) (bytes i))) ∙ raw_pixels b)

-- the pixels in decimal behind a header
plain_is : (text : List ℕ) (ppm : PpmView) → (spelled : SpellsP3 text ppm) → plain_pixels (ppm.width * ppm.height) (concat spelled.fields ++ spelled.tail) ≡ ppm.pixels
plain_is text ppm spelled =
    let is = spelled.picture in
    let within = pixels-within ppm.maxval ppm.pixels (recursion_from_All (λ (c : Colour). is_within ppm.maxval c ≡ true) ppm.pixels is.samples) in
    ap (λ n. plain_pixels n (concat spelled.fields ++ spelled.tail)) (sym is.filled.as_many)
    ∙ (pixels-read (length text) ppm.maxval (ppm.width * ppm.height * 3) ppm.pixels spelled.fields spelled.tail spelled.samples spelled.ends within is.small_maxval).made

plain_one : (text : List ℕ) (a b : PpmView) → SpellsP3 text a → SpellsP3 text b → a ≡ b
plain_one text a b one two =
    let left = plain_written text a one in
    let right = plain_written text b two in
    let rest : concat one.fields ++ one.tail ≡ concat two.fields ++ two.tail = sym left.behind ∙ right.behind in
    let width : a.width ≡ b.width = sym left.width ∙ right.width in
    let height : a.height ≡ b.height = sym left.height ∙ right.height in
    one_by text (concat one.fields ++ one.tail) (concat two.fields ++ two.tail) a b left right
    (sym (plain_is text a one) ∙ (λ i. plain_pixels (width i * height i) (rest i)) ∙ plain_is text b two)

pub one_picture : (text : List ℕ) (a b : PpmView) → SpellsPpm text a → SpellsPpm text b → a ≡ b
one_picture text a b (inl one) (inl two) = raw_one text a b one two
one_picture text a b (inr one) (inr two) = plain_one text a b one two
one_picture text a b (inl one) (inr two) = let first = raw_form text a one in let second = plain_form text b two in absurd (cc)
one_picture text a b (inr one) (inl two) = let first = plain_form text a one in let second = raw_form text b two in absurd (cc)

-- Raw samples: the bytes of samples, and the samples of bytes.
use Rattle.std.proofs.Common.{◌≡◌, ℕ, ◌+◌, ◌*◌, ◌/◌, ◌%◌, ◌<◌, ◌≤◌, List, [], ◌∷◌, length, take, get_or, refl, sym, ap, ◌∙◌, arith, true, false, Bool, Option, None, Some, nat_lt, nat_le, ◌&&◌, if◌then◌else◌, flat_map, zero, suc}
use Rattle.std.proofs.Math.Nat.{div-add-mod}
use Rattle.std.proofs.lemmas.Bool.Decides.{nat_tests}
use Rattle.std.proofs.lemmas.Bool.{ltb-false}
use Rattle.std.proofs.lemmas.List.{take_all}
use Rattle.std.specs.List.{AllByRecursion, position}
use Rattle.std.specs.Option.{option_or}
use Rattle.std.proofs.lemmas.List.Elements.{All-from_recursion, recursion_from_All}
use Rattle.wfc_picture.specs.declared.symbol.Colour.{Colour}
use Rattle.wfc_lists.proofs.Positions.{position_none, position_fails}
use Rattle.wfc_ppm.specs.Fault.{sample_size, pairs_of, raw_samples, above_fault, raw_fault}
use Rattle.wfc_ppm.specs.Field.{place_of}
use Rattle.wfc_ppm.specs.Ppm.{is_within, samples_of, raw_bytes}
use Rattle.wfc_ppm.specs.Reading.{colours_of}
use Rattle.wfc_ppm.specs.declared.reading.PpmFault.TheVariants.{Truncated, Trailing}

-- ---- pixels and samples

-- the samples of pixels make these pixels
pub colours_of-samples : (pixels : List Colour) → colours_of (samples_of pixels) ≡ pixels
colours_of-samples [] = refl
colours_of-samples (pixel ∷ pixels) = ap (λ later. pixel ∷ later) (colours_of-samples pixels)

-- three samples make a pixel
pub samples-colours_of : (count : ℕ) (samples : List ℕ) → length samples ≡ 3 * count → (samples_of (colours_of samples) ≡ samples) × (length (colours_of samples) ≡ count)
samples-colours_of zero [] long = (refl, refl)
samples-colours_of zero (s ∷ samples) long = absurd (omega arith)
samples-colours_of (suc count) [] long = absurd (omega arith)
samples-colours_of (suc count) (r ∷ []) long = absurd (omega arith)
samples-colours_of (suc count) (r ∷ g ∷ []) long = absurd (omega arith)
samples-colours_of (suc count) (r ∷ g ∷ b ∷ samples) long =
    let later = samples-colours_of count samples (omega arith) in
    (ap (λ t. r ∷ g ∷ b ∷ t) later.0, omega (arith, later.1))

pub length-samples_of : (pixels : List Colour) → length (samples_of pixels) ≡ 3 * length pixels
length-samples_of [] = refl
length-samples_of (pixel ∷ pixels) = omega (arith, length-samples_of pixels)

-- ---- samples at most maxval

-- each sample is at most maxval
abbrev pub AreWithin : ℕ → List ℕ → Type 0
AreWithin maxval samples = AllByRecursion (λ s. s ≤ maxval) samples

within_one : (maxval : ℕ) (a b c : ℕ) → (nat_le a maxval && nat_le b maxval && nat_le c maxval) ≡ true → (a ≤ maxval) × (b ≤ maxval) × (c ≤ maxval)
within_one maxval a b c is = (grind (arith, nat_tests), grind (arith, nat_tests), grind (arith, nat_tests))

one_within : (maxval : ℕ) (a b c : ℕ) → a ≤ maxval → b ≤ maxval → c ≤ maxval → (nat_le a maxval && nat_le b maxval && nat_le c maxval) ≡ true
one_within maxval a b c r g h = grind (arith, nat_tests)

pub pixels-within : (maxval : ℕ) (pixels : List Colour) → AllByRecursion (λ (c : Colour). is_within maxval c ≡ true) pixels → AreWithin maxval (samples_of pixels)
pixels-within maxval [] each = tt
pixels-within maxval (pixel ∷ pixels) each =
    let three = within_one maxval pixel.r pixel.g pixel.b each.0 in
    (three.0, (three.1, (three.2, pixels-within maxval pixels each.1)))

pub within-pixels : (maxval : ℕ) (pixels : List Colour) → AreWithin maxval (samples_of pixels) → AllByRecursion (λ (c : Colour). is_within maxval c ≡ true) pixels
within-pixels maxval [] each = tt
within-pixels maxval (pixel ∷ pixels) each = (one_within maxval pixel.r pixel.g pixel.b each.0 each.1.0 each.1.1.0, within-pixels maxval pixels each.1.1.1)

pub within-none : (maxval : ℕ) (samples : List ℕ) → AreWithin maxval samples → position (nat_lt maxval) samples ≡ None
within-none maxval samples each = position_none (nat_lt maxval) samples 0 (λ k inside. small (get_or samples k 0) (All-from_recursion (λ s. s ≤ maxval) samples each k 0 inside))
  where
    small : (s : ℕ) → s ≤ maxval → nat_lt maxval s ≡ false
    small s is = grind (arith, nat_tests)

pub none-within : (maxval : ℕ) (samples : List ℕ) → position (nat_lt maxval) samples ≡ None → AreWithin maxval samples
none-within maxval samples none = recursion_from_All (λ s. s ≤ maxval) samples (λ k d inside. ltb-false maxval (get_or samples k d) (position_fails (nat_lt maxval) samples none k d inside))

-- ---- bytes and samples

narrow_bytes : (samples : List ℕ) → flat_map (λ s. s ∷ []) samples ≡ samples
narrow_bytes [] = refl
narrow_bytes (s ∷ samples) = ap (λ t. s ∷ t) (narrow_bytes samples)

-- the two bytes of a sample
abbrev two_bytes : ℕ → List ℕ
two_bytes s = s / 256 ∷ s % 256 ∷ []

pairs_of-two : (samples : List ℕ) → pairs_of (flat_map two_bytes samples) ≡ samples
pairs_of-two [] = refl
pairs_of-two (s ∷ samples) =
    let one : s / 256 * 256 + s % 256 ≡ s = omega (arith, div-add-mod s 256) in
    ap (λ t. (s / 256 * 256 + s % 256) ∷ t) (pairs_of-two samples) ∙ ap (λ v. v ∷ samples) one

-- bytes of even length are the two bytes of their pairs
two-pairs_of : (count : ℕ) (bytes : List ℕ) → length bytes ≡ 2 * count → AllByRecursion (λ b. b < 256) bytes → (flat_map two_bytes (pairs_of bytes) ≡ bytes) × (length (pairs_of bytes) ≡ count)
two-pairs_of zero [] long small = (refl, refl)
two-pairs_of zero (b ∷ bytes) long small = absurd (omega arith)
two-pairs_of (suc count) [] long small = absurd (omega arith)
two-pairs_of (suc count) (high ∷ []) long small = absurd (omega arith)
two-pairs_of (suc count) (high ∷ low ∷ bytes) long small =
    let later = two-pairs_of count bytes (omega arith) small.1.1 in
    let top : (high * 256 + low) / 256 ≡ high = omega (arith, small.1.0) in
    let bottom : (high * 256 + low) % 256 ≡ low = omega (arith, small.1.0) in
    (ap (λ t. ((high * 256 + low) / 256) ∷ ((high * 256 + low) % 256) ∷ t) later.0 ∙ ap (λ v. v ∷ ((high * 256 + low) % 256) ∷ bytes) top ∙ ap (λ v. high ∷ v ∷ bytes) bottom, omega (arith, later.1))

length_two : (samples : List ℕ) → length (flat_map two_bytes samples) ≡ 2 * length samples
length_two [] = refl
length_two (s ∷ samples) = omega (arith, length_two samples)

-- raw bytes, by whether a sample has one or two
raw_by : (maxval : ℕ) (pixels : List Colour) (narrow : Bool) → nat_lt maxval 256 ≡ narrow → raw_bytes maxval pixels ≡ flat_map (λ s. if narrow then s ∷ [] else two_bytes s) (samples_of pixels)
raw_by maxval pixels narrow test = ap (λ one. flat_map (λ s. if one then s ∷ [] else two_bytes s) (samples_of pixels)) test

-- what raw bytes are as samples, and samples as raw bytes
pub record AreRaw (maxval : ℕ) (pixels : List Colour) : Type 0 where
  pub samples : raw_samples maxval (raw_bytes maxval pixels) ≡ samples_of pixels
  pub long : length (raw_bytes maxval pixels) ≡ length pixels * 3 * sample_size maxval

pub raw-bytes : (maxval : ℕ) (pixels : List Colour) → AreRaw maxval pixels
raw-bytes maxval pixels = by (nat_lt maxval 256) refl
  where
    by : (narrow : Bool) → nat_lt maxval 256 ≡ narrow → AreRaw maxval pixels
    by true test =
        let bytes : raw_bytes maxval pixels ≡ samples_of pixels = raw_by maxval pixels true test ∙ narrow_bytes (samples_of pixels) in
        record {
          samples = rw test bytes;
          long = rw test (omega (arith, ap length bytes, length-samples_of pixels));
        }
    by false test =
        let bytes : raw_bytes maxval pixels ≡ flat_map two_bytes (samples_of pixels) = raw_by maxval pixels false test in
        record {
          samples = rw test (ap pairs_of bytes ∙ pairs_of-two (samples_of pixels));
          long = rw test (omega (arith, ap length bytes, length_two (samples_of pixels), length-samples_of pixels));
        }

-- so many bytes are the raw bytes of the pixels that they make
pub record MakeRaw (maxval count : ℕ) (bytes : List ℕ) : Type 0 where
  pub bytes_again : raw_bytes maxval (colours_of (raw_samples maxval bytes)) ≡ bytes
  pub samples_again : samples_of (colours_of (raw_samples maxval bytes)) ≡ raw_samples maxval bytes
  pub as_many : length (colours_of (raw_samples maxval bytes)) ≡ count

pub bytes-raw : (maxval count : ℕ) (bytes : List ℕ) → length bytes ≡ count * 3 * sample_size maxval → AllByRecursion (λ b. b < 256) bytes → MakeRaw maxval count bytes
bytes-raw maxval count bytes long small = by (nat_lt maxval 256) refl long
  where
    by : (narrow : Bool) → nat_lt maxval 256 ≡ narrow → length bytes ≡ count * 3 * (if narrow then 1 else 2) → MakeRaw maxval count bytes
    by true test many =
        let again = samples-colours_of count bytes (omega arith) in
        record {
          bytes_again = ap (λ narrow. raw_bytes maxval (colours_of (if narrow then bytes else pairs_of bytes))) test ∙ raw_by maxval (colours_of bytes) true test ∙ narrow_bytes (samples_of (colours_of bytes)) ∙ again.0;
          samples_again = rw test again.0;
          as_many = rw test again.1;
        }
    by false test many =
        let pairs = two-pairs_of (count * 3) bytes (omega arith) small in
        let again = samples-colours_of count (pairs_of bytes) (omega (arith, pairs.1)) in
        record {
          bytes_again = ap (λ narrow. raw_bytes maxval (colours_of (if narrow then bytes else pairs_of bytes))) test ∙ raw_by maxval (colours_of (pairs_of bytes)) false test ∙ ap (flat_map two_bytes) again.0 ∙ pairs.0;
          samples_again = rw test again.0;
          as_many = rw test again.1;
        }

-- half as many pairs as bytes
length-pairs_of : (k : ℕ) (bytes : List ℕ) → length bytes ≡ k + k → length (pairs_of bytes) ≡ k
length-pairs_of zero [] is = refl
length-pairs_of zero (a ∷ bytes) is = absurd (omega (arith, is))
length-pairs_of (suc k) [] is = absurd (omega (arith, is))
length-pairs_of (suc k) (a ∷ []) is = absurd (omega (arith, is))
length-pairs_of (suc k) (a ∷ b ∷ bytes) is = ap suc (length-pairs_of k bytes (omega (arith, is)))

-- so many numbers are the samples of as many pixels
pub made-raw : (maxval count : ℕ) (bytes : List ℕ) → length bytes ≡ count * 3 * sample_size maxval
    → (samples_of (colours_of (raw_samples maxval bytes)) ≡ raw_samples maxval bytes) × (length (colours_of (raw_samples maxval bytes)) ≡ count)
made-raw maxval count bytes long = by (nat_lt maxval 256) refl long
  where
    by : (narrow : Bool) → nat_lt maxval 256 ≡ narrow → length bytes ≡ count * 3 * (if narrow then 1 else 2)
        → (samples_of (colours_of (raw_samples maxval bytes)) ≡ raw_samples maxval bytes) × (length (colours_of (raw_samples maxval bytes)) ≡ count)
    by true test many = let again = samples-colours_of count bytes (omega arith) in (rw test again.0, rw test again.1)
    by false test many =
        let again = samples-colours_of count (pairs_of bytes) (omega (arith, length-pairs_of (count * 3) bytes (omega arith))) in (rw test again.0, rw test again.1)

-- ---- faults

pub raw-none : (total maxval wanted : ℕ) (bytes : List ℕ) → length bytes ≡ wanted → AreWithin maxval (raw_samples maxval bytes) → raw_fault total maxval wanted bytes ≡ None
raw-none total maxval wanted bytes long each =
    let enough : nat_lt (length bytes) wanted ≡ false = grind (arith, nat_tests) in
    let exact : nat_lt wanted (length bytes) ≡ false = grind (arith, nat_tests) in
    let all : take wanted bytes ≡ bytes = take_all wanted bytes (omega arith) in
    let above : position (nat_lt maxval) (raw_samples maxval (take wanted bytes)) ≡ None = ap (λ b. position (nat_lt maxval) (raw_samples maxval b)) all ∙ within-none maxval (raw_samples maxval bytes) each in
    rw (enough, exact, above) refl

pub none-raw : (total maxval wanted : ℕ) (bytes : List ℕ) → raw_fault total maxval wanted bytes ≡ None → (length bytes ≡ wanted) × AreWithin maxval (raw_samples maxval bytes)
none-raw total maxval wanted bytes none = by (nat_lt (length bytes) wanted) refl (position (nat_lt maxval) (raw_samples maxval (take wanted bytes))) refl (nat_lt wanted (length bytes)) refl none
  where
    by : (few : Bool) → nat_lt (length bytes) wanted ≡ few → (above : Option ℕ) → position (nat_lt maxval) (raw_samples maxval (take wanted bytes)) ≡ above → (more : Bool) → nat_lt wanted (length bytes) ≡ more → (if few then Some (Truncated wanted (length bytes)) else option_or (above_fault (place_of total bytes) (sample_size maxval) above) (if more then Some (Trailing (place_of total bytes + wanted)) else None)) ≡ None → (length bytes ≡ wanted) × AreWithin maxval (raw_samples maxval bytes)
    by true few above is more test made = absurd (cc)
    by false few (Some at) is more test made = absurd (cc)
    by false few None is true test made = absurd (cc)
    by false few None is false test made =
        let long : length bytes ≡ wanted = omega (arith, ltb-false (length bytes) wanted few, ltb-false wanted (length bytes) test) in
        let all : take wanted bytes ≡ bytes = take_all wanted bytes (omega (arith, long)) in
        (long, none-within maxval (raw_samples maxval bytes) (sym (ap (λ b. position (nat_lt maxval) (raw_samples maxval b)) all) ∙ is))

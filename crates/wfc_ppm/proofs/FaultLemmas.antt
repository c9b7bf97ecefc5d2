-- The first fault by cases: which of several tests finds it.
use Rattle.std.proofs.Common.{◌≡◌, ◌≢◌, ℕ, ◌+◌, ◌*◌, ◌<◌, ◌≤◌, ◌==◌, List, length, drop, take, refl, ap, ◌∙◌, arith, true, false, Bool, Option, None, Some, nat_lt, if◌then◌else◌, eq-eqb}
use Rattle.std.proofs.lemmas.Bool.Decides.{nat_tests}
use Rattle.std.specs.List.{position}
use Rattle.std.specs.Option.{option_or}
use Rattle.wfc_lists.proofs.Options.{or_none}
use Rattle.wfc_ppm.specs.Fault.{head_of, ends_token, field_fault, side_fault, gap_fault, end_fault, header_fault, maxval_fault, pixel_count_fault, sample_size, raw_samples, raw_fault, sample_fault, pixel_fault, tail_fault, samples_fault, fault_of}
use Rattle.wfc_ppm.specs.Field.{stop_of, start_of, behind_field, field_value, place_of}
use Rattle.wfc_ppm.specs.declared.reading.PpmForm.{PpmForm}
use Rattle.wfc_ppm.specs.declared.reading.PpmFault.{PpmFault}
use Rattle.wfc_ppm.specs.declared.reading.PpmFault.TheVariants.{Header, Maxval, TooLarge, Truncated, SampleAboveMaxval, BadSample, Trailing}

unlike : (a b : ℕ) → a ≢ b → (a == b) ≡ false
unlike a b other = grind (arith, nat_tests)

like : (a b : ℕ) → a ≡ b → (a == b) ≡ true
like a b same = eq-eqb a b same

below : (a b : ℕ) → a < b → nat_lt a b ≡ true
below a b less = grind (arith, nat_tests)

not_below : (a b : ℕ) → b ≤ a → nat_lt a b ≡ false
not_below a b more = grind (arith, nat_tests)

-- the first of both is the fault
first : (o p : Option PpmFault) (fault : PpmFault) → o ≡ Some fault → option_or o p ≡ Some fault
first o p fault is = ap (λ q. option_or q p) is

second : (o p : Option PpmFault) (fault : PpmFault) → o ≡ None → p ≡ Some fault → option_or o p ≡ Some fault
second o p fault none is = ap (λ q. option_or q p) none ∙ is

-- ---- a side

pub right_side : (total : ℕ) (text : List ℕ) → field_fault total text ≡ None → field_value text ≢ 0 → side_fault total text ≡ None
right_side total text none some = let test = unlike (field_value text) 0 some in or_none (field_fault total text) (if field_value text == 0 then Some (Header (place_of total (start_of text))) else None) none (rw test refl)

pub zero_side : (total : ℕ) (text : List ℕ) → field_fault total text ≡ None → field_value text ≡ 0 → side_fault total text ≡ Some (Header (place_of total (start_of text)))
zero_side total text none zero = let test = like (field_value text) 0 zero in second (field_fault total text) (if field_value text == 0 then Some (Header (place_of total (start_of text))) else None) (Header (place_of total (start_of text))) none (rw test refl)

pub first_side : (total : ℕ) (text : List ℕ) (fault : PpmFault) → field_fault total text ≡ Some fault → side_fault total text ≡ Some fault
first_side total text fault is = first (field_fault total text) (if field_value text == 0 then Some (Header (place_of total (start_of text))) else None) fault is

-- ---- what stands before samples in decimal

pub right_gap : (total : ℕ) (text : List ℕ) → length (start_of text) ≢ length text → (stop_of false text).cut ≡ false → gap_fault total text ≡ None
right_gap total text longer whole = let test = unlike (length (start_of text)) (length text) longer in rw (test, whole) refl

pub no_gap : (total : ℕ) (text : List ℕ) → length (start_of text) ≡ length text → gap_fault total text ≡ Some (Header (place_of total text))
no_gap total text same = let test = like (length (start_of text)) (length text) same in rw test refl

pub cut_gap : (total : ℕ) (text : List ℕ) → length (start_of text) ≢ length text → (stop_of false text).cut ≡ true → gap_fault total text ≡ Some (Header total)
cut_gap total text longer broken = let test = unlike (length (start_of text)) (length text) longer in rw (test, broken) refl

-- ---- the header

-- what is looked at behind the width, and behind the height
abbrev behind_width : PpmForm → ℕ → List ℕ → Option PpmFault
behind_width form total text = option_or (side_fault total (behind_field text)) (option_or (field_fault total (behind_field (behind_field text))) (end_fault form total (behind_field (behind_field (behind_field text)))))

abbrev behind_height : PpmForm → ℕ → List ℕ → Option PpmFault
behind_height form total text = option_or (field_fault total (behind_field (behind_field text))) (end_fault form total (behind_field (behind_field (behind_field text))))

pub right_header : (form : PpmForm) (total : ℕ) (text : List ℕ) → side_fault total text ≡ None → side_fault total (behind_field text) ≡ None → field_fault total (behind_field (behind_field text)) ≡ None → end_fault form total (behind_field (behind_field (behind_field text))) ≡ None → header_fault form total text ≡ None
right_header form total text one two three four =
    or_none (side_fault total text) (behind_width form total text) one
    (or_none (side_fault total (behind_field text)) (behind_height form total text) two
    (or_none (field_fault total (behind_field (behind_field text))) (end_fault form total (behind_field (behind_field (behind_field text)))) three four))

pub width_fault : (form : PpmForm) (total : ℕ) (text : List ℕ) (fault : PpmFault) → side_fault total text ≡ Some fault → header_fault form total text ≡ Some fault
width_fault form total text fault is = first (side_fault total text) (behind_width form total text) fault is

pub height_fault : (form : PpmForm) (total : ℕ) (text : List ℕ) (fault : PpmFault) → side_fault total text ≡ None → side_fault total (behind_field text) ≡ Some fault → header_fault form total text ≡ Some fault
height_fault form total text fault one is = second (side_fault total text) (behind_width form total text) fault one (first (side_fault total (behind_field text)) (behind_height form total text) fault is)

pub maxval_field_fault : (form : PpmForm) (total : ℕ) (text : List ℕ) (fault : PpmFault) → side_fault total text ≡ None → side_fault total (behind_field text) ≡ None → field_fault total (behind_field (behind_field text)) ≡ Some fault → header_fault form total text ≡ Some fault
maxval_field_fault form total text fault one two is =
    second (side_fault total text) (behind_width form total text) fault one
    (second (side_fault total (behind_field text)) (behind_height form total text) fault two
    (first (field_fault total (behind_field (behind_field text))) (end_fault form total (behind_field (behind_field (behind_field text)))) fault is))

pub end_fault_last : (form : PpmForm) (total : ℕ) (text : List ℕ) (fault : PpmFault) → side_fault total text ≡ None → side_fault total (behind_field text) ≡ None → field_fault total (behind_field (behind_field text)) ≡ None → end_fault form total (behind_field (behind_field (behind_field text))) ≡ Some fault → header_fault form total text ≡ Some fault
end_fault_last form total text fault one two three is =
    second (side_fault total text) (behind_width form total text) fault one
    (second (side_fault total (behind_field text)) (behind_height form total text) fault two
    (second (field_fault total (behind_field (behind_field text))) (end_fault form total (behind_field (behind_field (behind_field text)))) fault three is))

-- ---- maxval and size

pub right_maxval : (maxval : ℕ) → maxval ≢ 0 → maxval ≤ 65535 → maxval_fault maxval ≡ None
right_maxval maxval some small = let zero = unlike maxval 0 some in let large = not_below 65535 maxval small in rw (zero, large) refl

-- maxval is 0 or too large
pub bad_maxval : (maxval : ℕ) → ((maxval ≢ 0) → maxval ≤ 65535 → ⊥) → maxval_fault maxval ≡ Some (Maxval maxval)
bad_maxval maxval bad = by (maxval == 0) refl (nat_lt 65535 maxval) refl
  where
    some : (n : ℕ) → (n == 0) ≡ false → n ≢ 0
    some n test = grind (arith, nat_tests)

    small : (n : ℕ) → nat_lt 65535 n ≡ false → n ≤ 65535
    small n test = grind (arith, nat_tests)

    by : (zero : Bool) → (maxval == 0) ≡ zero → (large : Bool) → nat_lt 65535 maxval ≡ large → maxval_fault maxval ≡ Some (Maxval maxval)
    by true zero large is = rw zero refl
    by false zero true is = rw (zero, is) refl
    by false zero false is = absurd (bad (some maxval zero) (small maxval is))

pub right_size : (width height : ℕ) → width * height ≤ 1048576 → pixel_count_fault width height ≡ None
right_size width height small = let test = not_below 1048576 (width * height) small in rw test refl

pub too_large : (width height : ℕ) → 1048576 < width * height → pixel_count_fault width height ≡ Some TooLarge
too_large width height large = let test = below 1048576 (width * height) large in rw test refl

-- ---- raw samples

pub few_raw : (total maxval wanted : ℕ) (bytes : List ℕ) → length bytes < wanted → raw_fault total maxval wanted bytes ≡ Some (Truncated wanted (length bytes))
few_raw total maxval wanted bytes few = let test = below (length bytes) wanted few in rw test refl

pub above_raw : (total maxval wanted index : ℕ) (bytes : List ℕ) → wanted ≤ length bytes → position (nat_lt maxval) (raw_samples maxval (take wanted bytes)) ≡ Some index → raw_fault total maxval wanted bytes ≡ Some (SampleAboveMaxval (place_of total bytes + index * sample_size maxval))
above_raw total maxval wanted index bytes enough above = let test = not_below (length bytes) wanted enough in rw (test, above) refl

pub more_raw : (total maxval wanted : ℕ) (bytes : List ℕ) → wanted < length bytes → position (nat_lt maxval) (raw_samples maxval (take wanted bytes)) ≡ None → raw_fault total maxval wanted bytes ≡ Some (Trailing (place_of total bytes + wanted))
more_raw total maxval wanted bytes more above = let test = not_below (length bytes) wanted (omega arith) in let left = below wanted (length bytes) more in rw (test, above, left) refl

pub right_raw : (total maxval wanted : ℕ) (bytes : List ℕ) → length bytes ≡ wanted → position (nat_lt maxval) (raw_samples maxval (take wanted bytes)) ≡ None → raw_fault total maxval wanted bytes ≡ None
right_raw total maxval wanted bytes exact above = let test = not_below (length bytes) wanted (omega arith) in let left = not_below wanted (length bytes) (omega arith) in rw (test, above, left) refl

-- ---- samples in decimal

pub no_sample : (total maxval wanted found : ℕ) (text : List ℕ) → length (start_of text) ≡ 0 → sample_fault total maxval wanted found text ≡ Some (Truncated wanted found)
no_sample total maxval wanted found text none = let test = like (length (start_of text)) 0 none in rw test refl

pub bad_sample : (total maxval wanted found : ℕ) (text : List ℕ) → length (start_of text) ≢ 0 → ends_token (behind_field text) ≡ false → sample_fault total maxval wanted found text ≡ Some (BadSample (place_of total (start_of text)))
bad_sample total maxval wanted found text some token = let test = unlike (length (start_of text)) 0 some in rw (test, token) refl

pub above_sample : (total maxval wanted found : ℕ) (text : List ℕ) → length (start_of text) ≢ 0 → ends_token (behind_field text) ≡ true → maxval < field_value text → sample_fault total maxval wanted found text ≡ Some (SampleAboveMaxval (place_of total (start_of text)))
above_sample total maxval wanted found text some token above = let test = unlike (length (start_of text)) 0 some in let large = below maxval (field_value text) above in rw (test, token, large) refl

pub right_sample : (total maxval wanted found : ℕ) (text : List ℕ) → length (start_of text) ≢ 0 → ends_token (behind_field text) ≡ true → field_value text ≤ maxval → sample_fault total maxval wanted found text ≡ None
right_sample total maxval wanted found text some token within = let test = unlike (length (start_of text)) 0 some in let small = not_below maxval (field_value text) within in rw (test, token, small) refl

pub right_pixel : (total maxval wanted found : ℕ) (text : List ℕ) → sample_fault total maxval wanted found text ≡ None → sample_fault total maxval wanted (found + 1) (behind_field text) ≡ None → sample_fault total maxval wanted (found + 2) (behind_field (behind_field text)) ≡ None → pixel_fault total maxval wanted found text ≡ None
right_pixel total maxval wanted found text r g b =
    or_none (sample_fault total maxval wanted found text) (option_or (sample_fault total maxval wanted (found + 1) (behind_field text)) (sample_fault total maxval wanted (found + 2) (behind_field (behind_field text)))) r
    (or_none (sample_fault total maxval wanted (found + 1) (behind_field text)) (sample_fault total maxval wanted (found + 2) (behind_field (behind_field text))) g b)

pub red_fault : (total maxval wanted found : ℕ) (text : List ℕ) (fault : PpmFault) → sample_fault total maxval wanted found text ≡ Some fault → pixel_fault total maxval wanted found text ≡ Some fault
red_fault total maxval wanted found text fault is = first (sample_fault total maxval wanted found text) (option_or (sample_fault total maxval wanted (found + 1) (behind_field text)) (sample_fault total maxval wanted (found + 2) (behind_field (behind_field text)))) fault is

pub green_fault : (total maxval wanted found : ℕ) (text : List ℕ) (fault : PpmFault) → sample_fault total maxval wanted found text ≡ None → sample_fault total maxval wanted (found + 1) (behind_field text) ≡ Some fault → pixel_fault total maxval wanted found text ≡ Some fault
green_fault total maxval wanted found text fault r is =
    second (sample_fault total maxval wanted found text) (option_or (sample_fault total maxval wanted (found + 1) (behind_field text)) (sample_fault total maxval wanted (found + 2) (behind_field (behind_field text)))) fault r
    (first (sample_fault total maxval wanted (found + 1) (behind_field text)) (sample_fault total maxval wanted (found + 2) (behind_field (behind_field text))) fault is)

pub blue_fault : (total maxval wanted found : ℕ) (text : List ℕ) (fault : PpmFault) → sample_fault total maxval wanted found text ≡ None → sample_fault total maxval wanted (found + 1) (behind_field text) ≡ None → sample_fault total maxval wanted (found + 2) (behind_field (behind_field text)) ≡ Some fault → pixel_fault total maxval wanted found text ≡ Some fault
blue_fault total maxval wanted found text fault r g is =
    second (sample_fault total maxval wanted found text) (option_or (sample_fault total maxval wanted (found + 1) (behind_field text)) (sample_fault total maxval wanted (found + 2) (behind_field (behind_field text)))) fault r
    (second (sample_fault total maxval wanted (found + 1) (behind_field text)) (sample_fault total maxval wanted (found + 2) (behind_field (behind_field text))) fault g is)

pub right_tail : (total : ℕ) (text : List ℕ) → length (start_of text) ≡ 0 → tail_fault total text ≡ None
right_tail total text none = let test = like (length (start_of text)) 0 none in rw test refl

pub bad_tail : (total : ℕ) (text : List ℕ) → length (start_of text) ≢ 0 → tail_fault total text ≡ Some (Trailing (place_of total (start_of text)))
bad_tail total text some = let test = unlike (length (start_of text)) 0 some in rw test refl

-- ---- the whole text

abbrev behind_header : PpmForm → List ℕ → Option PpmFault
behind_header form text = option_or (maxval_fault (head_of text).maxval) (option_or (pixel_count_fault (head_of text).width (head_of text).height) (samples_fault form (length text) (head_of text)))

abbrev behind_maxval : PpmForm → List ℕ → Option PpmFault
behind_maxval form text = option_or (pixel_count_fault (head_of text).width (head_of text).height) (samples_fault form (length text) (head_of text))

pub header_first : (form : PpmForm) (text : List ℕ) (fault : PpmFault) → header_fault form (length text) (drop 2 text) ≡ Some fault → fault_of form text ≡ Some fault
header_first form text fault is = first (header_fault form (length text) (drop 2 text)) (behind_header form text) fault is

pub maxval_second : (form : PpmForm) (text : List ℕ) (fault : PpmFault) → header_fault form (length text) (drop 2 text) ≡ None → maxval_fault (head_of text).maxval ≡ Some fault → fault_of form text ≡ Some fault
maxval_second form text fault one is = second (header_fault form (length text) (drop 2 text)) (behind_header form text) fault one (first (maxval_fault (head_of text).maxval) (behind_maxval form text) fault is)

pub size_third : (form : PpmForm) (text : List ℕ) (fault : PpmFault) → header_fault form (length text) (drop 2 text) ≡ None → maxval_fault (head_of text).maxval ≡ None → pixel_count_fault (head_of text).width (head_of text).height ≡ Some fault → fault_of form text ≡ Some fault
size_third form text fault one two is =
    second (header_fault form (length text) (drop 2 text)) (behind_header form text) fault one
    (second (maxval_fault (head_of text).maxval) (behind_maxval form text) fault two
    (first (pixel_count_fault (head_of text).width (head_of text).height) (samples_fault form (length text) (head_of text)) fault is))

pub samples_last : (form : PpmForm) (text : List ℕ) (found : Option PpmFault) → header_fault form (length text) (drop 2 text) ≡ None → maxval_fault (head_of text).maxval ≡ None → pixel_count_fault (head_of text).width (head_of text).height ≡ None → samples_fault form (length text) (head_of text) ≡ found → fault_of form text ≡ found
samples_last form text found one two three is =
    ap (λ q. option_or q (behind_header form text)) one
    ∙ ap (λ q. option_or q (behind_maxval form text)) two
    ∙ ap (λ q. option_or q (samples_fault form (length text) (head_of text))) three
    ∙ is
